-- A request and its word.
--     packed_without, packed_with                   the word, by cases
--     packed_small                                  a word has 53 bits
--     past_all, back_without, back_none, back_with  what a word stands for, by cases
--     unpack_pack                                   a proper request is read back from its word: packing loses nothing
--     packed_only                                   two proper requests with equal words are equal
--     pack_unpack                                   a word that stands for a request is that request's word, and the request is proper
-- Assumes: nothing.
use Rattle.std.specs.Prelude.{None, Option, Some}
use Prim.Native.Nat.{ℕ, ◌+◌, ◌-◌, ◌*◌, ◌^◌, ◌≤◌, ◌<◌}
use native.Mathlib.Omega.{arith}
use mathlib.Core.Path.{◌≡◌, refl, sym, ap, ◌∙◌}
use mathlib.Core.Bool.{Bool, true, false}
use borrow.Author.Tests.{lt-ltb, le-ltb, le-leb, lt-leb, eq-eqb, ne_eqb, leb-true, leb-false, ltb-true, ltb-false, eqb-true, eqb-false}
use lib.Dec.{eqb, leb, ltb}
use Rattle.bit_fields.specs.Bits.{low, high}
use Rattle.ids.specs.Ids.{refusal3}
use Rattle.ids.proofs.IdsLaws.{refused_with_lem}
use Rattle.ids.specs.Packing.{packed, unpacked, by_part, request_of, Proper, part_of}
use Rattle.ids.specs.declared.SubstreamId.{SubstreamId}
use Rattle.ids.specs.declared.Request.{Request}

module _ (request : Request) where
  pub packed_without : request.substream ≡ None → request.stream.number * 2097152 ≡ packed request
  unfolding packed
  packed_without is = rw is (omega arith)

  pub packed_with : {id : SubstreamId} {n : ℕ} → request.substream ≡ Some id → n ≡ low id.number 20 → request.stream.number * 2097152 + (1048576 + n) ≡ packed request
  unfolding packed
  packed_with is low_is = rw (is, low_is)

pub packed_small : (request : Request) → request.stream.number < 2 ^ 32 → packed request < 2 ^ 53
unfolding packed
packed_small request narrow = go request.substream
  where
    go : (s : Option SubstreamId) → request.stream.number * 2097152 + part_of s < 2 ^ 53
    go None = omega arith
    go (Some id) = omega arith

module _ (word : ℕ) where
  pub past_all : 2 ^ 53 ≤ word → None ≡ unpacked word
  unfolding unpacked
  past_all past = simp (le-leb _ _ past)

  module _ (fits : word < 2 ^ 53) {n part : ℕ} (above : n ≡ high word 21) (below : part ≡ low word 21) where
    by_part_lem : unpacked word ≡ by_part n part
    unfolding unpacked
    by_part_lem = simp (lt-leb _ _ fits, ← above, ← below)

    pub back_without : part ≡ 0 → Some (request_of n None) ≡ unpacked word
    back_without none = rw by_part_lem (simp (eq-eqb _ _ none))

    pub back_none : (part ≡ 0 → ⊥) → part < 2 ^ 20 → None ≡ unpacked word
    back_none some small = rw by_part_lem (simp (ne_eqb _ _ some, lt-ltb _ _ small))

    pub back_with : (part ≡ 0 → ⊥) → 2 ^ 20 ≤ part → Some (request_of n (Some (record { number = part - 1048576 }))) ≡ unpacked word
    back_with some large = rw by_part_lem (simp (ne_eqb _ _ some, le-ltb _ _ large))

whole : (request : Request) {s : Option SubstreamId} → request.substream ≡ s → request_of request.stream.number s ≡ request
whole request is = rw (← is)

pub unpack_pack : (request : Request) → Proper request → unpacked (packed request) ≡ Some request
unpack_pack request proper = go request.substream refl
  where
    go : (s : Option SubstreamId) → request.substream ≡ s → unpacked (packed request) ≡ Some request
    go None is =
        let word : request.stream.number * 2097152 ≡ packed request = packed_without request is in
        sym (back_without (packed request) (omega (arith, proper.stream)) {n = request.stream.number} {part = 0} (omega arith) (omega arith) refl)
        ∙ ap Some (whole request is)
    go (Some id) is =
        let small : id.number < 2 ^ 20 = leb-false (2 ^ 20) id.number (refused_with_lem request is ∙ proper.substream) in
        let word : request.stream.number * 2097152 + (1048576 + low id.number 20) ≡ packed request = packed_with request is refl in
        let number : 1048576 + id.number - 1048576 ≡ id.number = omega arith in
        sym
        (back_with (packed request) (omega (arith, proper.stream)) {n = request.stream.number} {part = 1048576 + id.number}
        (omega arith) (omega arith) (λ e. omega arith) (omega arith))
        ∙ ap Some (rw number (whole request is))

pub packed_only : (q r : Request) → Proper q → Proper r → packed q ≡ packed r → q ≡ r
packed_only q r proper proper' same =
    let both : Some q ≡ Some r = sym (unpack_pack q proper) ∙ ap unpacked same ∙ unpack_pack r proper' in
    cc

-- a word that stands for a request
pub record Word (word : ℕ) (request : Request) : Type 0 where
  pub again : packed request ≡ word
  pub proper : Proper request

module _ (word : ℕ) where
  word_without : word < 2 ^ 53 → low word 21 ≡ 0 → Word word (request_of (high word 21) None)
  unfolding packed refusal3
  word_without fits none = record { again = omega arith; proper = record { stream = omega arith; substream = refl } }

  word_with : word < 2 ^ 53 → 2 ^ 20 ≤ low word 21 → Word word (request_of (high word 21) (Some (record { number = low word 21 - 1048576 })))
  unfolding packed refusal3
  word_with fits large =
      record { again = omega arith; proper = record { stream = omega arith; substream = lt-leb (2 ^ 20) (low word 21 - 1048576) (omega arith) } }

  pub pack_unpack : {request : Request} → unpacked word ≡ Some request → Word word request
  pack_unpack {request} said = go (leb (2 ^ 53) word) refl (eqb (low word 21) 0) refl (ltb (low word 21) (2 ^ 20)) refl
    where
      one : {other : Request} → Some other ≡ unpacked word → Word word other → Word word request
      one {other} back given = let same : other ≡ request = cc in rw same at given

      none : None ≡ unpacked word → Word word request
      none back = let z : ◌≡◌ {A = ℕ} 0 1 = cc in absurd (omega arith)

      go : (a : Bool) → leb (2 ^ 53) word ≡ a → (b : Bool) → eqb (low word 21) 0 ≡ b → (c : Bool) → ltb (low word 21) (2 ^ 20) ≡ c → Word word request
      go true e b f c g = none (past_all word (leb-true _ _ e))
      go false e true f c g =
          let fits = leb-false (2 ^ 53) word e in
          let zero = eqb-true (low word 21) 0 f in
          one (back_without word fits refl refl zero) (word_without fits zero)
      go false e false f true g =
          let fits = leb-false (2 ^ 53) word e in
          none (back_none word fits refl refl (eqb-false (low word 21) 0 f) (ltb-true (low word 21) (2 ^ 20) g))
      go false e false f false g =
          let fits = leb-false (2 ^ 53) word e in
          let large = ltb-false (low word 21) (2 ^ 20) g in
          one (back_with word fits refl refl (eqb-false (low word 21) 0 f) large) (word_with fits large)
