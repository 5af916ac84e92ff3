-- A book that isn't malformed, as a statement.
--     Well, well_to, well_from_lem      refusal 7 is not given
--     Held, held_to, held_from          what a held slot of such a book has
--     first_key, first_low, first_is    the search for a key
-- Assumes: nothing.
use Prim.Native.Nat.{ℕ, zero, suc, ◌+◌, ◌-◌, ◌≤◌, ◌<◌}
use native.Mathlib.Omega.{arith}
use mathlib.Core.Path.{◌≡◌, refl, sym}
use mathlib.Core.Bool.{Bool, true, false, not}
use mathlib.Core.List.{List}
use borrow.Author.Tests.{eq-eqb, ne_eqb, le-ltb, lt-leb, eqb-true, eqb-false, ltb-true, ltb-false, leb-false, not-false}
use lib.Dec.{eqb, leb, ltb}
use Rattle.number_laws.proofs.Tests.{not_both}
use Rattle.std.specs.Prelude.{if◌then◌else◌, None, Option, Some}
use Rattle.bit_fields.proofs.ChoiceLaws.{by_test}
use Rattle.placed.proofs.FromLaws.{all_each, all_every}
use Rattle.ids.specs.Packing.{unpacked}
use Rattle.ids.specs.declared.Request.{Request}
use Rattle.registers.specs.Sizes.{refusal1}
use Rattle.memory_image.specs.Extent.{refusal2}
use Rattle.answer_words.specs.AnswerWords.{stands}
use Rattle.book_words.specs.Layout.{slots_most, slots_of, registers_of, extent_held, key_at, block_at}
use Rattle.book_words.specs.Malformed.{first_from, some_request, slot_well, registers_fit, refusal7}

-- the search for a key: where it stops the key stands, and it stops at the first
pub first_key : (m : ℕ) (ws : List ℕ) (x i : ℕ) → first_from ws x m i < i + m → key_at ws (first_from ws x m i) ≡ x
unfolding first_from
first_key zero ws x i found = absurd (omega arith)
first_key (suc m) ws x i found = go (eqb (key_at ws i) x) refl found (first_key m ws x (i + 1))
  where
    go :
        (t : Bool) → eqb (key_at ws i) x ≡ t → (if t then i else first_from ws x m (i + 1)) < i + suc m
        → (first_from ws x m (i + 1) < i + 1 + m → key_at ws (first_from ws x m (i + 1)) ≡ x)
        → key_at ws (if t then i else first_from ws x m (i + 1)) ≡ x
    go true e found more = eqb-true _ _ e
    go false e found more = more (omega arith)

pub first_low : (m : ℕ) (ws : List ℕ) (x i j : ℕ) → key_at ws j ≡ x → i ≤ j → j < i + m → first_from ws x m i ≤ j
unfolding first_from
first_low zero ws x i j is from to = absurd (omega arith)
first_low (suc m) ws x i j is from to = go (eqb (key_at ws i) x) refl (eqb i j) refl (first_low m ws x (i + 1) j is)
  where
    go :
        (t : Bool) → eqb (key_at ws i) x ≡ t → (u : Bool) → eqb i j ≡ u
        → (i + 1 ≤ j → j < i + 1 + m → first_from ws x m (i + 1) ≤ j) → (if t then i else first_from ws x m (i + 1)) ≤ j
    go true e u f more = from
    go false e true f more = absurd (eqb-false (key_at ws i) x e (rw (eqb-true i j f) is))
    go false e false f more = let other : i ≡ j → ⊥ = eqb-false i j f in more (omega arith) (omega arith)

-- where no slot before has the key
pub first_is :
    (ws : List ℕ) (x i : ℕ) → i < slots_most → key_at ws i ≡ x → ((j : ℕ) → j < i → key_at ws j ≡ x → ⊥) → first_from ws x slots_most 0 ≡ i
first_is ws x i small is alone =
    go (ltb (first_from ws x slots_most 0) i) refl
  where
    low : first_from ws x slots_most 0 ≤ i
    low = first_low slots_most ws x 0 i is (omega arith) (omega arith)

    go : (t : Bool) → ltb (first_from ws x slots_most 0) i ≡ t → first_from ws x slots_most 0 ≡ i
    go true e =
        let less : first_from ws x slots_most 0 < i = ltb-true _ _ e in
        absurd (alone (first_from ws x slots_most 0) less (first_key slots_most ws x 0 (omega arith)))
    go false e = let more : i ≤ first_from ws x slots_most 0 = ltb-false _ _ e in omega (arith, low)

-- what a held slot has
pub record Held (ws : List ℕ) (i : ℕ) : Type 0 where
  pub inside : i < slots_of ws
  pub request : Request
  pub is_request : unpacked (key_at ws i - 1) ≡ Some request
  pub alone : (j : ℕ) → j < i → key_at ws j ≡ key_at ws i → ⊥
  pub answer : stands (block_at ws i) ≡ true

has_request : {A : Type 0} (u : Option Request) → some_request u ≡ true → ((request : Request) → u ≡ Some request → A) → A
has_request None is next = not_both (sym is)
has_request (Some request) is next = next request refl

module _ (ws : List ℕ) (i : ℕ) (small : i < slots_most) where
  pub held_to : slot_well ws i ≡ true → (key_at ws i ≡ 0 → ⊥) → Held ws i
  unfolding slot_well
  held_to well held =
      by_test Has (eqb (key_at ws i) 0) (λ none is. absurd (held (eqb-true (key_at ws i) 0 none)))
      (λ key. by_test Has (leb (slots_of ws) i) (λ past is. not_both (sym is))
      (λ inside. by_test Has (not (some_request (unpacked (key_at ws i - 1)))) (λ none is. not_both (sym is))
      (λ some. by_test Has (not (eqb (first_from ws (key_at ws i) slots_most 0) i)) (λ again is. not_both (sym is))
      (λ once is. has_request (unpacked (key_at ws i - 1)) (not-false _ some)
      (λ request is_request.
      let first : first_from ws (key_at ws i) slots_most 0 ≡ i = eqb-true _ _ (not-false _ once) in
      record {
        inside = leb-false (slots_of ws) i inside;
        request = request;
        is_request = is_request;
        alone = λ j less same.
            let low : first_from ws (key_at ws i) slots_most 0 ≤ j = first_low slots_most ws (key_at ws i) 0 j same (omega arith) (omega arith) in
            omega arith;
        answer = is;
      }))))) well
    where
      Has : Bool → Type 0
      Has test = test ≡ true → Held ws i

  pub held_from : ((key_at ws i ≡ 0 → ⊥) → Held ws i) → slot_well ws i ≡ true
  unfolding slot_well
  held_from has =
      by_test (λ test. test ≡ true) (eqb (key_at ws i) 0) (λ empty. refl)
      (λ key.
      let h = has (eqb-false (key_at ws i) 0 key) in
      simp (lt-leb _ _ h.inside, h.is_request, eq-eqb _ _ (first_is ws (key_at ws i) i small refl h.alone), h.answer))

pub record Well (ws : List ℕ) : Type 0 where
  pub some : slots_of ws ≡ 0 → ⊥
  pub few : slots_of ws ≤ slots_most
  pub fit : registers_fit ws ≡ true
  pub registers : refusal1 (registers_of ws) ≡ false
  pub extent : refusal2 (extent_held ws) ≡ false
  pub slots : (i : ℕ) → i < slots_most → slot_well ws i ≡ true

module _ (ws : List ℕ) where
  pub well_to : refusal7 ws ≡ false → Well ws
  unfolding refusal7
  well_to =
      by_test To (eqb (slots_of ws) 0) (λ none. not_both)
      (λ some. by_test To (ltb slots_most (slots_of ws)) (λ many. not_both)
      (λ few. by_test To (not (registers_fit ws)) (λ wide. not_both)
      (λ fit. by_test To (refusal1 (registers_of ws)) (λ first. not_both)
      (λ registers. by_test To (refusal2 (extent_held ws)) (λ second. not_both)
      (λ extent good.
      record {
        some = eqb-false (slots_of ws) 0 some;
        few = ltb-false slots_most (slots_of ws) few;
        fit = not-false _ fit;
        registers = registers;
        extent = extent;
        slots = λ i small. all_each (slot_well ws) slots_most 0 i (not-false _ good) (omega arith) (omega arith);
      })))))
    where
      To : Bool → Type 0
      To refused = refused ≡ false → Well ws

  pub well_from_lem : Well ws → refusal7 ws ≡ false
  unfolding refusal7
  well_from_lem well =
      simp (
        ne_eqb _ _ well.some,
        le-ltb _ _ well.few,
        well.fit,
        well.registers,
        well.extent,
        all_every (slot_well ws) slots_most 0 (λ i from to. well.slots i (omega arith)),
      )
