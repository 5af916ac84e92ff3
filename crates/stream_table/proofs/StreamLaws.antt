-- Each way out of the walk, on plain values.
--     two_fault, two_read         the L1STD isn't fetched; it is
--     find_off, find_past, find_linear, find_two  steps 1 to 4
--     stream_few, stream_every    at most one descriptor is fetched, and it is 8 bytes long
--     stream_unread               where none is fetched whatever the memory holds
--     stream_proper               where it ends, it ends with a proper outcome
-- Assumes: nothing.
use Prim.Native.Nat.{ℕ, ◌^◌, ◌≤◌}
use native.Mathlib.Omega.{arith}
use mathlib.Core.Path.{◌≡◌, refl, sym, ap, ◌∙◌}
use mathlib.Core.Bool.{Bool, true, false, not}
use mathlib.Core.List.{List}
use mathlib.Core.Logic.{◌⊎◌, inl, inr}
use borrow.Author.Tests.{eq-eqb, ne_eqb, le-leb, lt-leb, ltb-false, ltb-true, not-true, not-false}
use lib.Dec.{eqb, leb, ltb}
use Rattle.bit_fields.specs.Bits.{low, in_bits}
use Rattle.std.specs.Prelude.{if◌then◌else◌, Err, None, Ok, Option, Result, Some}
use Rattle.bit_fields.proofs.ChoiceLaws.{either}
use Rattle.registers.specs.Fields.{smmu_en}
use Rattle.registers.specs.Fields as fields
use Rattle.registers.specs.declared.Registers.{Registers}
use Rattle.memory_image.specs.Extent.{wanted}
use Rattle.memory_image.specs.Words.{word_of}
use Rattle.memory_image.specs.declared.Fetched.{Fetched}
use Rattle.memory_image.specs.declared.Fetched.TheVariants.{At, Outside}
use Rattle.memory_image.specs.Rule.{Rule, done, Fetches, Every, Gives}
use Rattle.answers.specs.Outcome.{c_bad_stream_id, f_ste_fetch, fetch_event}
use Rattle.answers.specs.Walk.{Walks, Reads}
use Rattle.answers.specs.Proper.{listed_event, proper_outcome}
use Rattle.answers.specs.declared.Outcome.{Outcome}
use Rattle.answers.specs.declared.Outcome.TheVariants.{Abort, Fault}
use Rattle.answers.proofs.WalkLaws.{walk_done, walk_fault, read_one}
use Rattle.answers.proofs.ProperLaws.{EndsProper}
use Rattle.stream_table.specs.StreamTable.{switched_off, log2, is_linear, linear_at, split_of, l1std_at, stes_held, span_of, in_leaf, leaf_rule, two_level_rule, stream_rule}

module _ (base : ℕ) (memory : List ℕ) (r : Registers) (stream : ℕ) (ws : List ℕ) where
  abbrev Goes : Rule (Result ℕ Outcome) → Result ℕ Outcome → List ℕ → Type 0
  Goes rule = Walks base memory rule ws

  module _ (split : ℕ) {address : ℕ} (at : address ≡ l1std_at r split stream) {said : Fetched} {longer : List ℕ}
      (reads : Reads base memory address 8 ws said longer) where
    pub two_fault : {a got : ℕ} → said ≡ Outside a → got ≡ wanted said → Goes (two_level_rule r split stream) (Err (Fault f_ste_fetch got)) longer
    unfolding two_level_rule
    two_fault out told =
        rw (← at) (walk_fault base memory address 1 reads (λ a. Err (Fault f_ste_fetch a)) (λ w. done (leaf_rule r split (w 0) stream)) out told)

    pub two_read :
        {place : ℕ} {found : Result ℕ Outcome} → said ≡ At place → {w : ℕ → ℕ} → w ≡ word_of memory place → {word : ℕ} → word ≡ w 0
        → found ≡ leaf_rule r split word stream → Goes (two_level_rule r split stream) found longer
    unfolding two_level_rule
    two_read had own {word} read leaf =
        rw (← at)
        (read_one base memory address 1 reads (done (Err (Fault f_ste_fetch address))) (λ word. leaf_rule r split word stream) (omega arith) had (read ∙ rw own) leaf)

  module _ {on : ℕ} (enabled : on ≡ smmu_en r) where
    pub find_off : on ≡ 0 → {outcome : Outcome} → outcome ≡ switched_off r → Goes (stream_rule r stream) (Err outcome) ws
    unfolding stream_rule
    find_off off is = simp (← enabled, eq-eqb _ _ off) (walk_done base memory (ap Err is) ws)

    module _ (set : on ≡ 0 → ⊥) {size : ℕ} (effective : size ≡ log2 r) {fits : Bool} (test : fits ≡ in_bits stream size) where
      pub find_past : not fits ≡ true → Goes (stream_rule r stream) (Err (Abort c_bad_stream_id)) ws
      unfolding stream_rule
      find_past out =
          let no : ltb stream (2 ^ log2 r) ≡ false = ap (in_bits stream) (sym effective) ∙ sym test ∙ not-true fits out in
          simp (← enabled, ne_eqb _ _ set, le-leb (2 ^ log2 r) stream (ltb-false stream (2 ^ log2 r) no)) (walk_done base memory refl ws)

      module _ (inside : not fits ≡ false) {flat : Bool} (kind : flat ≡ is_linear r) where
        to_kind :
            stream_rule r stream
            ≡ (if is_linear r then done (Ok (linear_at r stream)) else two_level_rule r (split_of (fields.split r)) stream)
        unfolding stream_rule
        to_kind =
            let yes : ltb stream (2 ^ log2 r) ≡ true = ap (in_bits stream) (sym effective) ∙ sym test ∙ not-false fits inside in
            simp (← enabled, ne_eqb _ _ set, lt-leb (2 ^ log2 r) stream (ltb-true stream (2 ^ log2 r) yes))

        pub find_linear : flat ≡ true → {address : ℕ} → address ≡ linear_at r stream → Goes (stream_rule r stream) (Ok address) ws
        find_linear so at = rw (to_kind, ← kind, so) (walk_done base memory (ap Ok at) ws)

        pub find_two :
            flat ≡ false → {code split : ℕ} {found : Result ℕ Outcome} {longer : List ℕ} → code ≡ fields.split r → split ≡ split_of code
            → Goes (two_level_rule r split stream) found longer → Goes (stream_rule r stream) found longer
        find_two deep is_code is_split walk = rw (to_kind, ← kind, deep, ← is_code, ← is_split) walk

off_proper : (r : Registers) → proper_outcome (switched_off r) ≡ true
unfolding switched_off proper_outcome
off_proper r = either (λ o. proper_outcome o ≡ true) (eqb (fields.abort r) 1) refl refl

leaf_proper : (r : Registers) (split l1std stream : ℕ) → EndsProper (leaf_rule r split l1std stream)
unfolding leaf_rule proper_outcome listed_event
leaf_proper r split l1std stream = go (stes_held (span_of l1std) split)
  where
    go : (leaf : Option ℕ) → EndsProper (in_leaf leaf l1std (low stream split))
    go None = refl
    go (Some n) = either EndsProper (leb n (low stream split)) refl tt

-- what holds of a rule that is done, with a proper outcome where it ends, and of the two-level one holds of the whole
module _ (r : Registers) (stream : ℕ) where
  stream_cases :
      (Q : Rule (Result ℕ Outcome) → Type 0) → ((x : Result ℕ Outcome) → EndsProper x → Q (done x)) → Q (two_level_rule r (split_of (fields.split r)) stream)
      → Q (stream_rule r stream)
  unfolding stream_rule proper_outcome listed_event
  stream_cases Q finished deep =
      either Q (eqb (smmu_en r) 0) (finished (Err (switched_off r)) (off_proper r))
      (either Q (leb (2 ^ log2 r) stream) (finished (Err (Abort c_bad_stream_id)) refl)
      (either Q (is_linear r) (finished (Ok (linear_at r stream)) tt) deep))

  pub stream_few : Fetches 1 (stream_rule r stream)
  unfolding two_level_rule
  stream_few = stream_cases (Fetches 1) (λ x proper. tt) (tt, λ w. tt)

  pub stream_every : (P : ℕ → Type 0) → P 8 → Every P (stream_rule r stream)
  unfolding two_level_rule
  stream_every P eight = stream_cases (Every P) (λ x proper. tt) (eight, (tt, λ w. tt))

  pub stream_proper : Gives EndsProper (stream_rule r stream)
  unfolding two_level_rule proper_outcome fetch_event
  stream_proper =
      stream_cases (Gives EndsProper) (λ x proper. proper) (refl, λ w. leaf_proper r (split_of (fields.split r)) (w 0) stream)

  -- it ends without a fetch
  abbrev Unread : Rule (Result ℕ Outcome) → Type 0
  Unread rule = (outcome : Outcome) × (rule ≡ done (Err outcome))

  pub stream_unread : (smmu_en r ≡ 0) ⊎ (2 ^ log2 r ≤ stream) → Unread (stream_rule r stream)
  unfolding stream_rule
  stream_unread (inl off) = (switched_off r, simp (eq-eqb _ _ off))
  stream_unread (inr past) =
      either Unread (eqb (smmu_en r) 0) (switched_off r, refl) (Abort c_bad_stream_id, simp (le-leb _ _ past))
