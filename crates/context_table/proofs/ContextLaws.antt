-- Each way out of the walk to a CD, on plain values.
--     two_fault, two_read              the L1CD isn't fetched; it is
--     find_alone, find_linear, find_two  S1CDMax 0; S1Fmt 0; the rest
--     context_few, context_every       at most one descriptor is fetched, and it is 8 bytes long
--     context_proper                   where it ends, it ends with a proper outcome
-- Assumes: nothing.
use Rattle.std.specs.Prelude.{Err, Ok, Result}
use Rattle.answers.specs.declared.Outcome.{Outcome}
use Prim.Native.Nat.{ℕ, ◌+◌, ◌*◌}
use native.Mathlib.Omega.{arith}
use mathlib.Core.Path.{◌≡◌, refl, ap, ◌∙◌}
use mathlib.Core.List.{List}
use borrow.Author.Tests.{eq-eqb, ne_eqb}
use lib.Dec.{eqb}
use Rattle.bit_fields.proofs.ChoiceLaws.{either}
use Rattle.bit_fields.specs.Bits.{bits, high}
use Rattle.memory_image.specs.Extent.{wanted}
use Rattle.memory_image.specs.Words.{word_of}
use Rattle.memory_image.specs.declared.Fetched.{Fetched}
use Rattle.memory_image.specs.declared.Fetched.TheVariants.{At, Outside}
use Rattle.memory_image.specs.Rule.{Rule, done, Fetches, Every, Gives}
use Rattle.registers.specs.declared.Registers.{Registers}
use Rattle.answers.specs.Outcome.{f_cd_fetch, fetch_event}
use Rattle.answers.specs.Walk.{Walks, Reads}
use Rattle.answers.specs.Proper.{listed_event, proper_outcome}
use Rattle.answers.specs.declared.Outcome.TheVariants.{Fault}
use Rattle.answers.proofs.WalkLaws.{walk_done, walk_fault, read_one}
use Rattle.answers.proofs.ProperLaws.{EndsProper}
use Rattle.stream_entry.specs.StreamEntry.{s1_fmt, s1_cd_max, s1_context_ptr}
use Rattle.context_table.specs.ContextTable.{leaf_bits, l1cd_rule, two_level_rule, context_rule}

module _ (base : ℕ) (memory : List ℕ) (r : Registers) (ws : List ℕ) where
  abbrev Goes : Rule (Result ℕ Outcome) → Result ℕ Outcome → List ℕ → Type 0
  Goes rule = Walks base memory rule ws

  module _ (w : ℕ → ℕ) (leaf index : ℕ) {pointer above : ℕ} (is_pointer : pointer ≡ s1_context_ptr w) (upper : above ≡ high index leaf)
      {said : Fetched} {longer : List ℕ} (reads : Reads base memory (pointer + 8 * above) 8 ws said longer) where
    pub two_fault :
        {a got : ℕ} → said ≡ Outside a → got ≡ wanted said → Goes (two_level_rule r (s1_context_ptr w) leaf index) (Err (Fault f_cd_fetch got)) longer
    unfolding two_level_rule
    two_fault out told =
        rw (← is_pointer, ← upper)
        (walk_fault base memory (pointer + 8 * above) 1 reads (λ a. Err (Fault f_cd_fetch a)) (λ entry. done (l1cd_rule r leaf (entry 0) index)) out told)

    pub two_read :
        {place : ℕ} {found : Result ℕ Outcome} → said ≡ At place → {own : ℕ → ℕ} → own ≡ word_of memory place → {l1cd : ℕ} → l1cd ≡ own 0 → found ≡ l1cd_rule r leaf l1cd index
        → Goes (two_level_rule r (s1_context_ptr w) leaf index) found longer
    unfolding two_level_rule
    two_read had is {l1cd} read says =
        rw (← is_pointer, ← upper)
        (read_one base memory (pointer + 8 * above) 1 reads (done (Err (Fault f_cd_fetch (pointer + 8 * above)))) (λ entry. l1cd_rule r leaf entry index)
        (omega arith) had (read ∙ rw is) says)

  module _ (w : ℕ → ℕ) (index : ℕ) {pointer max : ℕ} (is_pointer : pointer ≡ s1_context_ptr w) (is_max : max ≡ s1_cd_max r w) where
    pub find_alone : max ≡ 0 → Goes (context_rule r w index) (Ok pointer) ws
    unfolding context_rule
    find_alone none = simp (← is_max, eq-eqb _ _ none) (walk_done base memory (ap Ok is_pointer) ws)

    module _ (some : max ≡ 0 → ⊥) {format : ℕ} (is_format : format ≡ s1_fmt w) where
      pub find_linear : format ≡ 0 → Goes (context_rule r w index) (Ok (pointer + 64 * index)) ws
      unfolding context_rule
      find_linear flat =
          simp (← is_max, ne_eqb _ _ some, ← is_format, eq-eqb _ _ flat)
          (walk_done base memory (ap (λ (p : ℕ). Ok (p + 64 * index)) is_pointer) ws)

      pub find_two :
          (format ≡ 0 → ⊥) → {leaf : ℕ} {found : Result ℕ Outcome} {longer : List ℕ} → leaf ≡ leaf_bits format
          → Goes (two_level_rule r (s1_context_ptr w) leaf index) found longer → Goes (context_rule r w index) found longer
      unfolding context_rule
      find_two deep is_leaf walk =
          simp (← is_max, ne_eqb _ _ some, ← is_format, ne_eqb _ _ deep) (rw is_leaf at walk)

l1cd_proper : (r : Registers) (leaf l1cd index : ℕ) → EndsProper (l1cd_rule r leaf l1cd index)
unfolding l1cd_rule proper_outcome listed_event
l1cd_proper r leaf l1cd index = either EndsProper (eqb (bits 0 0 l1cd) 0) refl tt

-- what holds of a rule that is done with a CD's address and of the two-level one holds of the whole
module _ (r : Registers) (w : ℕ → ℕ) (index : ℕ) where
  context_cases :
      (Q : Rule (Result ℕ Outcome) → Type 0) → ((cd : ℕ) → Q (done (Ok cd)))
      → Q (two_level_rule r (s1_context_ptr w) (leaf_bits (s1_fmt w)) index) → Q (context_rule r w index)
  unfolding context_rule
  context_cases Q finished deep =
      either Q (eqb (s1_cd_max r w) 0) (finished (s1_context_ptr w))
      (either Q (eqb (s1_fmt w) 0) (finished (s1_context_ptr w + 64 * index)) deep)

  pub context_few : Fetches 1 (context_rule r w index)
  unfolding two_level_rule
  context_few = context_cases (Fetches 1) (λ cd. tt) (tt, λ entry. tt)

  pub context_every : (P : ℕ → Type 0) → P 8 → Every P (context_rule r w index)
  unfolding two_level_rule
  context_every P eight = context_cases (Every P) (λ cd. tt) (eight, (tt, λ entry. tt))

  pub context_proper : Gives EndsProper (context_rule r w index)
  unfolding two_level_rule proper_outcome fetch_event
  context_proper =
      context_cases (Gives EndsProper) (λ cd. tt) (refl, λ entry. l1cd_proper r (leaf_bits (s1_fmt w)) (entry 0) index)
