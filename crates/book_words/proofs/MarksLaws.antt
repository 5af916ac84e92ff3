-- The marks of the search for equal keys, for any place that a key may have.
--     mark_place                a key's place is among the marks
--     marked_more               one slot more
--     first_unmarked            a key without a mark stands in no slot below
-- Assumes: nothing.
use Prim.Native.Nat.{ℕ, zero, suc, ◌+◌, ◌-◌, ◌≤◌, ◌<◌}
use native.Mathlib.Omega.{arith}
use native.Mathlib.Nat.{sub-zero}
use mathlib.Core.Path.{◌≡◌, refl, sym, ap, ◌∙◌}
use mathlib.Core.Bool.{Bool, true, false}
use mathlib.Core.List.{List}
use borrow.Author.Tests.{eqb-true, eqb-false}
use lib.Dec.{eqb}
use lib.ListN.{get_or, set, length-set}
use lib.Seq.{get_or-set_same, get_or-set_other}
use Rattle.book_words.specs.Layout.{slots_most, key_at}
use Rattle.book_words.specs.Malformed.{first_from}
use Rattle.book_words.specs.Marks.{marks, mark_of, MarkedBy, Marked}
use Rattle.book_words.proofs.ScanLaws.{first_found, first_more}

pub mark_place : (key : ℕ) → mark_of key < marks
mark_place key = omega arith

module _ (place : ℕ → ℕ) (ws : List ℕ) where
  by_more :
      (i : ℕ) (seen : List ℕ) → place (key_at ws i) < marks → MarkedBy place ws i seen
      → MarkedBy place ws (i + 1) (set seen (place (key_at ws i)) 1)
  by_more i seen inside so_far =
      record {
        room = length-set seen (place (key_at ws i)) 1 ∙ so_far.room;
        marked = λ j less. at j less (eqb (place (key_at ws j)) (place (key_at ws i))) refl;
      }
    where
      at :
          (j : ℕ) → j < i + 1 → (b : Bool) → eqb (place (key_at ws j)) (place (key_at ws i)) ≡ b
          → get_or (set seen (place (key_at ws i)) 1) (place (key_at ws j)) 0 ≡ 1
      at j less true same =
          rw (eqb-true (place (key_at ws j)) (place (key_at ws i)) same)
          (get_or-set_same seen (place (key_at ws i)) 1 0 (rw so_far.room inside))
      at j less false other =
          let differ = eqb-false (place (key_at ws j)) (place (key_at ws i)) other in
          get_or-set_other seen (place (key_at ws i)) (place (key_at ws j)) 1 0 differ
          ∙ so_far.marked j (below differ (eqb j i) refl)
        where
          below : (place (key_at ws j) ≡ place (key_at ws i) → ⊥) → (b : Bool) → eqb j i ≡ b → j < i
          below differ true e = absurd (differ (ap (λ (k : ℕ). place (key_at ws k)) (eqb-true j i e)))
          below differ false e = let no = eqb-false j i e in omega (arith, no)

  by_fresh :
      (n i key : ℕ) (seen : List ℕ) → i < n → key ≡ key_at ws i → MarkedBy place ws i seen → get_or seen (place key) 0 ≡ 0
      → i ≡ first_from ws key n 0
  by_fresh n i key seen few is so_far clear = first_found ws key n (passed i (omega arith)) few (sym is)
    where
      unlike : (j : ℕ) → j < i → key_at ws j ≡ key → ⊥
      unlike j less same =
          let one : get_or seen (place key) 0 ≡ 1 = ap (λ (k : ℕ). get_or seen (place k) 0) (sym same) ∙ so_far.marked j less in
          omega (arith, one, clear)

      next : (j : ℕ) → suc j ≡ j + 1
      next j = omega arith

      passed : (j : ℕ) → j ≤ i → first_from ws key n 0 ≡ first_from ws key (n - j) j
      passed zero less = rw sub-zero
      passed (suc j) less = rw (next j) (first_more ws key n (passed j (omega arith)) (omega arith) (unlike j (omega arith)))

module _ (ws : List ℕ) where
  pub marked_more :
      (i : ℕ) (seen : List ℕ) → Marked ws i seen → {place : ℕ} → place ≡ mark_of (key_at ws i) → Marked ws (i + 1) (set seen place 1)
  marked_more i seen so_far is = rw is (by_more mark_of ws i seen (mark_place (key_at ws i)) so_far)

  pub first_unmarked :
      (i key : ℕ) (seen : List ℕ) → i < slots_most → key ≡ key_at ws i → Marked ws i seen → {place : ℕ} → place ≡ mark_of key
      → get_or seen place 0 ≡ 0 → i ≡ first_from ws key slots_most 0
  first_unmarked i key seen few is so_far is_place clear =
      by_fresh mark_of ws slots_most i key seen few is so_far (ap (λ (p : ℕ). get_or seen p 0) (sym is_place) ∙ clear)
