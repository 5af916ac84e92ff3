-- One step of each scan that is defined by what is left, under the test that the code makes.
--     any_counted                      the search of a list's pieces
--     struck_end, struck_step          the slots that a notice strikes
--     all_struck, more_struck          the loop over them
-- Assumes: nothing.
use Prim.Native.Nat.{ℕ, zero, suc, ◌+◌, ◌-◌, ◌≤◌, ◌<◌, min}
use native.Mathlib.Omega.{arith}
use native.Mathlib.Nat.{min-le_right}
use mathlib.Core.Path.{◌≡◌, refl, sym, ◌∙◌}
use mathlib.Core.Bool.{Bool, true, false, ◌||◌}
use mathlib.Core.List.{List}
use lib.ListN.{length, get_or, take, drop}
use lib.Seq.{drop-cons}
use Rattle.std.specs.List.{list_any}
use Rattle.number_laws.proofs.Scans.{left_none, left_one}
use Rattle.std.specs.Prelude.{if◌then◌else◌}
use Rattle.memory_image.specs.declared.Piece.{Piece}
use Rattle.answers.specs.Layout.{pieces_most}
use Rattle.answers.specs.Pieces.{nothing}
use Rattle.book_words.specs.Layout.{slots_most}
use Rattle.book.specs.Book.{shares, shared_from, strike, struck_from}

module _ (start size : ℕ) (l : List Piece) where
  shared_part : (m j : ℕ) → j + m ≤ length l → list_any (shares start size) (take m (drop j l)) ≡ shared_from start size l m j
  unfolding shared_from
  shared_part zero j few = refl
  shared_part (suc m) j few =
      rw (drop-cons l j nothing (omega arith))
      (go (shares start size (get_or l j nothing)) (rw (next j) at (shared_part m (j + 1) (omega arith))))
    where
      next : (j : ℕ) → j + 1 ≡ suc j
      next j = omega arith

      rest : Bool
      rest = list_any (shares start size) (take m (drop (suc j) l))

      go : (b : Bool) → rest ≡ shared_from start size l m (suc j) → (b || rest) ≡ (if b then true else shared_from start size l m (j + 1))
      go true same = refl
      go false same = rw (next j) same

  -- a search of those that are counted
  pub any_counted :
      (count : ℕ) → length l ≡ pieces_most → {n : ℕ} → n ≡ min count pieces_most → {found : Bool}
      → found ≡ list_any (shares start size) (take n l) → found ≡ shared_from start size l (min count pieces_most) 0
  any_counted count full {n} few is =
      let least : n ≤ pieces_most = omega (arith, few, min-le_right count pieces_most) in
      rw (← few) (is ∙ shared_part n 0 (omega arith))

module _ (ws : List ℕ) (start size n i : ℕ) where
  pub struck_end : n ≤ i → struck_from ws start size (n - i) i ≡ ws
  unfolding struck_from
  struck_end past = rw (left_none n i past)

  pub struck_step :
      i < n → {next : List ℕ} → next ≡ strike ws start size i
      → struck_from ws start size (n - i) i ≡ struck_from next start size (n - (i + 1)) (i + 1)
  unfolding struck_from
  struck_step more is = rw (left_one n i more, is)

-- the loop over the slots that a notice strikes: i passed
module _ (before ws : List ℕ) (start size : ℕ) {i : ℕ} (left : struck_from before start size slots_most 0 ≡ struck_from ws start size (slots_most - i) i) where
  pub all_struck : slots_most ≤ i → ws ≡ struck_from before start size slots_most 0
  all_struck past = sym (left ∙ struck_end ws start size slots_most i past)

  pub more_struck :
      i < slots_most → {next : List ℕ} → next ≡ strike ws start size i
      → struck_from before start size slots_most 0 ≡ struck_from next start size (slots_most - (i + 1)) (i + 1)
  more_struck more is = left ∙ struck_step ws start size slots_most i more is
