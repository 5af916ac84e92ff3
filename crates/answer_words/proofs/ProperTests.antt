-- The test of a list in src/proper.rt, on plain values.
--     list_long, list_is    one that is too long; else what the pieces that are counted say
-- Assumes: nothing.
use Prim.Native.Nat.{ℕ, zero, suc, ◌+◌, ◌≤◌, ◌<◌}
use native.Mathlib.Omega.{arith}
use mathlib.Core.Path.{◌≡◌, refl, ap, ◌∙◌}
use mathlib.Core.Bool.{Bool, false, ◌&&◌}
use mathlib.Core.List.{List}
use borrow.Author.Tests.{le-leb, lt-leb}
use lib.ListN.{length, get_or, take, drop}
use lib.Seq.{drop-cons}
use Rattle.std.specs.List.{list_all}
use Rattle.std.proofs.Common.{add-one}
use Rattle.placed.specs.From.{all_from}
use Rattle.memory_image.specs.declared.Piece.{Piece}
use Rattle.answers.specs.Layout.{pieces_most}
use Rattle.answers.specs.Pieces.{nothing}
use Rattle.answers.specs.Proper.{ends_below, ends_below_at, proper_pieces}
use Rattle.answers.specs.declared.Pieces.{Pieces}

-- a test of each of m pieces from a place on
all_counted : (ps : List Piece) (m j : ℕ) → j + m ≤ length ps → list_all ends_below (take m (drop j ps)) ≡ all_from (ends_below_at ps) m j
unfolding all_from
all_counted ps zero j few = refl
all_counted ps (suc m) j few =
    rw (drop-cons ps j nothing (omega arith))
    (ap (λ (rest : Bool). ends_below (get_or ps j nothing) && rest) (next ∙ all_counted ps m (j + 1) (omega arith)))
  where
    next : list_all ends_below (take m (drop (suc j) ps)) ≡ list_all ends_below (take m (drop (j + 1) ps))
    next = rw add-one

module _ (l : Pieces) where
  pub list_long : pieces_most < l.count → false ≡ proper_pieces l
  unfolding proper_pieces
  list_long many = simp (lt-leb _ _ many)

  pub list_is :
      l.count ≤ pieces_most → length l.piece ≡ pieces_most → {test : Bool} → test ≡ list_all ends_below (take l.count l.piece)
      → test ≡ proper_pieces l
  unfolding proper_pieces
  list_is few full is = simp (le-leb _ _ few) (is ∙ all_counted l.piece l.count 0 (omega arith))
