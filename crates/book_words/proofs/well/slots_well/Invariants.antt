-- Proof of `book_words::well::slots_well`: what is left of the slots is all of them, and each key passed has its mark.
-- Assumes: nothing.
use Prim.Native.Nat.{◌-◌}
use mathlib.Core.Path.{◌≡◌}
use Rattle.book_words.specs.Layout.{slots_most}
use Rattle.book_words.specs.Malformed.{well_from}
use Rattle.book_words.specs.Marks.{Marked}
use Rattle.book_words.proofs.well.slots_well.Given as goal

abbrev pub invariant-loop-i : goal.invariant-loop-i
invariant-loop-i l = (well_from l.book slots_most 0 ≡ well_from l.book (slots_most - l.i) l.i) × Marked l.book l.i l.marks
