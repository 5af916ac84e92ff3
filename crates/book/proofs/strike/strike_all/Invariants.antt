-- Proof of `book::strike::strike_all`: what is left to strike is the whole of it.
-- Assumes: nothing.
use Prim.Native.Nat.{◌-◌}
use mathlib.Core.Path.{◌≡◌}
use Rattle.book_words.specs.Layout.{slots_most}
use Rattle.book.specs.Book.{struck_from}
use Rattle.book.proofs.strike.strike_all.Given as goal

abbrev pub invariant-loop-i : goal.invariant-loop-i
invariant-loop-i l = struck_from l.initial.book l.edited.start l.edited.size slots_most 0 ≡ struck_from l.book l.edited.start l.edited.size (slots_most - l.i) l.i
