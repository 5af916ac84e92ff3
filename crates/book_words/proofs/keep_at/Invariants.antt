-- Proof of `book_words::keep_at`: what is left to copy is the whole of it.
-- Assumes: nothing.
use Prim.Native.Nat.{◌-◌}
use mathlib.Core.Path.{◌≡◌}
use Rattle.answers.specs.Layout.{answer_words}
use Rattle.book_words.specs.Layout.{block_from, copied}
use Rattle.book_words.proofs.keep_at.Given as goal

abbrev pub invariant-loop-k : goal.invariant-loop-k
invariant-loop-k l = copied l.initial.book (block_from l.i) l.block answer_words 0 ≡ copied l.book (block_from l.i) l.block (answer_words - l.k) l.k
