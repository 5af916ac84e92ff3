-- Proof of `book_words::block`: the words one by one.
-- Assumes: nothing.
use Prim.Native.Nat.{◌+◌}
use lib.ListN.{get_or}
use Rattle.placed.proofs.FilledLaws.{Filled}
use Rattle.answers.specs.Layout.{answer_words}
use Rattle.book_words.specs.Layout.{block_from}
use Rattle.book_words.proofs.block.Given as goal

abbrev pub invariant-loop-j : goal.invariant-loop-j
invariant-loop-j l = Filled (λ k. get_or l.book (block_from l.i + k) 0) answer_words l.word-items l.j
