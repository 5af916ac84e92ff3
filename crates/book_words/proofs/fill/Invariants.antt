-- Proof of `book_words::fill`: what is left of the header, after the registers put so far.
-- Assumes: nothing.
use Rattle.book_words.proofs.WordsLaws.{Opening}
use Rattle.book_words.proofs.fill.Given as goal

abbrev pub invariant-loop-k : goal.invariant-loop-k
invariant-loop-k l = Opening l.registers l.extent l.slots l.book l.k
