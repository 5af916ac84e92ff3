-- Proof of `answer_words::list_of`: the pieces one by one.
-- Assumes: nothing.
use Rattle.answer_words.proofs.ListLaws.{Taken}
use Rattle.answer_words.proofs.list_of.Given as goal

abbrev pub invariant-loop-i : goal.invariant-loop-i
invariant-loop-i l = Taken l.words l.piece-items l.i
