-- Proof of `answer_words::give`: the list's words one by one.
-- Assumes: nothing.
use Rattle.answer_words.proofs.ListLaws.{Copied}
use Rattle.answer_words.proofs.give.Given as goal

abbrev pub invariant-loop-j : goal.invariant-loop-j
invariant-loop-j l = Copied l.kept l.words l.j
