-- Proof of `answer_words::outcome::put`: what is left to put is the whole of it.
-- Assumes: nothing.
use Rattle.std.proofs.Common.{◌≡◌, ◌+◌, ◌∷◌, drop}
use Rattle.answers.specs.Layout.{kind_at, values_at}
use Rattle.answer_words.specs.AnswerWords.{put_from}
use Rattle.answer_words.proofs.outcome.put.Given as goal

abbrev pub invariant-loop-i : goal.invariant-loop-i
invariant-loop-i g l = put_from l.words (drop l.i l.values) (values_at + l.i) ≡ put_from l.fn.words (l.kind ∷ l.values) kind_at
