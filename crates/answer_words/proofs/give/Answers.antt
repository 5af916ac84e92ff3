-- Proof of `answer_words::give`: the list's words one by one, and the outcome before them.
-- Assumes: nothing.
use Rattle.answer_words.proofs.ListLaws.{copied_none, copied_more, copied_put}
use Rattle.answer_words.proofs.give.Goals as goal

pub loop-j-init : goal.loop-j-init
loop-j-init c = copied_none _

pub loop-j-preserved : goal.loop-j-preserved
loop-j-preserved c = search copied_more

pub returns : goal.returns
returns c = search copied_put
