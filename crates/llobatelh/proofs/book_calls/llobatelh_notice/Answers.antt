-- Proof of `llobatelh::book_calls::llobatelh_notice`: what the book says, as a number.
-- Assumes: nothing.
use Rattle.llobatelh.proofs.CallsLaws.{noticed_is}
use Rattle.llobatelh.proofs.book_calls.llobatelh_notice.Goals as goal

pub returns : goal.returns
returns c = search noticed_is
