-- Proof of `llobatelh::book_calls::llobatelh_open`: what the book says, as a number.
-- Assumes: nothing.
use Rattle.llobatelh.proofs.CallsLaws.{opened_is}
use Rattle.llobatelh.proofs.book_calls.llobatelh_open.Goals as goal

pub returns : goal.returns
returns c = search opened_is
