-- Proof of `llobatelh::book_calls::llobatelh_ask`: what the ask promises, by its number.
-- Assumes: nothing.
use Rattle.llobatelh.proofs.CallsLaws.{ask_refused, ask_answered}
use Rattle.llobatelh.proofs.book_calls.llobatelh_ask.Goals as goal

pub returns-in-Ok : goal.returns-in-Ok
returns-in-Ok c = search (ask_answered, c.in-Ok.ensures)

pub returns-in-Err : goal.returns-in-Err
returns-in-Err c = search (ask_refused, c.in-Err.ensures)
