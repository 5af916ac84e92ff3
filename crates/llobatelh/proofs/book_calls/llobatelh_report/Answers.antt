-- Proof of `llobatelh::book_calls::llobatelh_report`: refused, or written.
-- Assumes: nothing.
use Rattle.llobatelh.proofs.CallsLaws.{report_refused, report_written}
use Rattle.llobatelh.proofs.book_calls.llobatelh_report.Goals as goal

pub returns-in-Err : goal.returns-in-Err
returns-in-Err c = search report_refused

pub returns-in-Ok : goal.returns-in-Ok
returns-in-Ok c = search report_written
