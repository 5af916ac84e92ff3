-- Proof of `report::report`.
-- Assumes: nothing.
use Rattle.std.proofs.Common.{arith}
use Rattle.std.proofs.lemmas.Grind.{common_steps}
use Rattle.book_words.proofs.MalformedLaws.{few_slots}
use Rattle.report.proofs.ReportLaws.{report_malformed, report_short, header_room, lines_room, report_whole}
use Rattle.report.specs.Report.{Reported}
use Rattle.std.specs.Prelude.{Ok}
use Rattle.report.proofs.report.Goals as goal

pub returns-then-is_malformed : goal.returns-then-is_malformed
returns-then-is_malformed c = search report_malformed

pub text_length-size-requires : goal.text_length-size-requires
text_length-size-requires c = search few_slots

pub returns-then-out-size : goal.returns-then-out-size
returns-then-out-size c = search report_short

pub put_line-requires : goal.put_line-requires
put_line-requires c = search header_room

pub put_lines-requires-clause-few : goal.put_lines-requires-clause-few
put_lines-requires-clause-few c = search few_slots

pub put_lines-requires-clause-room : goal.put_lines-requires-clause-room
put_lines-requires-clause-room c = search lines_room

pub returns : goal.returns
returns c =
    let whole : Reported c.args.book.now c.args.out.now (Ok c.text_length-size.result) c.put_lines.new.writer.out.now = search report_whole in
    grind (arith, common_steps)
