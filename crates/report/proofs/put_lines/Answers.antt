-- Proof of `report::put_lines`.
-- Assumes: nothing.
use borrow.Author.Rules.{rules}
use Rattle.report.proofs.PutLaws.{line_room, line_more, lines_put}
use Rattle.report.proofs.put_lines.Goals as goal

pub put_line-requires : goal.put_line-requires
put_line-requires c = search line_room

pub loop-i-preserved : goal.loop-i-preserved
loop-i-preserved c = (search rules, search line_more)

pub returns-clause-put : goal.returns-clause-put
returns-clause-put c = search lines_put
