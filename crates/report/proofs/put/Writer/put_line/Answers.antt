-- Proof of `report::put::Writer::put_line`.
-- Assumes: nothing.
use borrow.Author.Rules.{rules}
use Rattle.report.proofs.PutLaws.{line_starts, cell_room, cell_more, line_put}
use Rattle.report.proofs.put.Writer.put_line.Goals as goal

pub loop-column-init : goal.loop-column-init
loop-column-init c = (search rules, search line_starts)

pub put_cell-requires : goal.put_cell-requires
put_cell-requires c = search cell_room

pub loop-column-preserved : goal.loop-column-preserved
loop-column-preserved c = (search rules, search cell_more)

pub returns-clause-put : goal.returns-clause-put
returns-clause-put c = search line_put
