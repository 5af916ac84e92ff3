-- Proof of `report::put::line_length`.
-- Assumes: nothing.
use native.Mathlib.Omega.{arith}
use Rattle.report.proofs.ScanLaws.{cells_done, cells_summed, few_more, columns_few, line_counted}
use Rattle.report.proofs.put.line_length.Goals as goal

pub loop-column-init : goal.loop-column-init
loop-column-init c = (search columns_few, search line_counted, omega arith)

pub loop-column-preserved : goal.loop-column-preserved
loop-column-preserved c = (omega arith, search cells_summed, search few_more)

pub returns : goal.returns
returns c = (search cells_done, omega arith)
