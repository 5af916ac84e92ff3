-- Proof of `report::text_length`.
-- Assumes: nothing.
use native.Mathlib.Omega.{arith}
use Rattle.report.proofs.ScanLaws.{text_counted, lines_summed, lines_done}
use Rattle.report.proofs.text_length.Goals as goal

pub loop-i-init : goal.loop-i-init
loop-i-init c = (search text_counted, omega arith)

pub loop-i-preserved : goal.loop-i-preserved
loop-i-preserved c = (search lines_summed, omega arith)

pub returns : goal.returns
returns c = search lines_done
