-- Proof of `report_cells::text::digits`: the digits that are left before those that were written are all of them.
-- Assumes: nothing.
use Rattle.report_cells.proofs.TextLaws.{digits_start, digits_more, digits_whole}
use Rattle.report_cells.proofs.text.digits.Goals as goal

pub loop-j-preserved : goal.loop-j-preserved
loop-j-preserved c = search digits_more

pub returns : goal.returns
returns c = search digits_whole

pub loop-j-init : goal.loop-j-init
loop-j-init c = digits_start _ _ _ _
