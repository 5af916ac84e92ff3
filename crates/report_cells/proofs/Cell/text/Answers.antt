-- Proof of `report_cells::Cell::text`: the first bytes, one by one.
-- Assumes: nothing.
use native.Mathlib.Omega.{arith}
use Rattle.placed.proofs.FromLaws.{values_front}
use Rattle.report_cells.proofs.Cell.text.Goals as goal

pub returns : goal.returns
returns c = values_front c.args.self.now.byte c.args.self.now.count (omega arith)
