-- Proof of `report::put::line_length`.
-- Assumes: nothing.
use Prim.Native.Nat.{◌+◌, ◌*◌, ◌-◌, ◌≤◌}
use mathlib.Core.Path.{◌≡◌}
use lib.ListN.{length}
use Rattle.report_cells.specs.Text.{cell_most}
use Rattle.report_cells.specs.Cells.{columns, cells_from, line_text}
use Rattle.report.proofs.put.line_length.Given as goal

abbrev pub invariant-loop-column : goal.invariant-loop-column
invariant-loop-column l = (l.column-end ≤ columns) × (l.sum + length (cells_from l.line (l.column-end - l.column) l.column) ≡ length (line_text l.line)) × (l.sum ≤ (cell_most + 1) * l.column)
