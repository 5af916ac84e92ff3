-- Proof of `report::text_length`.
-- Assumes: nothing.
use Prim.Native.Nat.{◌+◌, ◌*◌, ◌-◌, ◌≤◌}
use mathlib.Core.Path.{◌≡◌}
use lib.ListN.{length}
use Rattle.report_cells.specs.Text.{cell_most}
use Rattle.report_cells.specs.Cells.{columns}
use Rattle.report.specs.Report.{lines_from, report_text}
use Rattle.report.proofs.text_length.Given as goal

abbrev pub invariant-loop-i : goal.invariant-loop-i
invariant-loop-i l = (l.sum + length (lines_from l.book (l.slots - l.i) l.i) ≡ length (report_text l.book)) × (l.sum ≤ columns * (cell_most + 1) * (l.i + 1))
