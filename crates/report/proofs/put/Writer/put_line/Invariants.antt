-- Proof of `report::put::Writer::put_line`.
-- Assumes: nothing.
use Prim.Native.Nat.{◌-◌}
use mathlib.Core.Path.{◌≡◌}
use Rattle.placed.specs.Placed.{Left}
use Rattle.report_cells.specs.Cells.{cells_from, line_text}
use Rattle.report.proofs.put.Writer.put_line.Given as goal

abbrev pub invariant-loop-column : goal.invariant-loop-column
invariant-loop-column l =
    (l.self.out.ghost_name ≡ l.initial.self.out.ghost_name)
    × Left l.initial.self.out.now l.initial.self.at (line_text l.line) l.self.out.now l.self.at (cells_from l.line (l.column-end - l.column) l.column)
