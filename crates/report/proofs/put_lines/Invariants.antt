-- Proof of `report::put_lines`.
-- Assumes: nothing.
use Prim.Native.Nat.{◌-◌}
use mathlib.Core.Path.{◌≡◌}
use Rattle.placed.specs.Placed.{Left}
use Rattle.report.specs.Report.{lines_from}
use Rattle.report.proofs.put_lines.Given as goal

abbrev pub invariant-loop-i : goal.invariant-loop-i
invariant-loop-i l =
    (l.writer.out.ghost_name ≡ l.initial.writer.out.ghost_name)
    × Left l.initial.writer.out.now l.initial.writer.at (lines_from l.book l.slots 0) l.writer.out.now l.writer.at (lines_from l.book (l.slots - l.i) l.i)
