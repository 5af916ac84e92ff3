-- Proof of `report_cells::text::digits`: the digits that are left before those that were written are all of them.
-- Assumes: nothing.
use lib.ListN.{length}
use Rattle.report_cells.proofs.TextLaws.{Counting}
use Rattle.report_cells.proofs.text.digits.Given as goal

abbrev pub invariant-loop-j : goal.invariant-loop-j
invariant-loop-j l = Counting l.letters (length l.letters) l.w l.n l.byte l.rest l.j
