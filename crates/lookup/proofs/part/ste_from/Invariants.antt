-- Proof of `lookup::part::ste_from`: what is left of the pieces is all of them.
-- Assumes: nothing.
use Prim.Native.Nat.{◌-◌}
use mathlib.Core.Path.{◌≡◌}
use Rattle.answers.specs.Layout.{pieces_most}
use Rattle.lookup.specs.Part.{ste_from}
use Rattle.lookup.proofs.part.ste_from.Given as goal

abbrev pub invariant-loop-i : goal.invariant-loop-i
invariant-loop-i l = ste_from l.base l.list.piece pieces_most 0 ≡ ste_from l.base l.list.piece (pieces_most - l.i) l.i
