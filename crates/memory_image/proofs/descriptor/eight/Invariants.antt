-- Proof of `memory_image::descriptor::eight`: after n turns it has the n lowest bytes.
-- Assumes: nothing.
use Prim.Native.Nat.{◌≤◌}
use mathlib.Core.Path.{◌≡◌}
use Rattle.memory_image.specs.Words.{bytes}
use Rattle.memory_image.proofs.WordsLaws.{lowest}
use Rattle.memory_image.proofs.descriptor.eight.Given as goal

abbrev pub invariant-loop-n : goal.invariant-loop-n
invariant-loop-n l = (l.n ≤ 8) × (l.word ≡ lowest (bytes l.memory) l.at l.n)
