-- Proof of `monitor::run::write_whole`: what is left to write shrinks.
-- Assumes: nothing.
use Rattle.std.proofs.Common.{length}
use Rattle.monitor.proofs.run.write_whole.Given as goal

abbrev pub decreases-loop-rest : goal.decreases-loop-rest
decreases-loop-rest g l = length l.rest
