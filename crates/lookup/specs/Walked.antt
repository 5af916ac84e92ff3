-- How a walk ends.
--     told_by    by the CD, or before it
-- Assumes: nothing.
use Rattle.std.specs.Prelude.{Ok, Err, Result}
use Rattle.answers.specs.declared.Outcome.{Outcome}

abbrev pub told_by : Result Outcome Outcome → Outcome
told_by (Ok outcome) = outcome
told_by (Err outcome) = outcome
