-- Proof of `words::numbers::pushed`: one digit more fits, or does not.
-- Assumes: nothing.
use Rattle.std.proofs.Common.{arith}
use Rattle.std.proofs.lemmas.Grind.{common_steps}
use Rattle.words.specs.Numbers.{pushed_rule}
use Rattle.words.proofs.numbers.pushed.Goals as goal

pub returns : goal.returns
unfolding pushed_rule
returns c = grind (arith, common_steps)

pub returns-in_err-value : goal.returns-in_err-value
unfolding pushed_rule
returns-in_err-value c = grind (arith, common_steps)
