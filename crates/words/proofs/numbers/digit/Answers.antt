-- Proof of `words::numbers::digit`: the digit's value, or 0.
-- Assumes: nothing.
use Rattle.std.proofs.Common.{arith}
use Rattle.std.proofs.lemmas.Grind.{common_steps}
use Rattle.words.proofs.NumbersLaws.{digit_small, digit_large}
use Rattle.words.proofs.numbers.digit.Goals as goal

pub returns : goal.returns
returns c = grind (arith, common_steps, digit_small, digit_large)
