-- Proof of `words::numbers::is_pairs`: the three tests, or the first that fails.
-- Assumes: nothing.
use Rattle.std.proofs.Common.{arith}
use Rattle.std.proofs.lemmas.Bool.Decides.{nat_tests}
use Rattle.words.specs.Numbers.{is_pairs}
use Rattle.words.proofs.numbers.is_pairs.Goals as goal

pub returns-then-word-eq0 : goal.returns-then-word-eq0
unfolding is_pairs
returns-then-word-eq0 c = grind (arith, nat_tests)

pub returns-else-word-eq0 : goal.returns-else-word-eq0
unfolding is_pairs
returns-else-word-eq0 c = grind (arith, nat_tests)
