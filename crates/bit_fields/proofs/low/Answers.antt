-- Proof of `bit_fields::low`: the divisor is 2^k; from 64 on all of x is low.
-- Assumes: nothing.
use borrow.Author.Rules.{rules}
use Rattle.bit_fields.proofs.BitsLaws.{power_some, low_by, low_all}
use Rattle.bit_fields.proofs.low.Goals as goal

pub nonzero_rem-result : goal.nonzero_rem-result
nonzero_rem-result c = search (rules, power_some 64)

pub returns-then-k-lt64 : goal.returns-then-k-lt64
returns-then-k-lt64 c = search (rules, low_by 64)

pub returns-else-k-lt64 : goal.returns-else-k-lt64
returns-else-k-lt64 c = search (rules, low_all 64)
