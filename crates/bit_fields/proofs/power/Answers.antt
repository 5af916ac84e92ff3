-- Proof of `bit_fields::power`: from 64 on nothing of 2^k is left.
-- Assumes: nothing.
use borrow.Author.Rules.{rules}
use Rattle.bit_fields.proofs.BitsLaws.{power_past}
use Rattle.bit_fields.proofs.power.Goals as goal

pub returns-else-k-lt64 : goal.returns-else-k-lt64
returns-else-k-lt64 c = search (rules, power_past 64)
