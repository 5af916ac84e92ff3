-- Proof of `bit_fields::high`: a shift, and from 64 on nothing.
-- Assumes: nothing.
use borrow.Author.Rules.{rules}
use Rattle.bit_fields.proofs.BitsLaws.{high_by, high_none}
use Rattle.bit_fields.proofs.high.Goals as goal

pub returns-then-k-lt64 : goal.returns-then-k-lt64
returns-then-k-lt64 c = search (rules, high_by)

pub returns-else-k-lt64 : goal.returns-else-k-lt64
returns-else-k-lt64 c = search (rules, high_none 64)
