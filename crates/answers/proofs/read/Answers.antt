-- Proof of `answers::read`: what the fetch answered; what is had is listed.
-- Assumes: nothing.
use borrow.Author.Rules.{rules}
use Rattle.answers.proofs.ReadLaws.{read_outside, read_at}
use Rattle.answers.proofs.read.Goals as goal

pub returns-in-At : goal.returns-in-At
returns-in-At c = search (rules, read_at)

pub returns-in_default : goal.returns-in_default
returns-in_default c = search (rules, read_outside)
