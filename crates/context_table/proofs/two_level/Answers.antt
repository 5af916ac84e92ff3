-- Proof of `context_table::two_level`: the descriptor isn't fetched; it is.
-- Assumes: nothing.
use borrow.Author.Rules.{rules}
use Rattle.context_table.proofs.ContextLaws.{two_fault, two_read}
use Rattle.context_table.proofs.two_level.Goals as goal

pub returns-in_default : goal.returns-in_default
returns-in_default c = search (rules, two_fault)

pub returns : goal.returns
returns c = search (rules, two_read)
