-- Proof of `lookup::lookup`: the answer, or the refusal, read back from the words.
-- Assumes: nothing.
use borrow.Author.Rules.{rules}
use Rattle.lookup.proofs.RuledLaws.{looked_is, looked_refused}
use Rattle.lookup.proofs.lookup.Goals as goal

pub returns-in-Ok : goal.returns-in-Ok
returns-in-Ok c = search (rules, looked_is)

pub returns-in-Err : goal.returns-in-Err
returns-in-Err c = search (rules, looked_refused)
