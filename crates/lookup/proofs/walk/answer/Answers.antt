-- Proof of `lookup::walk::answer`: the walk, and its outcome put before its list.
-- Assumes: nothing.
use Rattle.lookup.proofs.RuledLaws.{answer_ruled}
use borrow.Author.Rules.{rules}
use Rattle.lookup.proofs.walk.answer.Goals as goal

pub returns : goal.returns
returns c = search (rules, answer_ruled)
