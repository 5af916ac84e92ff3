-- Proof of `lookup::look_by_numbers`: the refusals in their order, and the answer.
-- Assumes: nothing.
use borrow.Author.Rules.{rules}
use Rattle.lookup.proofs.RuledLaws.{refused_first, refused_second, refused_third, answered_last}
use Rattle.lookup.proofs.look_by_numbers.Goals as goal

pub returns-then-refused : goal.returns-then-refused
returns-then-refused c = search (rules, refused_first)

pub returns-then-refused-2 : goal.returns-then-refused-2
returns-then-refused-2 c = search (rules, refused_second)

pub returns-then-refused-3 : goal.returns-then-refused-3
returns-then-refused-3 c = search (rules, refused_third)

pub returns : goal.returns
returns c = search (rules, answered_last)
