-- Proof of `context_table::find_cd`: S1CDMax 0; S1Fmt 0; the rest.
-- Assumes: nothing.
use Rattle.context_table.proofs.ContextLaws.{find_alone, find_linear, find_two}
use borrow.Author.Rules.{rules}
use Rattle.context_table.proofs.find_cd.Goals as goal

pub returns-then-s1_cd_max-eq0 : goal.returns-then-s1_cd_max-eq0
returns-then-s1_cd_max-eq0 c = search (rules, find_alone)

pub returns-then-format-eq0 : goal.returns-then-format-eq0
returns-then-format-eq0 c = search (rules, find_linear)

pub returns : goal.returns
returns c = search (rules, find_two)
