-- Proof of `stream_entry::stage1`: steps 6 to 8 in order.
-- Assumes: nothing.
use borrow.Author.Rules.{rules}
use Rattle.stream_entry.proofs.Stage1Laws.{stage_bad, stage_world, stage_without, stage_with}
use Rattle.stream_entry.proofs.stage1.Goals as goal

pub returns-then-bad_stage1 : goal.returns-then-bad_stage1
returns-then-bad_stage1 c = search (rules, stage_bad)

pub returns-then-both : goal.returns-then-both
returns-then-both c = search (rules, stage_world)

pub returns-in-None : goal.returns-in-None
returns-in-None c = search (rules, stage_without)

pub returns-in-Some : goal.returns-in-Some
returns-in-Some c = search (rules, stage_with)
