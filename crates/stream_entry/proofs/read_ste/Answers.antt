-- Proof of `stream_entry::read_ste`: steps 1 to 5 in order.
-- Assumes: nothing.
use borrow.Author.Rules.{rules}
use Rattle.stream_entry.proofs.EntryLaws.{ste_invalid, ste_quiet, ste_missing, ste_stage2, ste_bypass, ste_stage1}
use Rattle.stream_entry.proofs.read_ste.Goals as goal

pub returns-then-v-eq0 : goal.returns-then-v-eq0
returns-then-v-eq0 c = search (rules, ste_invalid)

pub returns-then-config-lt4 : goal.returns-then-config-lt4
returns-then-config-lt4 c = search (rules, ste_quiet)

pub returns-then-not_there : goal.returns-then-not_there
returns-then-not_there c = search (rules, ste_missing)

pub returns-then-field-eq1 : goal.returns-then-field-eq1
returns-then-field-eq1 c = search (rules, ste_stage2)

pub returns-then-config-eq4 : goal.returns-then-config-eq4
returns-then-config-eq4 c = search (rules, ste_bypass)

pub returns : goal.returns
returns c = search (rules, ste_stage1)
