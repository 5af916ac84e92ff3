-- Proof of `stream_entry::bad_stage1`: step 6, a law for each way out.
-- Assumes: nothing.
use borrow.Author.Rules.{rules}
use Rattle.stream_entry.proofs.Stage1Laws.{bad_max, bad_none, bad_format, bad_levels, bad_dss}
use Rattle.stream_entry.proofs.bad_stage1.Goals as goal

pub returns-then-ssid_size-max : goal.returns-then-ssid_size-max
returns-then-ssid_size-max c = search (rules, bad_max)

pub returns-then-max-eq0 : goal.returns-then-max-eq0
returns-then-max-eq0 c = search (rules, bad_none)

pub returns-then-format-eq3 : goal.returns-then-format-eq3
returns-then-format-eq3 c = search (rules, bad_format)

pub returns-then-both : goal.returns-then-both
returns-then-both c = search (rules, bad_levels)

pub returns : goal.returns
returns c = search (rules, bad_dss)
