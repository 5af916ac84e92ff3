-- Proof of `stream_table::find_ste`.
-- Assumes: nothing.
use borrow.Author.Rules.{rules}
use Rattle.stream_table.proofs.StreamLaws.{find_off, find_past, find_linear, find_two}
use Rattle.stream_table.proofs.find_ste.Goals as goal

pub returns-then-smmu_en-eq0 : goal.returns-then-smmu_en-eq0
returns-then-smmu_en-eq0 c = search (rules, find_off)

pub returns-then-not-in_bits : goal.returns-then-not-in_bits
returns-then-not-in_bits c = search (rules, find_past)

pub returns-then-is_linear : goal.returns-then-is_linear
returns-then-is_linear c = search (rules, find_linear)

pub returns : goal.returns
returns c = search (rules, find_two)
