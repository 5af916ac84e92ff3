-- Proof of `llobatelh::llobatelh_lookup`: what the lookup promises, by its number.
-- Assumes: nothing.
use Rattle.llobatelh.proofs.CallsLaws.{looks_up}
use Rattle.llobatelh.proofs.llobatelh_lookup.Goals as goal

pub returns : goal.returns
returns c = search looks_up
