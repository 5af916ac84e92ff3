-- Proof of `context_entry::first_half`: it is the definition, field by field.
-- Assumes: nothing.
use Rattle.context_entry.proofs.first_half.Goals as goal

pub returns : goal.returns
returns c = cc
