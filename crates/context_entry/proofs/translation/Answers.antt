-- Proof of `context_entry::translation`: it is the definition, field by field.
-- Assumes: nothing.
use Rattle.context_entry.proofs.translation.Goals as goal

pub returns : goal.returns
returns c = cc
