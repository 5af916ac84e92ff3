-- Proof of `stream_entry::fields::Ste::s1_dss`: the bits of its word.
-- Assumes: nothing.
use Rattle.stream_entry.proofs.fields.Ste.s1_dss.Goals as goal

pub returns : goal.returns
returns c = cc
