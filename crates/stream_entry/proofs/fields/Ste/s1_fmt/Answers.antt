-- Proof of `stream_entry::fields::Ste::s1_fmt`: the bits of its word.
-- Assumes: nothing.
use Rattle.stream_entry.proofs.fields.Ste.s1_fmt.Goals as goal

pub returns : goal.returns
returns c = cc
