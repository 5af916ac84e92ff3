-- The rules' numbers for what a lookup answers (RULES, "What an answer holds").
--     c_bad_stream_id .. c_bad_cd           the events, by the standard's names
--     fetch_event                           the two of a fetch that fails, which come with the address that was wanted
--     stage2, vmsa32, stream_world          the unserved cases
--     recorded                              whether an abort's event is recorded
-- An outcome holds these numbers themselves, so that a rule that says `Abort c_bad_ste` says 0x04.
-- Assumes: nothing.
use Rattle.std.specs.Prelude.{ℕ, Bool, not, ◌&&◌, ◌||◌, eqb}
use Rattle.registers.specs.Fields.{rec_inv_sid}
use Rattle.registers.specs.declared.Registers.{Registers}

abbrev pub c_bad_stream_id : ℕ
c_bad_stream_id = 0x02

abbrev pub f_ste_fetch : ℕ
f_ste_fetch = 0x03

abbrev pub c_bad_ste : ℕ
c_bad_ste = 0x04

abbrev pub f_stream_disabled : ℕ
f_stream_disabled = 0x06

abbrev pub c_bad_substream_id : ℕ
c_bad_substream_id = 0x08

abbrev pub f_cd_fetch : ℕ
f_cd_fetch = 0x09

abbrev pub c_bad_cd : ℕ
c_bad_cd = 0x0A

-- an abort with one of these is a `Fault`, and no other is
unfoldable pub fetch_event : ℕ → Bool
fetch_event event = eqb event f_ste_fetch || eqb event f_cd_fetch

-- Config 11x: stage 2
abbrev pub stage2 : ℕ
stage2 = 20

-- AA64 0: VMSAv8-32
abbrev pub vmsa32 : ℕ
vmsa32 = 21

-- STRW not 0: a StreamWorld above EL1
abbrev pub stream_world : ℕ
stream_world = 22

-- all are recorded, but 0x02 only if RECINVSID is 1
unfoldable pub recorded : Registers → ℕ → Bool
recorded r event = not (eqb event c_bad_stream_id && eqb (rec_inv_sid r) 0)
