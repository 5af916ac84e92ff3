-- What an STE says (RULES, "Reading the STE", steps 1 to 8; 003, 5.2; 004).
--     ste_rule          the first rule that applies: start here
--     v .. strw         the fields, by 003's names
--     bad_stage1        step 6
--     with_id, without_id  step 8, with a SubstreamID and without one: how the lookup ends, or the index of its CD
-- Ours: Config 100 with a SubstreamID is C_BAD_SUBSTREAMID (5). S1Fmt, S1DSS and S1CDMax are read as stored, which the checks of step 6 need; 003
-- has 3 behave as 0 in the first two (`% 3`), and ignores S1CDMax where SSIDSIZE is 0. Every rule reads them by these definitions.
-- Assumes: nothing.
use Rattle.std.specs.Prelude.{ℕ, ◌*◌, ◌^◌, Bool, not, ◌&&◌, ◌||◌, eqb, leb, ltb, if◌then◌else◌, Err, None, Ok, Option, Result, Some}
use Rattle.ids.specs.declared.SubstreamId.{SubstreamId}
use Rattle.bit_fields.specs.Bits.{bits, bits_of}
use Rattle.registers.specs.Fields.{s1p, s2p, hyp, cd2l, ssid_size}
use Rattle.registers.specs.declared.Registers.{Registers}
use Rattle.answers.specs.Outcome.{c_bad_ste, f_stream_disabled, c_bad_substream_id, stage2, stream_world}
use Rattle.answers.specs.declared.Outcome.{Outcome}
use Rattle.answers.specs.declared.Outcome.TheVariants.{Abort, Quiet, Bypass, Unserved}

-- an STE is handed over as its words
abbrev pub v : (ℕ → ℕ) → ℕ
v w = bits_of 0 0 w

abbrev pub config : (ℕ → ℕ) → ℕ
config w = bits_of 3 1 w

abbrev pub s1_fmt : (ℕ → ℕ) → ℕ
s1_fmt w = bits_of 5 4 w

abbrev pub s1_context_ptr : (ℕ → ℕ) → ℕ
s1_context_ptr w = bits_of 55 6 w * 2 ^ 6

abbrev pub s1_cd_max : Registers → (ℕ → ℕ) → ℕ
s1_cd_max r w = bits_of 63 59 w

abbrev pub s1_dss : (ℕ → ℕ) → ℕ
s1_dss w = bits_of 65 64 w

abbrev pub strw : (ℕ → ℕ) → ℕ
strw w = bits_of 95 94 w

-- the bits of Config, written 1x1 and so on
abbrev pub stage1_in : ℕ → Bool
stage1_in c = eqb (bits 0 0 c) 1

abbrev pub stage2_in : ℕ → Bool
stage2_in c = eqb (bits 1 1 c) 1

-- 3. Config 1x1 with S1P 0, or 11x with S2P 0
unfoldable pub not_there : Registers → ℕ → Bool
not_there r c = (stage1_in c && eqb (s1p r) 0) || (stage2_in c && eqb (s2p r) 0)

-- 6. S1CDMax above SSIDSIZE; S1CDMax above 0 and (S1Fmt 3, or S1Fmt not 0 with CD2L 0, or S1DSS 3)
unfoldable pub bad_stage1 : Registers → (ℕ → ℕ) → Bool
bad_stage1 r w =
    ltb (ssid_size r) (s1_cd_max r w)
    || (ltb 0 (s1_cd_max r w)
    && (eqb (s1_fmt w) 3 || ((not (eqb (s1_fmt w) 0) && eqb (cd2l r) 0) || eqb (s1_dss w) 3)))

-- 5. Config 100: with a SubstreamID, C_BAD_SUBSTREAMID; without, bypass
abbrev pub bypass_rule : Option SubstreamId → ℕ → Outcome
bypass_rule None address = Bypass address
bypass_rule (Some id) address = Abort c_bad_substream_id

-- 8. by S1CDMax, with a SubstreamID
unfoldable pub with_id : ℕ → (ℕ → ℕ) → ℕ → Result ℕ Outcome
with_id max w n =
    if eqb max 0 || leb (2 ^ max) n then Err (Abort c_bad_substream_id)
    else if eqb n 0 && eqb (s1_dss w) 2 then Err (Abort f_stream_disabled)
    else Ok n

-- 8. without one: S1CDMax above 0 and S1DSS 0 gives F_STREAM_DISABLED, 1 bypass, 2 uses CD 0
unfoldable pub without_id : ℕ → (ℕ → ℕ) → ℕ → Result ℕ Outcome
without_id max w address =
    if eqb max 0 then Ok 0
    else if eqb (s1_dss w) 0 then Err (Abort f_stream_disabled)
    else if eqb (s1_dss w) 1 then Err (Bypass address)
    else Ok 0

abbrev pub substream_rule : ℕ → (ℕ → ℕ) → Option SubstreamId → ℕ → Result ℕ Outcome
substream_rule max w None address = without_id max w address
substream_rule max w (Some id) address = with_id max w id.number

-- 6 to 8, of a stream with stage 1 alone
unfoldable pub stage1_rule : Registers → Option SubstreamId → ℕ → (ℕ → ℕ) → Result ℕ Outcome
stage1_rule r substream address w =
    if bad_stage1 r w then Err (Abort c_bad_ste)  -- 6
    else if eqb (hyp r) 1 && not (eqb (strw w) 0) then Err (Unserved stream_world)  -- 7
    else substream_rule (s1_cd_max r w) w substream address  -- 8

-- the STE at an address, by its words
unfoldable pub ste_rule : Registers → Option SubstreamId → ℕ → (ℕ → ℕ) → Result ℕ Outcome
ste_rule r substream address w =
    if eqb (v w) 0 then Err (Abort c_bad_ste)  -- 1
    else if ltb (config w) 4 then Err Quiet  -- 2
    else if not_there r (config w) then Err (Abort c_bad_ste)  -- 3
    else if stage2_in (config w) then Err (Unserved stage2)  -- 4
    else if eqb (config w) 4 then Err (bypass_rule substream address)  -- 5
    else stage1_rule r substream address w
