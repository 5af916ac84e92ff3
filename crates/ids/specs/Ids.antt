-- The two kinds of id and a request (RULES, "What the monitor hands over"; RULES, "When the bench says no", refusal 3).
--     stream_bits, substream_bits      the widths of the two kinds
--     made_stream, made_substream      what the constructors answer
--     refusal3                         a request that is refused with 3
-- Assumes: nothing.
use Rattle.std.specs.Prelude.{ℕ, ◌^◌, Bool, false, ltb, leb, if◌then◌else◌, None, Option, Some}
use Rattle.ids.specs.declared.SubstreamId.{SubstreamId}
use Rattle.ids.specs.declared.StreamId.{StreamId}
use Rattle.ids.specs.declared.Request.{Request}

-- a StreamID has 32 bits
abbrev pub stream_bits : ℕ
stream_bits = 32

-- a SubstreamID has 20
abbrev pub substream_bits : ℕ
substream_bits = 20

unfoldable pub made_stream : ℕ → Option StreamId
made_stream n =
    if ltb n (2 ^ stream_bits) then Some (record { number = n })
    else None

unfoldable pub made_substream : ℕ → Option SubstreamId
made_substream n =
    if ltb n (2 ^ substream_bits) then Some (record { number = n })
    else None

-- a SubstreamID is given and is 2^20 or more
abbrev pub too_large : Option SubstreamId → Bool
too_large None = false
too_large (Some s) = leb (2 ^ substream_bits) s.number

unfoldable pub refusal3 : Request → Bool
refusal3 request = too_large request.substream
