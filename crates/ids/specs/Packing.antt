-- A request as one word, and back.
--     packed      the StreamID from bit 21 up; below it 0 without a SubstreamID, and with one bit 20 and its number
--     unpacked    the request that a word stands for, if it stands for one
--     Proper      what every request that is not refused has
-- Assumes: nothing.
use Rattle.std.specs.Prelude.{ℕ, ◌+◌, ◌-◌, ◌*◌, ◌^◌, ◌<◌, ◌≡◌, false, eqb, leb, ltb, if◌then◌else◌, None, Option, Some}
use Rattle.ids.specs.declared.SubstreamId.{SubstreamId}
use Rattle.bit_fields.specs.Bits.{low, high}
use Rattle.ids.specs.Ids.{stream_bits, substream_bits, refusal3}
use Rattle.ids.specs.declared.Request.{Request}

-- the width of the part that says which SubstreamID, if any
abbrev pub part_bits : ℕ
part_bits = substream_bits + 1

abbrev pub part_of : Option SubstreamId → ℕ
part_of None = 0
part_of (Some s) = 2 ^ substream_bits + low s.number substream_bits

unfoldable pub packed : Request → ℕ
packed request = request.stream.number * 2 ^ part_bits + part_of request.substream

abbrev pub request_of : ℕ → Option SubstreamId → Request
request_of n s = record { stream = record { number = n }; substream = s }

-- a stream's request by the part below it
abbrev pub by_part : ℕ → ℕ → Option Request
by_part n part =
    if eqb part 0 then Some (request_of n None)
    else if ltb part (2 ^ substream_bits) then None
    else Some (request_of n (Some (record { number = part - 2 ^ substream_bits })))

unfoldable pub unpacked : ℕ → Option Request
unpacked word =
    if leb (2 ^ (stream_bits + part_bits)) word then None
    else by_part (high word part_bits) (low word part_bits)

pub record Proper (request : Request) : Type 0 where
  pub stream : request.stream.number < 2 ^ stream_bits
  pub substream : refusal3 request ≡ false
