-- A request as numbers, as a C caller hands it over, and back.
--     request_from           a StreamID, whether a SubstreamID is given (any number but 0), and which
--     given_of, number_of    whether a request has a SubstreamID, and its number
-- Ours: all of it.
-- Assumes: nothing.
use Rattle.std.specs.Prelude.{ℕ, eqb, if◌then◌else◌, None, Option, Some}
use Rattle.ids.specs.declared.SubstreamId.{SubstreamId}
use Rattle.ids.specs.declared.Request.{Request}

-- without a SubstreamID its number is not looked at
abbrev pub substream_from : ℕ → ℕ → Option SubstreamId
substream_from given number = if eqb given 0 then None else Some (record { number = number })

unfoldable pub request_from : ℕ → ℕ → ℕ → Request
request_from stream given substream =
    record { stream = record { number = stream }; substream = substream_from given substream }

abbrev pub given_of : Option SubstreamId → ℕ
given_of None = 0
given_of (Some id) = 1

abbrev pub number_of : Option SubstreamId → ℕ
number_of None = 0
number_of (Some id) = id.number
