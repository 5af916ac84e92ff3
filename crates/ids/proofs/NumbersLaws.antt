-- A request as numbers and back.
--     request_is                 a request by its parts
--     numbers_back               a request is read back from its numbers
-- Assumes: nothing.
use Rattle.std.specs.Prelude.{None, Option, Some}
use Rattle.ids.specs.declared.SubstreamId.{SubstreamId}
use Prim.Native.Nat.{ℕ}
use mathlib.Core.Path.{◌≡◌, refl}
use Rattle.ids.specs.Numbers.{substream_from, request_from, given_of, number_of}
use Rattle.ids.specs.declared.Request.{Request}

pub request_is :
    (stream given number : ℕ) {s : Option SubstreamId} → s ≡ substream_from given number
    → record { stream = record { number = stream }; substream = s } ≡ request_from stream given number
unfolding request_from
request_is stream given number is = rw is

substream_back : (s : Option SubstreamId) → substream_from (given_of s) (number_of s) ≡ s
substream_back None = refl
substream_back (Some id) = refl

pub numbers_back : (request : Request) → request_from request.stream.number (given_of request.substream) (number_of request.substream) ≡ request
unfolding request_from
numbers_back request = rw (substream_back request.substream)
