-- Where the lent memory lies: refusal 2, and when a descriptor is fetched
-- (RULES, "What the monitor hands over", "When the bench says no", "From StreamID to STE").
--     memory_most, address_top  the limits
--     refusal2                 a base and a length that are refused with 2
--     end_of, below            where an extent ends; what of a memory lies below the limit
--     fetched                  whether the bytes at an address are fetched
--     fetch_rule               what a fetch answers: their offset in the memory, or the address that it wanted
--     wanted                   the address that a fetch which failed wanted
-- Ours: an address is never cut off at the OAS, so a fetch that ends above it fails.
-- Assumes: nothing.
use Rattle.std.specs.Prelude.{ℕ, ◌+◌, ◌-◌, ◌%◌, ◌^◌, Bool, not, ◌&&◌, ◌||◌, List, eqb, leb, ltb, length, take, if◌then◌else◌}
use Rattle.memory_image.specs.declared.Extent.{Extent}
use Rattle.memory_image.specs.declared.Fetched.{Fetched}
use Rattle.memory_image.specs.declared.Fetched.TheVariants.{At, Outside}

-- a base and a lent run of bytes
abbrev pub extent_of : ℕ → List ℕ → Extent
extent_of base memory = record { base = base; length = length memory }

-- where it ends
abbrev pub end_of : Extent → ℕ
end_of e = e.base + e.length

-- the bytes of a memory at a base that lie below the limit
unfoldable pub below : ℕ → ℕ → List ℕ → List ℕ
below base limit memory = take (limit - base) memory

-- the most bytes that are lent
abbrev pub memory_most : ℕ
memory_most = 65536

-- no address reaches this
abbrev pub address_top : ℕ
address_top = 2 ^ 52

-- base not a multiple of 64, length above 65,536, or base + length above 2^52
unfoldable pub refusal2 : Extent → Bool
refusal2 e = not (eqb (e.base % 64) 0) || (ltb memory_most e.length || ltb address_top (e.base + e.length))

-- so many bytes at an address lie wholly in the memory and end at or below the limit, 2^(OAS size)
unfoldable pub fetched : Extent → ℕ → ℕ → ℕ → Bool
fetched e limit address size =
    leb e.base address && (leb (address + size) (e.base + e.length) && leb (address + size) limit)

unfoldable pub fetch_rule : Extent → ℕ → ℕ → ℕ → Fetched
fetch_rule e limit address size =
    if fetched e limit address size then At (address - e.base)
    else Outside address

-- 0 of a fetch that did not fail
unfoldable pub wanted : Fetched → ℕ
wanted (At place) = 0
wanted (Outside address) = address
