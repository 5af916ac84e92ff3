-- Where an edit's bytes lie (SCRIPT, "What is wrong with a line": "Sums and products are exact, past 2^64").
--     place_rule    the offset in the lent memory at which they begin, if all of them lie in it
-- Assumes: nothing.
use Rattle.std.specs.Prelude.{ℕ, ◌+◌, ◌-◌, ◌*◌, ◌&&◌, Option, Some, None, leb, if◌then◌else◌}

-- so many bytes, so many times, from an address on; the memory has its base and length
unfoldable pub place_rule : ℕ → ℕ → ℕ → ℕ → ℕ → Option ℕ
place_rule base length address times bytes =
    if leb base address && leb (address + times * bytes) (base + length) then Some (address - base)
    else None
