-- From StreamID to STE (RULES, "From StreamID to STE", steps 1 to 6; 000, 002).
--     stream_rule            the whole of it: start here
--     switched_off           step 1
--     log2                   step 2: the effective LOG2SIZE
--     is_linear, linear_at   step 3
--     split_of, l1std_at     step 4
--     from_l1std             step 4's fetch
--     stes_held, leaf_rule   steps 5 and 6, from what the L1STD says
-- The STE itself is fetched by whoever asks where it is.
-- Assumes: nothing.
use Rattle.std.specs.Prelude.{ℕ, ◌+◌, ◌-◌, ◌*◌, ◌^◌, min, max, Bool, not, ◌||◌, eqb, leb, ltb, if◌then◌else◌, Err, None, Ok, Option, Result, Some}
use Rattle.bit_fields.specs.Bits.{bits, high, low, aligned_down}
use Rattle.registers.specs.Fields.{smmu_en, abort, log2_size, sid_size, st_level, fmt, split, addr}
use Rattle.registers.specs.declared.Registers.{Registers}
use Rattle.memory_image.specs.Rule.{Rule, done, fetch}
use Rattle.answers.specs.Outcome.{c_bad_stream_id, f_ste_fetch}
use Rattle.answers.specs.declared.Outcome.{Outcome}
use Rattle.answers.specs.declared.Outcome.TheVariants.{Abort, Fault, Quiet, BypassGlobal}

-- 1. SMMUEN 0: ABORT 1 gives a quiet abort, ABORT 0 global bypass
unfoldable pub switched_off : Registers → Outcome
switched_off r =
    if eqb (abort r) 1 then Quiet
    else BypassGlobal

-- 2. the smaller of LOG2SIZE and SIDSIZE
abbrev pub log2 : Registers → ℕ
log2 r = min (log2_size r) (sid_size r)

-- 3. ST_LEVEL is 0 or FMT isn't 1
unfoldable pub is_linear : Registers → Bool
is_linear r = eqb (st_level r) 0 || not (eqb (fmt r) 1)

-- ADDR + 64 x StreamID, with ADDR's bits below LOG2SIZE + 6 taken as 0
unfoldable pub linear_at : Registers → ℕ → ℕ
linear_at r stream = aligned_down (addr r) (log2 r + 6) + 64 * stream

-- 4. SPLIT is 6, 8 or 10; any other value is 6
unfoldable pub split_of : ℕ → ℕ
split_of code =
    if eqb code 8 then 8
    else if eqb code 10 then 10
    else 6

-- ADDR + 8 x (StreamID divided by 2^SPLIT), with ADDR's bits N to 0 taken as 0, N the larger of 5 and LOG2SIZE - SPLIT + 2
unfoldable pub l1std_at : Registers → ℕ → ℕ → ℕ
l1std_at r leaf_bits stream = aligned_down (addr r) (max 5 (log2 r + 2 - leaf_bits) + 1) + 8 * high stream leaf_bits

-- 5. Span 0 and 12 to 31 are invalid, 1 to 11 hold 2^(Span-1) STEs, and Span above SPLIT + 1 is invalid
unfoldable pub stes_held : ℕ → ℕ → Option ℕ
stes_held span leaf_bits =
    if eqb span 0 then None
    else if ltb 11 span then None
    else if ltb (leaf_bits + 1) span then None
    else Some (2 ^ (span - 1))

-- L1STD: Span [4:0], and 6. L2Ptr [55:6] with bits N to 0 taken as 0, N = 5 + (Span - 1)
abbrev pub span_of : ℕ → ℕ
span_of l1std = bits 4 0 l1std

abbrev pub l2_ptr : ℕ → ℕ
l2_ptr l1std = aligned_down (bits 55 6 l1std * 2 ^ 6) (5 + span_of l1std)

-- invalid, or StreamID's low bits reaching 2^(Span-1): C_BAD_STREAMID; else the STE at L2Ptr + 64 x low bits
abbrev pub in_leaf : Option ℕ → ℕ → ℕ → Result ℕ Outcome
in_leaf None l1std index = Err (Abort c_bad_stream_id)
in_leaf (Some n) l1std index =
    if leb n index then Err (Abort c_bad_stream_id)
    else Ok (l2_ptr l1std + 64 * index)

unfoldable pub leaf_rule : Registers → ℕ → ℕ → ℕ → Result ℕ Outcome
leaf_rule r leaf_bits l1std stream = in_leaf (stes_held (span_of l1std) leaf_bits) l1std (low stream leaf_bits)

-- from an L1STD's address: it is 8 bytes; a fetch that fails is F_STE_FETCH with that address
abbrev pub from_l1std : Registers → ℕ → ℕ → ℕ → Rule (Result ℕ Outcome)
from_l1std r leaf_bits stream address =
    fetch address 1 (done (Err (Fault f_ste_fetch address))) (λ w. done (leaf_rule r leaf_bits (w 0) stream))

-- a two-level table, split at so many bits
unfoldable pub two_level_rule : Registers → ℕ → ℕ → Rule (Result ℕ Outcome)
two_level_rule r leaf_bits stream = from_l1std r leaf_bits stream (l1std_at r leaf_bits stream)

unfoldable pub stream_rule : Registers → ℕ → Rule (Result ℕ Outcome)
stream_rule r stream =
    if eqb (smmu_en r) 0 then done (Err (switched_off r))  -- 1
    else if leb (2 ^ log2 r) stream then done (Err (Abort c_bad_stream_id))  -- 2
    else if is_linear r then done (Ok (linear_at r stream))  -- 3
    else two_level_rule r (split_of (split r)) stream  -- 4 to 6
