-- From SubstreamID to CD (RULES, "From SubstreamID to CD"; 001).
--     context_rule       the whole of it, from the STE's words and the index: start here
--     leaf_bits          how many low bits of the index S1Fmt puts in the leaf
--     l1cd_at, from_l1cd  where the L1CD is, and its fetch
--     l1cd_rule          what it says
-- Ours: neither S1ContextPtr nor the L1CD's L2Ptr is aligned down; an L1CD with V clear is C_BAD_SUBSTREAMID also when CD 0 is used for a
-- request without a SubstreamID.
-- The CD itself is fetched by whoever asks where it is.
-- Assumes: nothing.
use Rattle.std.specs.Prelude.{ℕ, ◌+◌, ◌*◌, ◌^◌, eqb, if◌then◌else◌, Err, Ok, Result}
use Rattle.answers.specs.declared.Outcome.{Outcome}
use Rattle.bit_fields.specs.Bits.{bits, high, low}
use Rattle.memory_image.specs.Rule.{Rule, done, fetch}
use Rattle.registers.specs.declared.Registers.{Registers}
use Rattle.answers.specs.Outcome.{c_bad_substream_id, f_cd_fetch}
use Rattle.answers.specs.declared.Outcome.TheVariants.{Abort, Fault}
use Rattle.stream_entry.specs.StreamEntry.{s1_fmt, s1_cd_max, s1_context_ptr}

-- S1Fmt 1 and 2 put the low 6 and 10 bits in the leaf
unfoldable pub leaf_bits : ℕ → ℕ
leaf_bits format =
    if eqb format 1 then 6
    else 10

-- the upper bits choose an 8-byte L1CD at S1ContextPtr
abbrev pub l1cd_at : ℕ → ℕ → ℕ → ℕ
l1cd_at pointer leaf index = pointer + 8 * high index leaf

-- L1CD: V [0] clear is C_BAD_SUBSTREAMID; L2Ptr is [55:12]
unfoldable pub l1cd_rule : Registers → ℕ → ℕ → ℕ → Result ℕ Outcome
l1cd_rule r leaf l1cd index =
    if eqb (bits 0 0 l1cd) 0 then Err (Abort c_bad_substream_id)
    else Ok (bits 55 12 l1cd * 2 ^ 12 + 64 * low index leaf)

-- from an L1CD's address: it is 8 bytes; a fetch that fails is F_CD_FETCH with that address
abbrev pub from_l1cd : Registers → ℕ → ℕ → ℕ → Rule (Result ℕ Outcome)
from_l1cd r leaf index address = fetch address 1 (done (Err (Fault f_cd_fetch address))) (λ w. done (l1cd_rule r leaf (w 0) index))

-- a two-level table at a pointer, with so many low bits of the index in the leaf
unfoldable pub two_level_rule : Registers → ℕ → ℕ → ℕ → Rule (Result ℕ Outcome)
two_level_rule r pointer leaf index = from_l1cd r leaf index (l1cd_at pointer leaf index)

-- with S1CDMax 0, S1Fmt is ignored and the one CD is at S1ContextPtr; S1Fmt 0: S1ContextPtr + 64 x index
unfoldable pub context_rule : Registers → (ℕ → ℕ) → ℕ → Rule (Result ℕ Outcome)
context_rule r w index =
    if eqb (s1_cd_max r w) 0 then done (Ok (s1_context_ptr w))
    else if eqb (s1_fmt w) 0 then done (Ok (s1_context_ptr w + 64 * index))
    else two_level_rule r (s1_context_ptr w) (leaf_bits (s1_fmt w)) index
