-- The claims of specs/Claims.antt, each under its own name. The table is computed.
-- Assumes: nothing.
use Prim.Native.Nat.{ℕ, zero, suc, ◌+◌, ◌^◌}
use native.Mathlib.Omega.{arith}
use native.Mathlib.Nat.{add-zero, zero-add}
use mathlib.Core.Path.{◌≡◌, refl, ap, ◌∙◌, fun_ext}
use mathlib.Core.Bool.{false}
use mathlib.Core.List.{List, [], ◌∷◌}
use lib.Dec.{leb-zero, leb-suc-zero, leb-suc-suc}
use lib.ListN.{length, get_or}
use Rattle.ids.specs.Ids.{refusal3}
use Rattle.ids.specs.declared.Request.{Request}
use Rattle.registers.specs.Sizes.{refusal1, size_of, oas_size}
use Rattle.registers.specs.declared.Registers.{Registers}
use Rattle.memory_image.specs.Extent.{extent_of, refusal2, fetched}
use Rattle.memory_image.specs.Rule.{run, and_then}
use Rattle.memory_image.specs.Words.{bytes, word}
use Rattle.stream_table.specs.StreamTable.{stream_rule, is_linear, split_of, l1std_at, stes_held, leaf_rule, two_level_rule}
use Rattle.stream_entry.specs.StreamEntry.{ste_rule, not_there, stage1_rule, bad_stage1, with_id}
use Rattle.context_table.specs.ContextTable.{context_rule, leaf_bits, two_level_rule as cd_two_level_rule, l1cd_rule}
use Rattle.context_entry.specs.ContextEntry.{cd_rule, effective_ips}
use Rattle.lookup.specs.Lookup.{lookup_rule, from_ste, from_entry, from_cd, ruled, answered}
use Rattle.lookup_claims.proofs.Claims.{refused_exactly}
use Rattle.placed.specs.From.{values_from, tab}
use Rattle.placed.proofs.FromLaws.{values_length}
use Rattle.shots.specs.Shots.{Shot, shots, byte_of, whole, clip}
use Rattle.shots.specs.Faults.{faults}
use Rattle.shots.specs.Claims.{EachShot, Right, AllShots, AllFaults, Real, RealShots, RealFaults}

pub all_shots : AllShots
unfolding run fetched word lookup_rule and_then from_ste from_entry from_cd stream_rule is_linear split_of l1std_at stes_held leaf_rule two_level_rule ste_rule not_there stage1_rule bad_stage1 with_id context_rule leaf_bits cd_two_level_rule l1cd_rule cd_rule effective_ips size_of oas_size refusal1 refusal3
all_shots = (
  record { says = refl; registers_taken = refl; request_taken = refl },
  (
    record { says = refl; registers_taken = refl; request_taken = refl },
    (
      record { says = refl; registers_taken = refl; request_taken = refl },
      (
        record { says = refl; registers_taken = refl; request_taken = refl },
        (
          record { says = refl; registers_taken = refl; request_taken = refl },
          (
            record { says = refl; registers_taken = refl; request_taken = refl },
            (
              record { says = refl; registers_taken = refl; request_taken = refl },
              (
                record { says = refl; registers_taken = refl; request_taken = refl },
                (
                  record { says = refl; registers_taken = refl; request_taken = refl },
                  (
                    record { says = refl; registers_taken = refl; request_taken = refl },
                    (
                      record { says = refl; registers_taken = refl; request_taken = refl },
                      (
                        record { says = refl; registers_taken = refl; request_taken = refl },
                        (
                          record { says = refl; registers_taken = refl; request_taken = refl },
                          (
                            record { says = refl; registers_taken = refl; request_taken = refl },
                            tt,
                          ),
                        ),
                      ),
                    ),
                  ),
                ),
              ),
            ),
          ),
        ),
      ),
    ),
  ),
)

pub all_faults : AllFaults
unfolding run fetched word lookup_rule and_then from_ste from_entry from_cd stream_rule is_linear split_of l1std_at stes_held leaf_rule two_level_rule ste_rule not_there stage1_rule bad_stage1 with_id context_rule leaf_bits cd_two_level_rule l1cd_rule cd_rule effective_ips size_of oas_size refusal1 refusal3
all_faults = (
  record { says = refl; registers_taken = refl; request_taken = refl },
  (
    record { says = refl; registers_taken = refl; request_taken = refl },
    (
      record { says = refl; registers_taken = refl; request_taken = refl },
      (
        record { says = refl; registers_taken = refl; request_taken = refl },
        (
          record { says = refl; registers_taken = refl; request_taken = refl },
          (
            record { says = refl; registers_taken = refl; request_taken = refl },
            (
              record { says = refl; registers_taken = refl; request_taken = refl },
              (
                record { says = refl; registers_taken = refl; request_taken = refl },
                tt,
              ),
            ),
          ),
        ),
      ),
    ),
  ),
)

-- a real memory from a function: its bytes are the function's, up to its end
pub tab_length : (n : ℕ) (f : ℕ → ℕ) → length (tab n f) ≡ n
tab_length n f = values_length f n 0

from_at : (n j : ℕ) (f : ℕ → ℕ) (i : ℕ) → get_or (values_from f n j) i 0 ≡ clip n (λ k. f (j + k)) i
unfolding values_from
from_at zero j f i = rw (leb-suc-zero i)
from_at (suc n) j f zero = rw (leb-suc-suc zero n, leb-zero n, add-zero)
from_at (suc n) j f (suc i) = from_at n (j + 1) f i ∙ rw (leb-suc-suc (suc i) n, next)
  where
    next : j + 1 + i ≡ j + suc i
    next = omega arith

pub tab_at : (n : ℕ) (f : ℕ → ℕ) (i : ℕ) → get_or (tab n f) i 0 ≡ clip n f i
tab_at n f i = from_at n 0 f i ∙ rw zero-add

pub bytes_are : (n : ℕ) (f : ℕ → ℕ) → bytes (tab n f) ≡ clip n f
bytes_are n f = fun_ext (tab_at n f)

pub extent_taken : (memory : List ℕ) → length memory ≡ 0x10000 → refusal2 (extent_of 0 memory) ≡ false
unfolding refusal2
extent_taken memory is = rw is

pub real_run :
    (r : Registers) (memory : List ℕ) (f : ℕ → ℕ) (request : Request) → length memory ≡ 0x10000 → bytes memory ≡ f
    → ruled r 0 memory request ≡ run whole (2 ^ oas_size r) f (lookup_rule r request)
unfolding ruled
real_run r memory f request size same = rw (size, same)

pub real : (s : Shot) → Right s → Real s
real s right =
    let memory = tab 0x10000 (byte_of s.memory) in
    let size = tab_length 0x10000 (byte_of s.memory) in
    (refused_exactly s.registers 0 memory s.request).answer right.registers_taken (extent_taken memory size) right.request_taken
    ∙ ap answered (real_run s.registers memory _ s.request size (bytes_are 0x10000 (byte_of s.memory)) ∙ right.says)

each_real : (ss : List Shot) → EachShot Right ss → EachShot Real ss
each_real [] all = tt
each_real (s ∷ ss) all = (real s all.0, each_real ss all.1)

pub real_shots : RealShots
real_shots = each_real shots all_shots

pub real_faults : RealFaults
real_faults = each_real faults all_faults
