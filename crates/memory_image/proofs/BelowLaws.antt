-- The bytes of a memory that lie below a limit.
--     run_below    a rule that fetches no empty descriptor gives and lists the same on them as on the whole memory under that limit
-- Assumes: nothing.
use Prim.Native.Nat.{ℕ, ◌+◌, ◌-◌, ◌*◌, ◌<◌, min}
use native.Mathlib.Omega.{arith}
use mathlib.Core.Path.{◌≡◌, refl, sym, ◌∙◌}
use mathlib.Core.Bool.{Bool, true, false, ◌&&◌}
use mathlib.Core.List.{List}
use borrow.Author.Tests.{leb-true, leb-false}
use lib.Dec.{leb}
use lib.ListN.{length, length-take}
use lib.Seq.{get_or-take}
use Rattle.memory_image.specs.Extent.{extent_of, end_of, below, fetched}
use Rattle.memory_image.specs.Words.{bytes}
use Rattle.memory_image.specs.Rule.{Rule, done, fetch, run, words_at, descriptor, Every}
use Rattle.memory_image.proofs.ExtentLaws.{fetched_lies}
use Rattle.memory_image.proofs.RunLaws.{run_done, run_had, run_fault, words_agree}

module _ (base limit : ℕ) (memory : List ℕ) where
  abbrev part : List ℕ
  part = below base limit memory

  part_length : length part ≡ min (limit - base) (length memory)
  unfolding below
  part_length = length-take (limit - base) memory

  -- which bytes are fetched
  fetched_below :
      (address size : ℕ) → 0 < size
      → fetched (extent_of base memory) limit address size ≡ fetched (extent_of base part) (end_of (extent_of base part)) address size
  unfolding fetched
  fetched_below address size some =
      go (leb base address) refl (leb (address + size) (base + length memory)) refl (leb (address + size) limit) refl
      (leb (address + size) (base + length part)) refl
    where
      go :
          (from : Bool) → leb base address ≡ from → (inside : Bool) → leb (address + size) (base + length memory) ≡ inside
          → (under : Bool) → leb (address + size) limit ≡ under → (both : Bool) → leb (address + size) (base + length part) ≡ both
          → (from && (inside && under)) ≡ (from && (both && both))
      go false f inside i under u both b = refl
      go true f true i true u true b = refl
      go true f true i true u false b =
          absurd
          (omega (
            arith,
            part_length,
            leb-true base address f,
            leb-true (address + size) (base + length memory) i,
            leb-true (address + size) limit u,
            leb-false (address + size) (base + length part) b,
          ))
      go true f true i false u true b =
          absurd (omega (arith, part_length, leb-true base address f, leb-false (address + size) limit u, leb-true (address + size) (base + length part) b))
      go true f true i false u false b = refl
      go true f false i under u true b =
          absurd
          (omega (arith, part_length, leb-false (address + size) (base + length memory) i, leb-true (address + size) (base + length part) b))
      go true f false i under u false b = refl

  -- and what they hold
  words_below :
      (address n : ℕ) → fetched (extent_of base part) (end_of (extent_of base part)) address (8 * n) ≡ true
      → words_at (bytes memory) (address - base) n ≡ words_at (bytes part) (address - base) n
  unfolding below
  words_below address n test =
      let lies = fetched_lies (extent_of base part) (end_of (extent_of base part)) (descriptor address n) test in
      let from = lies.from in
      let inside = lies.inside in
      words_agree (extent_of base part) (bytes memory) (bytes part) address n from
      (λ a low high. sym (get_or-take (limit - base) memory (a - base) 0 (omega (arith, part_length))))

  module _ {A : Type 0} where
    Same : Rule A → Type 0
    Same t = run (extent_of base memory) limit (bytes memory) t ≡ run (extent_of base part) (end_of (extent_of base part)) (bytes part) t

    pub run_below :
        (t : Rule A) → Every (λ size. 0 < size) t
        → run (extent_of base memory) limit (bytes memory) t ≡ run (extent_of base part) (end_of (extent_of base part)) (bytes part) t
    unfolding Same
    run_below (done x) some = rw (run_done, run_done)
    run_below (fetch address n fault rest) some =
        go (fetched (extent_of base part) (end_of (extent_of base part)) address (8 * n)) refl
        (run_below (rest (words_at (bytes part) (address - base) n)) (some.1.1 (words_at (bytes part) (address - base) n)))
        (run_below fault some.1.0)
      where
        go :
            (b : Bool) → fetched (extent_of base part) (end_of (extent_of base part)) address (8 * n) ≡ b
            → Same (rest (words_at (bytes part) (address - base) n)) → Same fault → Same (fetch address n fault rest)
        go true test on out =
            rw (
              run_had (extent_of base memory) limit (bytes memory) address n fault rest (fetched_below address (8 * n) some.0 ∙ test),
              run_had (extent_of base part) (end_of (extent_of base part)) (bytes part) address n fault rest test,
              words_below address n test,
              on,
            )
        go false test on out =
            rw (
              run_fault (extent_of base memory) limit (bytes memory) address n fault rest (fetched_below address (8 * n) some.0 ∙ test),
              run_fault (extent_of base part) (end_of (extent_of base part)) (bytes part) address n fault rest test,
            ) out
