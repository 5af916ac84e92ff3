-- Where an edit's bytes lie, by subtractions and a division.
--     place_before, place_after, place_past    the ways in which they do not all lie in the memory
--     place_there                              and the offset where they do
-- Assumes: nothing.
use Prim.Native.Nat.{ℕ, ◌+◌, ◌-◌, ◌*◌, ◌/◌, ◌≤◌, ◌<◌}
use native.Mathlib.Omega.{arith}
use native.Mathlib.Nat.{div-lt_iff_lt-mul, le-div_iff_mul-le, mul_comm}
use mathlib.Core.Path.{◌≡◌, ◌∙◌}
use borrow.Author.Tests.{le-leb, lt-leb}
use Rattle.script.specs.Place.{place_rule}
use Rattle.std.proofs.Common.{Option, Some, None}

module _ (base length address times bytes : ℕ) where
  pub place_before : address < base → {r : Option ℕ} → r ≡ None → r ≡ place_rule base length address times bytes
  unfolding place_rule
  place_before low none = simp (none, lt-leb base address low)

  module _ (from : base ≤ address) (some : 0 < times) where
    outside : base + length < address + times * bytes → None ≡ place_rule base length address times bytes
    unfolding place_rule
    outside past = simp (le-leb base address from, lt-leb (address + times * bytes) (base + length) past)

    pub place_after :
        length < address - base → {r : Option ℕ} → r ≡ None → r ≡ place_rule base length address times bytes
    place_after past none = none ∙ outside (omega arith)

    module _ {offset room : ℕ} (at : offset ≡ address - base) (left : room ≡ length - offset) (within : offset ≤ length) where
      pub place_past : room / times < bytes → None ≡ place_rule base length address times bytes
      place_past past = outside (omega (arith, (div-lt_iff_lt-mul some).0 past, mul_comm bytes times))

      pub place_there : bytes ≤ room / times → Some offset ≡ place_rule base length address times bytes
      unfolding place_rule
      place_there fits =
          let end : address + times * bytes ≤ base + length =
          omega (arith, (le-div_iff_mul-le some).0 fits, mul_comm bytes times) in
          simp (at, le-leb base address from, le-leb (address + times * bytes) (base + length) end)
