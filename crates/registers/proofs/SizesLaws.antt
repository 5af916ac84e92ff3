-- Sizes.
--     size_at_most, oas_at_most   no size is above 52, nor is this SMMU's
-- Assumes: nothing.
use Prim.Native.Nat.{ℕ, ◌≤◌}
use mathlib.Core.Path.{refl}
use borrow.Author.Tests.{leb-true}
use lib.Dec.{leb}
use lib.ListN.{get_or}
use Rattle.number_laws.proofs.Tables.{at_each}
use Rattle.registers.specs.Fields.{oas}
use Rattle.registers.specs.Sizes.{sizes, size_of, oas_size}
use Rattle.registers.specs.declared.Registers.{Registers}

module _ (code : ℕ) where
  pub size_at_most : size_of code ≤ 52
  unfolding size_of
  size_at_most = leb-true (get_or sizes code 0) 52 (at_each (λ n. leb n 52) sizes code 0 refl refl)

module _ (r : Registers) where
  pub oas_at_most : oas_size r ≤ 52
  unfolding oas_size
  oas_at_most = size_at_most (oas r)
