-- The registers as words, and back.
--     words_back         the registers from their own words
--     narrow_all         words of 32 bits, by a test of each
-- Assumes: nothing.
use Prim.Native.Nat.{ℕ, ◌<◌, ◌^◌}
use mathlib.Core.Path.{◌≡◌, refl}
use mathlib.Core.Bool.{true}
use borrow.Author.Tests.{ltb-true}
use lib.Dec.{ltb}
use lib.ListN.{get_or}
use Rattle.number_laws.proofs.Tables.{every, at_each}
use Rattle.registers.specs.Words.{registers_from, words_of_registers}
use Rattle.registers.specs.declared.Registers.{Registers}

module _ (r : Registers) where
  pub words_back : registers_from (words_of_registers r) r.strtab_base ≡ r
  words_back = refl

  pub narrow_all : every (λ x. ltb x (2 ^ 32)) (words_of_registers r) ≡ true → (j : ℕ) → get_or (words_of_registers r) j 0 < 2 ^ 32
  narrow_all all j = ltb-true (get_or (words_of_registers r) j 0) (2 ^ 32) (at_each (λ x. ltb x (2 ^ 32)) (words_of_registers r) j 0 all refl)
