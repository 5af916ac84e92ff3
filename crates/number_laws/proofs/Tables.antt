-- A table's rule, proved once by a test that is computed over the whole table.
--     every       the test holds at each entry
--     at_each     and then at whatever stands at a place, the entry or the default
-- Assumes: nothing.
use Prim.Native.Nat.{ℕ, zero, suc}
use mathlib.Core.Path.{◌≡◌}
use mathlib.Core.Bool.{Bool, true, ◌&&◌}
use mathlib.Core.List.{List, [], ◌∷◌}
use lib.ListN.{get_or}
use Rattle.number_laws.proofs.Tests.{both}

module _ {A : Type 0} (test : A → Bool) where
  abbrev pub every : List A → Bool
  every [] = true
  every (x ∷ xs) = test x && every xs

  pub at_each : (xs : List A) (i : ℕ) (d : A) → every xs ≡ true → test d ≡ true → test (get_or xs i d) ≡ true
  at_each [] i d all else = else
  at_each (x ∷ xs) zero d all else = (both (test x) (every xs) all).0
  at_each (x ∷ xs) (suc i) d all else = at_each xs i d (both (test x) (every xs) all).1 else
