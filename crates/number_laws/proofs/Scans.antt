-- What is left of a scan of n places that has come to place i: a loop's test, as the length of what is left.
--     left_none    at the end
--     left_one     before it
-- Assumes: nothing.
use Prim.Native.Nat.{ℕ, suc, ◌+◌, ◌-◌, ◌≤◌, ◌<◌}
use native.Mathlib.Omega.{arith}
use mathlib.Core.Path.{◌≡◌}

pub left_none : (n i : ℕ) → n ≤ i → n - i ≡ 0
left_none n i past = omega arith

pub left_one : (n i : ℕ) → i < n → n - i ≡ suc (n - (i + 1))
left_one n i more = omega arith
