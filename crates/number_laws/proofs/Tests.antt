-- Tests joined by "and" and by "or", and tests that cannot be.
--     both       a joined test that holds, part by part
--     neither    a test joined by "or" that does not hold, part by part
--     not_both   what is true is not false
-- Assumes: nothing.
use Prim.Native.Nat.{ℕ}
use native.Mathlib.Omega.{arith}
use mathlib.Core.Path.{◌≡◌, refl}
use mathlib.Core.Bool.{Bool, true, false, ◌&&◌, ◌||◌}

pub not_both : {A : Type 0} → true ≡ false → A
not_both e = let z : ◌≡◌ {A = ℕ} 0 1 = cc in absurd (omega arith)

pub both : (a b : Bool) → a && b ≡ true → (a ≡ true) × (b ≡ true)
both true b e = (refl, e)
both false b e = let z : true ≡ false = cc in not_both z

pub neither : (a b : Bool) → a || b ≡ false → (a ≡ false) × (b ≡ false)
neither true b e = not_both e
neither false b e = (refl, e)
