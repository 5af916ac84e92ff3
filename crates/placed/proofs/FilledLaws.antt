-- Loops that put the values of a function one by one: j of n were put.
--     value_put, values_put          into a lent list, before what else is left
--     Filled                         into an array of zeros, from its first place on
--     filled_none, filled_more, filled_all  before, one more, at the end
-- Assumes: nothing.
use Prim.Native.Nat.{ℕ, ◌+◌, ◌-◌, ◌≤◌, ◌<◌}
use native.Mathlib.Omega.{arith}
use native.Mathlib.Nat.{sub-zero}
use mathlib.Core.Path.{◌≡◌, refl, sym, ◌∙◌}
use mathlib.Core.List.{List, ◌++◌}
use lib.ListN.{set, replicate, length-replicate}
use Rattle.placed.specs.From.{values_from}
use Rattle.placed.specs.Placed.{Left}
use Rattle.placed.proofs.FromLaws.{values_end, values_step, values_length}
use Rattle.placed.proofs.PlacedLaws.{placed_whole}
use Rattle.placed.proofs.LeftLaws.{left_all, left_one, left_placed}

module _ (f : ℕ → ℕ) (n j : ℕ) (rest : List ℕ) {q all now : List ℕ} {at to : ℕ}
    (so_far : Left q at all now to (values_from f (n - j) j ++ rest)) where
  pub value_put :
      j < n → {x : ℕ} → x ≡ f j → {on : ℕ} → on ≡ to + 1 → Left q at all (set now to x) on (values_from f (n - (j + 1)) (j + 1) ++ rest)
  value_put more {x} is place =
      left_one so_far x (values_from f (n - (j + 1)) (j + 1) ++ rest)
      (rw (values_step f n j more, is)) place

  pub values_put : n ≤ j → Left q at all now to rest
  values_put past = rw (values_end f n j past) at so_far

abbrev pub Filled : (ℕ → ℕ) → ℕ → List ℕ → ℕ → Type 0
Filled f n now j = Left (replicate n 0) 0 (values_from f n 0) now j (values_from f (n - j) j)

module _ (f : ℕ → ℕ) (n : ℕ) where
  pub filled_none : Filled f n (replicate n 0) 0
  filled_none =
      let long = length-replicate {A = ℕ} n 0 in
      let full = values_length f n 0 in
      rw sub-zero (left_all (replicate n 0) 0 (values_from f n 0) (omega arith))

  module _ {now : List ℕ} {j : ℕ} (so_far : Filled f n now j) where
    pub filled_more : j < n → {x : ℕ} → x ≡ f j → Filled f n (set now j x) (j + 1)
    filled_more more {x} is =
        left_one so_far x (values_from f (n - (j + 1)) (j + 1)) (rw (values_step f n j more, is)) refl

    pub filled_all : n ≤ j → now ≡ values_from f n 0
    filled_all past =
        left_placed so_far (values_end f n j past)
        ∙ placed_whole (replicate n 0) (values_from f n 0) (values_length f n 0 ∙ sym (length-replicate n 0))
