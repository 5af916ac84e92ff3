-- A descriptor fetched and listed, by what the fetch answered.
--     read_outside, read_at    it is not there to be had; it is, and one piece more is listed
-- Assumes: nothing.
use Prim.Native.Nat.{ℕ}
use mathlib.Core.Path.{◌≡◌}
use mathlib.Core.List.{List}
use Rattle.memory_image.specs.Extent.{extent_of, end_of, fetch_rule}
use Rattle.memory_image.specs.declared.Fetched.{Fetched}
use Rattle.memory_image.specs.declared.Fetched.TheVariants.{At, Outside}
use Rattle.answers.specs.Pieces.{push_piece}
use Rattle.answers.specs.Walk.{read_put, Reads}

module _ (base : ℕ) (memory : List ℕ) (address size : ℕ) {said : Fetched}
    (is : said ≡ fetch_rule (extent_of base memory) (end_of (extent_of base memory)) address size) (ws : List ℕ) where
  pub read_outside : {a : ℕ} → said ≡ Outside a → Reads base memory address size ws said ws
  unfolding read_put
  read_outside out = record { result = is; words = rw out }

  pub read_at :
      {place : ℕ} → said ≡ At place → {after : List ℕ} → after ≡ push_piece ws (record { address = address; length = size })
      → Reads base memory address size ws said after
  unfolding read_put
  read_at at pushed = record { result = is; words = rw at pushed }
