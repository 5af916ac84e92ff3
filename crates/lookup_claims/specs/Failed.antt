-- Which fetches of a rule failed.
--     failures      the descriptors that were to be fetched and weren't, in order, on the bytes of an extent: start here
--     not_fetched   those of a lookup
--     Wanted        there is one such descriptor, and it is at an address
-- Assumes: nothing.
use Rattle.std.specs.Prelude.{ℕ, ◌-◌, ◌*◌, ◌^◌, ◌≡◌, List, [], ◌∷◌, ◌⊎◌, if◌then◌else◌}
use Rattle.ids.specs.declared.Request.{Request}
use Rattle.registers.specs.Sizes.{oas_size}
use Rattle.registers.specs.declared.Registers.{Registers}
use Rattle.memory_image.specs.Extent.{extent_of, fetched}
use Rattle.memory_image.specs.declared.Extent.{Extent}
use Rattle.memory_image.specs.Rule.{Rule, done, fetch, descriptor, words_at, Lies}
use Rattle.memory_image.specs.Words.{bytes}
use Rattle.memory_image.specs.declared.Piece.{Piece}
use Rattle.lookup.specs.Lookup.{lookup_rule}

-- as `run` goes, with the fetches that fail on the list
unfoldable pub failures : {A : Type 0} → Extent → ℕ → (ℕ → ℕ) → Rule A → List Piece
failures e limit f (done x) = []
failures e limit f (fetch address n fault rest) =
    if fetched e limit address (8 * n) then failures e limit f (rest (words_at f (address - e.base) n))
    else descriptor address n ∷ failures e limit f fault

unfoldable pub not_fetched : Registers → ℕ → List ℕ → Request → List Piece
not_fetched r base memory request = failures (extent_of base memory) (2 ^ oas_size r) (bytes memory) (lookup_rule r request)

-- it has 8 bytes or 64, and does not lie in the memory, or ends above the limit
pub record Wanted (e : Extent) (limit : ℕ) (failed : List Piece) (address : ℕ) : Type 0 where
  pub size : ℕ
  pub alone : failed ≡ record { address = address; length = size } ∷ []
  pub long : (size ≡ 8) ⊎ (size ≡ 64)
  pub not_lent : Lies e limit (record { address = address; length = size }) → ⊥
