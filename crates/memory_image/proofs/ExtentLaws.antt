-- The fetch, by the tests that the code makes.
--     before, past_end, had                       the ways of a fetch, by where the bytes lie; fetch_ways: all three
--     fetched_lies, lies_fetched                  what is fetched lies in the memory and below the limit, and the other way round
--     at_place, outside, wanted_is                what the two answers say of the fetch; the address that was wanted
-- Assumes: nothing.
use Prim.Native.Nat.{ℕ, ◌+◌, ◌-◌, ◌≤◌, ◌<◌}
use native.Mathlib.Omega.{arith}
use mathlib.Core.Path.{◌≡◌, refl}
use mathlib.Core.Bool.{Bool, true, false, ◌&&◌}
use borrow.Author.Tests.{le-leb, lt-leb, leb-true}
use Rattle.number_laws.proofs.Tests.{both}
use Rattle.std.specs.Prelude.{if◌then◌else◌}
use Rattle.memory_image.specs.Extent.{fetched, fetch_rule, wanted}
use Rattle.memory_image.specs.declared.Extent.{Extent}
use Rattle.memory_image.specs.Rule.{Lies}
use Rattle.memory_image.specs.declared.Piece.{Piece}
use Rattle.memory_image.specs.declared.Fetched.{Fetched}
use Rattle.memory_image.specs.declared.Fetched.TheVariants.{At, Outside}

module _ (e : Extent) (limit : ℕ) (p : Piece) where
  pub fetched_lies : fetched e limit p.address p.length ≡ true → Lies e limit p
  unfolding fetched
  fetched_lies is =
      let first = both _ _ is in
      let second = both _ _ first.1 in
      record {
        from = leb-true _ _ first.0;
        inside = leb-true _ _ second.0;
        below = leb-true _ _ second.1;
      }

  pub lies_fetched : Lies e limit p → fetched e limit p.address p.length ≡ true
  unfolding fetched
  lies_fetched lies = simp (le-leb _ _ lies.from, le-leb _ _ lies.inside, le-leb _ _ lies.below)

and_false : (a : Bool) → a && false ≡ false
and_false true = refl
and_false false = refl

module _ (e : Extent) (limit address size : ℕ) where
  pub before : address < e.base → Outside address ≡ fetch_rule e limit address size
  unfolding fetch_rule fetched
  before is = simp (lt-leb _ _ is)

  pub past_end : e.base + e.length < address + size → Outside address ≡ fetch_rule e limit address size
  unfolding fetch_rule fetched
  past_end is = simp (lt-leb _ _ is, and_false)

  pub had : Lies e limit (record { address = address; length = size }) → At (address - e.base) ≡ fetch_rule e limit address size
  unfolding fetch_rule
  had lies = simp (lies_fetched e limit (record { address = address; length = size }) lies)

pub record Had (e : Extent) (limit address size place : ℕ) : Type 0 where
  pub test : fetched e limit address size ≡ true
  pub place_is : place ≡ address - e.base
  pub from : e.base ≤ address
  pub inside : place + size ≤ e.length
  pub below : address + size ≤ limit

module _ (e : Extent) (limit address size : ℕ) {said : Fetched} (is : said ≡ fetch_rule e limit address size) where
  -- which way the fetch went, by its answer
  by_test : (b : Bool) → fetched e limit address size ≡ b → said ≡ (if b then At (address - e.base) else Outside address)
  unfolding fetch_rule
  by_test b test = rw test at is

  pub at_place : {place : ℕ} → said ≡ At place → Had e limit address size place
  at_place {place} at = go (fetched e limit address size) refl
    where
      go : (b : Bool) → fetched e limit address size ≡ b → Had e limit address size place
      go true test =
          let went = by_test true test in
          let place_is : place ≡ address - e.base = cc in
          let lies = fetched_lies e limit (record { address = address; length = size }) test in
          let from = lies.from in
          let inside = lies.inside in
          record { test = test; place_is = place_is; from = from; inside = omega arith; below = lies.below }
      go false test = let went = by_test false test in let z : ◌≡◌ {A = ℕ} 0 1 = cc in absurd (omega arith)

  pub outside : {a : ℕ} → said ≡ Outside a → fetched e limit address size ≡ false
  outside out = go (fetched e limit address size) refl
    where
      go : (b : Bool) → fetched e limit address size ≡ b → fetched e limit address size ≡ false
      go true test = let went = by_test true test in let z : ◌≡◌ {A = ℕ} 0 1 = cc in absurd (omega arith)
      go false test = test

  -- a fetch that fails wanted the address that it was given
  pub wanted_is : {a got : ℕ} → said ≡ Outside a → got ≡ wanted said → got ≡ address
  unfolding wanted
  wanted_is out told =
      let went = by_test false (outside out) in
      rw went at told

pub ruleset fetch_ways = (before, past_end, had)
