-- Laws of specs/Bits.antt, over the width w of a word and a number of bits k.
--     low_part, high_part         low and high bits are no more than the word
--     high_none, low_all          from w bits on nothing is left above, and all of a word is below
--     power_fits, power_past      2^k as w bits hold it: itself below w, and 0 from w on
--     power_is, power_some, low_by  2^k so held is a divisor, and leaves the k low bits
--     low_small                   the low bits are below 2^k
--     high_by                     what a shift leaves
--     in_bits_high, in_bits_by    a number is below 2^k exactly if it has no bit from k on
-- Assumes: nothing.
use Prim.Native.Nat.{ℕ, ◌+◌, ◌-◌, ◌*◌, ◌/◌, ◌%◌, ◌^◌, ◌≤◌, ◌<◌}
use native.Mathlib.Nat.{mod-lt, mod-le, mod-eq_of_lt, div-eq_of_lt, mul-mod_left, div-add-mod', div-le_self}
use native.Mathlib.Omega.{arith}
use mathlib.Core.Path.{◌≡◌, refl, sym, ◌∙◌}
use mathlib.Core.Bool.{Bool, true, false}
use borrow.Author.Tests.{eq-eqb, ne_eqb, ltb-true, ltb-false}
use lib.Dec.{eqb, ltb}
use lib.Pow.{pow_pos, pow_mono, pow-lt, pow-add}
use Rattle.bit_fields.specs.Bits.{PartOf, low, high, in_bits}

-- what is left of a word when bits are taken away is no more than the word
module _ (x k : ℕ) {r : ℕ} where
  pub low_part : r ≡ low x k → PartOf x (low x k) r
  low_part is = record { is = is; most = rw is (mod-le x (2 ^ k)) }

  pub high_part : r ≡ high x k → PartOf x (high x k) r
  high_part is = record { is = is; most = rw is (div-le_self x (2 ^ k)) }

module _ (w k : ℕ) where
  wider : {x : ℕ} → x < 2 ^ w → w ≤ k → x < 2 ^ k
  wider small past = let more : 2 ^ w ≤ 2 ^ k = pow_mono past in omega arith

  pub high_none : {x : ℕ} → x < 2 ^ w → w ≤ k → PartOf x (high x k) 0
  high_none {x} small past = high_part x k (sym (div-eq_of_lt (wider small past)))

  pub low_all : {x : ℕ} → x < 2 ^ w → w ≤ k → PartOf x (low x k) x
  low_all {x} small past = low_part x k (sym (mod-eq_of_lt (wider small past)))

  pub power_fits : k < w → 2 ^ k % 2 ^ w ≡ 2 ^ k
  power_fits small = mod-eq_of_lt (pow-lt small)

  pub power_past : w ≤ k → 0 ≡ 2 ^ k % 2 ^ w
  power_past past =
      let split : k ≡ k - w + w = omega arith in
      rw (split, pow-add) (sym (mul-mod_left (2 ^ (k - w)) (2 ^ w)))

  module _ {p : ℕ} (is : p ≡ 2 ^ k % 2 ^ w) (small : k < w) where
    pub power_is : p ≡ 2 ^ k
    power_is = is ∙ power_fits small

    pub power_some : 0 < p
    power_some = rw power_is (pow_pos k)

    pub low_by : (x : ℕ) → PartOf x (low x k) (x % p)
    low_by x = low_part x k (rw power_is)

module _ (x k : ℕ) where
  pub low_small : low x k < 2 ^ k
  low_small = mod-lt x (pow_pos k)

  pub high_by : PartOf x (high x k) (x / 2 ^ k)
  high_by = high_part x k refl

  pub in_bits_high : eqb (high x k) 0 ≡ in_bits x k
  in_bits_high = go (ltb x (2 ^ k)) refl
    where
      go : (b : Bool) → ltb x (2 ^ k) ≡ b → eqb (high x k) 0 ≡ b
      go true e = eq-eqb (high x k) 0 (div-eq_of_lt (ltb-true x (2 ^ k) e))
      go false e =
          let past : 2 ^ k ≤ x = ltb-false x (2 ^ k) e in
          let split : high x k * 2 ^ k + low x k ≡ x = div-add-mod' x (2 ^ k) in
          let small : low x k < 2 ^ k = low_small in
          ne_eqb (high x k) 0 (λ none. let left = rw none at split in omega arith)

  pub in_bits_by : {r : ℕ} → r ≡ high x k → eqb r 0 ≡ in_bits x k
  in_bits_by is = rw is in_bits_high
