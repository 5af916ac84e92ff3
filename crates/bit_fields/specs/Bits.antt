-- Bits of numbers.
--     low, high    x's k low bits; x without them, moved down
--     field        so many bits of a word, from a lowest one up
--     bits         the same by its ends, as the rules write it: [hi:lo]
--     bits_of      bits of a descriptor of several words, numbered from its first one on
--     aligned_down  x with its k low bits taken as 0
--     power        2^k as 64 bits hold it
--     in_bits      a number of k bits: below 2^k
--     PartOf       a number that is so much, and so no more than x: what a caller's sums lean on
-- Assumes: nothing.
use Rattle.std.specs.Prelude.{ℕ, ◌+◌, ◌-◌, ◌/◌, ◌%◌, ◌^◌, ◌≤◌, ◌≡◌, Bool, ltb}

abbrev pub low : ℕ → ℕ → ℕ
low x k = x % 2 ^ k

abbrev pub high : ℕ → ℕ → ℕ
high x k = x / 2 ^ k

abbrev pub field : ℕ → ℕ → ℕ → ℕ
field x lowest width = low (high x lowest) width

abbrev pub bits : ℕ → ℕ → ℕ → ℕ
bits hi lo x = field x lo (hi + 1 - lo)

abbrev pub bits_of : ℕ → ℕ → (ℕ → ℕ) → ℕ
bits_of hi lo w = bits (hi % 64) (lo % 64) (w (lo / 64))

abbrev pub aligned_down : ℕ → ℕ → ℕ
aligned_down x k = x - low x k

abbrev pub power : ℕ → ℕ
power k = 2 ^ k % 2 ^ 64

abbrev pub in_bits : ℕ → ℕ → Bool
in_bits x k = ltb x (2 ^ k)

pub record PartOf (x value r : ℕ) : Type 0 where
  pub is : r ≡ value
  pub most : r ≤ x
