-- Laws of numbers and bytes written in digits.
--     digit_small, digit_large                             a digit's value, beside the library's
--     digits_none, digits_begin, digits_not, digits_more, digits_end  the loop over a word's digits
--     number_decimal, number_hex                           the two bases
--     are_digits_is                                        a word of hexadecimal digits
--     pair_none, pair_there                                a pair's byte
-- Assumes: nothing.
use Prim.Native.Nat.{ℕ, ◌+◌, ◌*◌, ◌/◌, ◌%◌, ◌≤◌, ◌<◌}
use native.Mathlib.Omega.{arith}
use native.Mathlib.Numerals.{add-one}
use mathlib.Core.Path.{◌≡◌, refl, sym, ◌∙◌}
use mathlib.Core.Bool.{true, false}
use mathlib.Core.List.{List, [], ◌∷◌}
use borrow.Author.Tests.{lt-ltb, le-ltb, le-leb, lt-leb}
use lib.Dec.{eqb, ltb}
use lib.ListN.{length, take, drop, get_or, drop_of_length-le}
use lib.Seq.{drop-cons}
use Rattle.std.proofs.Common.{nat_eq, Ok, Err}
use Rattle.std.proofs.lemmas.Bool.Decides.{nat_tests}
use Rattle.std.specs.Char.{digit_value, is_ascii_hexdigit}
use Rattle.std.specs.Cmp.Lexicographic.{pointwise}
use Rattle.std.specs.List.{list_all}
use Rattle.words.specs.Numbers.{Value, digit_of, pushed_rule, digits_from, digits_rule, number_rule}
use Rattle.words.specs.Numbers.{are_digits, pair_rule}
use Rattle.words.specs.declared.numbers.NumberError.TheVariants.{NotANumber}

module _ (b : ℕ) where
  pub digit_small : digit_value b < 16 → digit_of b ≡ digit_value b
  unfolding digit_of
  digit_small small = grind (arith, nat_tests)

  pub digit_large : 16 ≤ digit_value b → digit_of b ≡ 16
  unfolding digit_of
  digit_large large = grind (arith, nat_tests)

-- the loop over the digits of a word: what is left gives what the whole word does
module _ (base : ℕ) (word : List ℕ) where
  pub digits_none : length word ≡ 0 → Err NotANumber ≡ digits_rule base word
  unfolding digits_rule
  digits_none none = go word none
    where
      go : (w : List ℕ) → length w ≡ 0 → Err NotANumber ≡ digits_rule base w
      go [] e = refl
      go (b ∷ bs) e = absurd (omega arith)

  pub digits_begin : (length word ≡ 0 → ⊥) → digits_rule base word ≡ digits_from base (Ok 0) (drop 0 word)
  unfolding digits_rule
  digits_begin some = go word some
    where
      go : (w : List ℕ) → (length w ≡ 0 → ⊥) → digits_rule base w ≡ digits_from base (Ok 0) (drop 0 w)
      go [] e = absurd (e refl)
      go (b ∷ bs) e = refl

  module _ (i : ℕ) (so_far : Value) (left : digits_rule base word ≡ digits_from base so_far (drop i word)) where
    pub digits_end : length word ≤ i → so_far ≡ digits_rule base word
    unfolding digits_from
    digits_end all = sym (rw (drop_of_length-le word all) at left)

    module _ (more : i < length word) (few : base ≤ 16) where
      pub digits_not : base ≤ digit_value (get_or word i 0) → Err NotANumber ≡ digits_rule base word
      unfolding digits_from
      digits_not past =
          let not : base ≤ digit_of (get_or word i 0) = grind (arith, digit_small, digit_large) in
          sym (left ∙ rw (drop-cons word i 0 more) (simp (le-leb _ _ not)))

      pub digits_more :
          {d : ℕ} → d ≡ digit_value (get_or word i 0) → d < base → {v : Value} → v ≡ pushed_rule so_far base d
          → digits_rule base word ≡ digits_from base v (drop (i + 1) word)
      unfolding digits_from
      digits_more is fits pushed =
          let same : digit_of (get_or word i 0) ≡ digit_value (get_or word i 0) = digit_small _ (omega arith) in
          left ∙ rw (drop-cons word i 0 more, add-one) (simp (same, ← is, lt-leb _ _ fits, pushed))

-- the two bases
module _ {r : Value} where
  pub number_decimal :
      (word : List ℕ) → pointwise nat_eq (take 2 word) (48 ∷ 120 ∷ []) ≡ false → r ≡ digits_rule 10 word
      → r ≡ number_rule word
  unfolding number_rule
  number_decimal [] not said = said
  number_decimal (a ∷ []) not said = grind (arith, nat_tests)
  number_decimal (a ∷ b ∷ bs) not said = grind (arith, nat_tests)

  pub number_hex :
      (word : List ℕ) → pointwise nat_eq (take 2 word) (48 ∷ 120 ∷ []) ≡ true → r ≡ digits_rule 16 (drop 2 word)
      → r ≡ number_rule word
  unfolding number_rule
  number_hex [] is said = cc
  number_hex (a ∷ []) is said = grind (arith, nat_tests)
  number_hex (a ∷ b ∷ bs) is said = grind (arith, nat_tests)

-- a word of hexadecimal digits
hexdigit : (b : ℕ) → is_ascii_hexdigit b ≡ ltb (digit_of b) 16
unfolding digit_of
hexdigit b = grind (arith, nat_tests)

pub are_digits_is : (word : List ℕ) → list_all is_ascii_hexdigit word ≡ are_digits word
unfolding are_digits
are_digits_is [] = refl
are_digits_is (b ∷ bs) = simp (hexdigit, are_digits_is bs)

-- a pair of hexadecimal digits
module _ (word : List ℕ) (k : ℕ) where
  pub pair_none : length word / 2 ≤ k → 0 ≡ pair_rule word k
  unfolding pair_rule
  pair_none past = simp (le-ltb _ _ past)

  pub pair_there :
      k < length word / 2
      → {high low : ℕ} → high ≡ digit_of (get_or word (2 * k) 0) % 16 → low ≡ digit_of (get_or word (2 * k + 1) 0) % 16
      → high * 16 + low ≡ pair_rule word k
  unfolding pair_rule
  pair_there there high low = simp (lt-ltb _ _ there, high, low)
