-- The definitions of specs/ at texts that are read at a glance. Nothing cites these.
-- Assumes: nothing.
use Prim.Native.Nat.{ℕ}
use Prim.Native.Char.{code}
use Prim.Native.String.{String, [] as empty, ◌∷◌ as ◌before◌}
use mathlib.Core.Path.{◌≡◌, refl}
use mathlib.Core.Bool.{Bool, true, false}
use mathlib.Core.List.{List, [], ◌∷◌}
use Rattle.words.specs.Words.{is_blank, words_from, words_of, without_return}
use Rattle.words.specs.Numbers.{Value, digit_of, pushed_rule, digits_from, digits_rule, number_rule}
use Rattle.words.specs.Numbers.{are_digits, is_pairs, pair_rule}
use Rattle.words.specs.declared.numbers.NumberError.TheVariants.{TooLarge, NotANumber}
use Rattle.std.specs.Prelude.{Ok, Err}

abbrev bytes : String → List ℕ
bytes empty = []
bytes (c before s) = code c ∷ bytes s

parted : words_of (bytes " fill\t0x10  2 \t0aB\r") ≡ bytes "fill" ∷ bytes "0x10" ∷ bytes "2" ∷ bytes "0aB\r" ∷ []
unfolding words_from is_blank
parted = refl

one_return : without_return (bytes "a\r\r") ≡ bytes "a\r"
unfolding without_return
one_return = refl

abbrev numbers : List Value
numbers =
    number_rule (bytes "0x0fF")
    ∷ number_rule (bytes "0010")
    ∷ number_rule (bytes "18446744073709551615")
    ∷ number_rule (bytes "18446744073709551616")
    ∷ number_rule (bytes "0x10000000000000000")
    ∷ number_rule (bytes "99999999999999999999z")
    ∷ number_rule (bytes "1a")
    ∷ number_rule (bytes "0X1")
    ∷ number_rule (bytes "0x")
    ∷ number_rule []
    ∷ []

read :
    numbers
    ≡ Ok 255 ∷ Ok 10 ∷ Ok 18446744073709551615 ∷ Err TooLarge ∷ Err TooLarge
    ∷ Err NotANumber ∷ Err NotANumber ∷ Err NotANumber ∷ Err NotANumber ∷ Err NotANumber ∷ []
unfolding number_rule digits_rule digits_from pushed_rule digit_of
read = refl

abbrev pairs : List Bool
pairs =
    is_pairs (bytes "0aB1") ∷ is_pairs (bytes "0aB") ∷ is_pairs (bytes "0g") ∷ is_pairs (bytes "0x")
    ∷ is_pairs [] ∷ []

paired : pairs ≡ true ∷ false ∷ false ∷ false ∷ false ∷ []
unfolding is_pairs are_digits digit_of
paired = refl

second_pair : pair_rule (bytes "0aB1") 1 ≡ 0xb1
unfolding pair_rule digit_of
second_pair = refl
