-- Numbers and bytes as a script writes them (SCRIPT, "Lines").
--     number_rule           what a word is as a number
--     is_pairs, pair_rule   whether a word is pairs of hexadecimal digits; the byte that a pair says
-- Assumes: nothing.
use Rattle.std.specs.Prelude.{ℕ, ◌+◌, ◌-◌, ◌*◌, ◌/◌, ◌%◌, ◌^◌, Bool, true, ◌&&◌, List, [], ◌∷◌, Result, Ok, Err, eqb, leb, ltb, length, drop, get_or, if◌then◌else◌}
use Rattle.words.specs.declared.numbers.NumberError.{NumberError}
use Rattle.words.specs.declared.numbers.NumberError.TheVariants.{TooLarge, NotANumber}

-- what a word is as a number
abbrev pub Value : Type 0
Value = Result ℕ NumberError

-- the value of a hexadecimal digit of either case; 16 for any other byte
unfoldable pub digit_of : ℕ → ℕ
digit_of b =
    if leb 48 b && leb b 57 then b - 48  -- 0 to 9
    else if leb 97 b && leb b 102 then b - 97 + 10  -- a to f
    else if leb 65 b && leb b 70 then b - 65 + 10  -- A to F
    else 16

-- a number with one digit more
unfoldable pub pushed_rule : Value → ℕ → ℕ → Value
pushed_rule (Ok n) base d = if ltb (n * base + d) (2 ^ 64) then Ok (n * base + d) else Err TooLarge
pushed_rule (Err why) base d = Err why

-- a number with the digits of the rest of a word
unfoldable pub digits_from : ℕ → Value → List ℕ → Value
digits_from base so_far [] = so_far
digits_from base so_far (b ∷ bs) =
    if leb base (digit_of b) then Err NotANumber
    else digits_from base (pushed_rule so_far base (digit_of b)) bs

-- one digit at least
unfoldable pub digits_rule : ℕ → List ℕ → Value
digits_rule base [] = Err NotANumber
digits_rule base (b ∷ bs) = digits_from base (Ok 0) (b ∷ bs)

-- decimal, or after `0x` hexadecimal
unfoldable pub number_rule : List ℕ → Value
number_rule word =
    if eqb (get_or word 0 0) 48 && eqb (get_or word 1 0) 120 then digits_rule 16 (drop 2 word)
    else digits_rule 10 word

unfoldable pub are_digits : List ℕ → Bool
are_digits [] = true
are_digits (b ∷ bs) = ltb (digit_of b) 16 && are_digits bs

unfoldable pub is_pairs : List ℕ → Bool
is_pairs word = ltb 0 (length word) && (eqb (length word % 2) 0 && are_digits word)

-- the byte of the pair with that number, counted from 0; a byte that is no digit counts as 0
unfoldable pub pair_rule : List ℕ → ℕ → ℕ
pair_rule word k =
    if ltb k (length word / 2)
    then digit_of (get_or word (2 * k) 0) % 16 * 16 + digit_of (get_or word (2 * k + 1) 0) % 16
    else 0
