-- Texts as bytes, and numbers in digits (RULES, "The book": the report).
--     bytes             the bytes of a text of ASCII
--     digits            the last digits of a number, in a base
--     hex_lower, hex_upper, decimal_text, slot_text  those that the report has
--     Spells            what a cell of the code says
-- Assumes: nothing.
use Rattle.std.specs.Prelude.{ℕ, zero, suc, ◌/◌, ◌%◌, ◌≤◌, ◌≡◌, List, [], ◌∷◌, ◌++◌, ltb, get_or, if◌then◌else◌}
use Prim.Native.Char.{code}
use Prim.Native.String.{String, [] as end, ◌∷◌ as ◌before◌}
use Rattle.placed.specs.From.{from}
use Rattle.report_cells.specs.declared.Cell.{Cell}

abbrev pub bytes : String → List ℕ
bytes end = []
bytes (c before text) = code c ∷ bytes text

-- the last digit of a number, among those of the list
abbrev pub digit_at : List ℕ → ℕ → ℕ → ℕ
digit_at letters base n = get_or letters (n % base) 0

-- the last w digits
unfoldable pub digits : List ℕ → ℕ → ℕ → ℕ → List ℕ
digits letters base zero n = []
digits letters base (suc w) n = digits letters base w (n / base) ++ (digit_at letters base n ∷ [])

abbrev pub hex_lower : ℕ → ℕ → List ℕ
hex_lower w n = digits (bytes "0123456789abcdef") 16 w n

abbrev pub hex_upper : ℕ → ℕ → List ℕ
hex_upper w n = digits (bytes "0123456789ABCDEF") 16 w n

-- a number below 100, as unserved numbers are, without leading zeros
unfoldable pub decimal_text : ℕ → List ℕ
decimal_text n =
    if ltb n 10 then digits (bytes "0123456789") 10 1 n
    else digits (bytes "0123456789") 10 2 n

-- a number below 1,000, as slots are
unfoldable pub slot_text : ℕ → List ℕ
slot_text n =
    if ltb n 100 then decimal_text n
    else digits (bytes "0123456789") 10 3 n

-- the most bytes that a cell has
abbrev pub cell_most : ℕ
cell_most = 16

-- the first bytes of a cell, as many as it counts, are the text
pub record Spells (cell : Cell) (text : List ℕ) : Type 0 where
  pub reads : from cell.byte cell.count 0 ≡ text
  pub few : cell.count ≤ cell_most
