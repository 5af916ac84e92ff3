-- Words of eight bytes, little-endian (003: all structures are).
--     bytes     the bytes of a lent memory, by their offset
--     word      the word of eight bytes from an offset on
--     word_in   the same in a lent memory, and 0 where it does not lie wholly in it
--     word_of   a word of a descriptor, by the descriptor's place in the memory
-- Assumes: nothing.
use Rattle.std.specs.Prelude.{ℕ, ◌+◌, ◌*◌, ◌^◌, List, leb, ltb, get_or, length, if◌then◌else◌}

abbrev pub bytes : List ℕ → ℕ → ℕ
bytes memory offset = get_or memory offset 0

-- eight bytes as one number, the lowest first
abbrev pub joined : ℕ → ℕ → ℕ → ℕ → ℕ → ℕ → ℕ → ℕ → ℕ
joined b0 b1 b2 b3 b4 b5 b6 b7 =
    b0 + b1 * 2 ^ 8 + b2 * 2 ^ 16 + b3 * 2 ^ 24 + b4 * 2 ^ 32 + b5 * 2 ^ 40 + b6 * 2 ^ 48 + b7 * 2 ^ 56

unfoldable pub word : (ℕ → ℕ) → ℕ → ℕ
word f i = joined (f i) (f (i + 1)) (f (i + 2)) (f (i + 3)) (f (i + 4)) (f (i + 5)) (f (i + 6)) (f (i + 7))

unfoldable pub word_in : List ℕ → ℕ → ℕ
word_in memory offset =
    if leb (offset + 8) (length memory) then word (bytes memory) offset
    else 0

-- no descriptor has more words
abbrev pub words_most : ℕ
words_most = 8

-- word k of the descriptor at a place; 0 past the most that one has
unfoldable pub word_of : List ℕ → ℕ → ℕ → ℕ
word_of memory place k =
    if ltb k words_most then word_in memory (place + 8 * k)
    else 0
