-- An answer's words: how many there are, and where each part stands.
--     values_most, pieces_most       as many values as the longest outcome has; as many pieces as a list has
--     list_words, answer_words       the words of a list, and of an answer
--     kind_at .. pieces_at           the kind, the values, the count of the list, its pieces, address and length each
-- Ours: all of it.
-- Assumes: nothing.
use Rattle.std.specs.Prelude.{ℕ, ◌+◌, ◌*◌}

abbrev pub values_most : ℕ
values_most = 8

-- an L1STD, an STE, an L1CD, a CD
abbrev pub pieces_most : ℕ
pieces_most = 4

abbrev pub kind_at : ℕ
kind_at = 0

abbrev pub values_at : ℕ
values_at = kind_at + 1

abbrev pub count_at : ℕ
count_at = values_at + values_most

abbrev pub pieces_at : ℕ
pieces_at = count_at + 1

-- a list's words: its count, and its pieces
abbrev pub list_words : ℕ
list_words = 1 + 2 * pieces_most

abbrev pub answer_words : ℕ
answer_words = count_at + list_words
