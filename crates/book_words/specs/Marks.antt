-- The marks of the search for equal keys (refusal 7). What is asked of a book does not speak of them: they say which search can be left out.
--     marks        how many places there are: sixteen for each slot
--     mark_of      a key's place
--     Marked       each slot below i has its key's place marked
-- Ours: all of it. Any place below `marks` would do: no law in proofs/MarksLaws.antt asks which.
-- Assumes: nothing.
use Rattle.std.specs.Prelude.{ℕ, ◌+◌, ◌*◌, ◌/◌, ◌%◌, ◌^◌, ◌<◌, ◌≡◌, List, get_or, length}
use Rattle.ids.specs.Packing.{part_bits}
use Rattle.book_words.specs.Layout.{slots_most, key_at}

abbrev pub marks : ℕ
marks = 16 * slots_most

-- 37 for each stream, and the part below it
abbrev pub mark_of : ℕ → ℕ
mark_of key = (key / 2 ^ part_bits * 37 + key % 2 ^ part_bits) % marks

pub record MarkedBy (mark_of : ℕ → ℕ) (ws : List ℕ) (i : ℕ) (seen : List ℕ) : Type 0 where
  pub room : length seen ≡ marks
  pub marked : (j : ℕ) → j < i → get_or seen (mark_of (key_at ws j)) 0 ≡ 1

abbrev pub Marked : List ℕ → ℕ → List ℕ → Type 0
Marked = MarkedBy mark_of
