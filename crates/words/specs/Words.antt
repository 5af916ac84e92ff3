-- The words of a line (SCRIPT, "Lines").
--     words_of          the words, in order: start here
--     without_return    a line without the one carriage return that it may end with
-- Assumes: nothing.
use Rattle.std.specs.Prelude.{ℕ, ◌-◌, Bool, ◌||◌, List, [], ◌∷◌, ◌++◌, eqb, length, take, get_or, if◌then◌else◌}

-- a space or a tab
unfoldable pub is_blank : ℕ → Bool
is_blank b = eqb b 32 || eqb b 9

-- a word that has ended, and the words after it; one of no bytes is none
abbrev pub ended : List ℕ → List (List ℕ) → List (List ℕ)
ended [] after = after
ended (b ∷ bs) after = (b ∷ bs) ∷ after

-- the words of what is left of a line, where a word has begun with these bytes
unfoldable pub words_from : List ℕ → List ℕ → List (List ℕ)
words_from begun [] = ended begun []
words_from begun (b ∷ bs) =
    if is_blank b then ended begun (words_from [] bs)
    else words_from (begun ++ (b ∷ [])) bs

abbrev pub words_of : List ℕ → List (List ℕ)
words_of line = words_from [] line

unfoldable pub without_return : List ℕ → List ℕ
without_return line =
    if eqb (get_or line (length line - 1) 0) 13 then take (length line - 1) line
    else line
