-- Laws of the words of a line.
--     words_are                the words are the parts between blanks, without those of no bytes
--     nth_or                   the word with a number, or what stands for none
--     return_last, return_no   the carriage return at a line's end
-- Assumes: nothing.
use Prim.Native.Nat.{ℕ, suc, ◌-◌, ◌<◌, ◌≤◌}
use native.Mathlib.Omega.{arith}
use mathlib.Core.Path.{◌≡◌, refl, sym, ap}
use mathlib.Core.Bool.{Bool, true, false}
use mathlib.Core.List.{List, [], ◌∷◌, ◌++◌, append_assoc, append-nil}
use lib.ListN.{length, take, drop, get_or, get_or-eq_default, drop_of_length-le}
use lib.Seq.{drop-cons}
use Rattle.std.proofs.Common.{nat_eq, Bor}
use Rattle.std.proofs.lemmas.Bool.Decides.{nat_tests}
use Rattle.std.proofs.lemmas.Option.{unwrap_or-slice_get}
use Rattle.std.specs.Cmp.Lexicographic.{pointwise}
use Rattle.std.specs.List.{slice_split, onto_first, slice_get}
use Rattle.std.specs.Option.{option_map, unwrap_or}
use Rattle.std.specs.Prelude.{not, ◌==◌, filter, Option, Some, None, if◌then◌else◌}
use Rattle.words.specs.Words.{is_blank, words_from, words_of, without_return}

-- a part that is a word
abbrev pub is_word : List ℕ → Bool
is_word part = not (length part == 0)

-- the parts, the first of which has begun with these bytes
abbrev joined : List ℕ → List (List ℕ) → List (List ℕ)
joined [] parts = parts
joined (a ∷ w) [] = (a ∷ w) ∷ []
joined (a ∷ w) (part ∷ parts) = ((a ∷ w) ++ part) ∷ parts

joined_more :
    (w : List ℕ) (b : ℕ) (parts : List (List ℕ)) → joined w (onto_first b parts) ≡ joined (w ++ (b ∷ [])) parts
joined_more [] b [] = refl
joined_more [] b (part ∷ parts) = refl
joined_more (a ∷ w) b [] = refl
joined_more (a ∷ w) b (part ∷ parts) = ap (λ l. (a ∷ l) ∷ parts) (sym (append_assoc w (b ∷ []) part))

some_word : (a : ℕ) (w : List ℕ) → is_word (a ∷ w) ≡ true
some_word a w = grind (arith, nat_tests)

words_joined : (w l : List ℕ) → filter is_word (joined w (slice_split is_blank l)) ≡ words_from w l
unfolding words_from
words_joined [] [] = refl
words_joined (a ∷ w) [] = simp (some_word, append-nil)
words_joined w (b ∷ bs) = go (is_blank b) refl w (words_joined [] bs) (words_joined (w ++ (b ∷ [])) bs)
  where
    go :
        (t : Bool) → is_blank b ≡ t → (w : List ℕ)
        → filter is_word (slice_split is_blank bs) ≡ words_from [] bs
        → filter is_word (joined (w ++ (b ∷ [])) (slice_split is_blank bs)) ≡ words_from (w ++ (b ∷ [])) bs
        → filter is_word (joined w (slice_split is_blank (b ∷ bs))) ≡ words_from w (b ∷ bs)
    go true e [] after more = simp (e, after)
    go true e (a ∷ w) after more = simp (e, some_word, append-nil, after)
    go false e w after more = simp (e, joined_more, more)

pub words_are : (line : List ℕ) → filter is_word (slice_split is_blank line) ≡ words_of line
words_are line = words_joined [] line

-- the word with a number, where one was found or stands for none
pub nth_or :
    (o : Option (Bor (List ℕ))) (none : Bor (List ℕ)) (xs : List (List ℕ)) (k : ℕ)
    → option_map (λ x. x.now) o ≡ slice_get xs k → (unwrap_or o none).now ≡ get_or xs k none.now
nth_or None none xs k is = rw (unwrap_or-slice_get xs k none.now) at (ap (λ p. unwrap_or p none.now) is)
nth_or (Some x) none xs k is = rw (unwrap_or-slice_get xs k none.now) at (ap (λ p. unwrap_or p none.now) is)

module _ (line : List ℕ) where
  -- the last byte, alone, or nothing of an empty line
  last_is : drop (length line - 1) line ≡ (if length line == 0 then [] else get_or line (length line - 1) 0 ∷ [])
  last_is = go (length line == 0) refl
    where
      go :
          (t : Bool) → (length line == 0) ≡ t
          → drop (length line - 1) line ≡ (if t then [] else get_or line (length line - 1) 0 ∷ [])
      go true none = drop_of_length-le line (grind (arith, nat_tests))
      go false some =
          let more : length line - 1 < length line = grind (arith, nat_tests) in
          let end : length line ≤ suc (length line - 1) = omega arith in
          rw (drop-cons line (length line - 1) 0 more, drop_of_length-le line end)

  pub return_last :
      pointwise nat_eq (drop (length line - 1) line) (13 ∷ []) ≡ true
      → take (length line - 1) line ≡ without_return line
  unfolding without_return
  return_last is = let e = rw last_is at is in grind (arith, nat_tests)

  pub return_no : pointwise nat_eq (drop (length line - 1) line) (13 ∷ []) ≡ false → line ≡ without_return line
  unfolding without_return
  return_no is = let e = rw last_is at is in grind (arith, nat_tests, get_or-eq_default)
