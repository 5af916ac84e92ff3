-- The list in an answer's words, as it is read and copied.
--     Taken, taken_none, taken_more, taken_all     the pieces into an array: none so far, one more, all
--     list_of_ways                                 what the check of `list_of` cites
--     zeros_none                                   zeros hold no list
--     list_length                                  a list's array has room for the most
--     Copied, copied_none, copied_more, copied_put  the list's words into others: none so far, one more, all and the outcome before them
-- Assumes: nothing.
use Prim.Native.Nat.{ℕ, zero, suc, ◌+◌, ◌-◌, ◌*◌, ◌≤◌, ◌<◌}
use native.Mathlib.Nat.{zero-add}
use native.Mathlib.Omega.{arith}
use mathlib.Core.Path.{◌≡◌, refl, sym, ap, ◌∙◌}
use mathlib.Core.Bool.{Bool, true, false}
use mathlib.Core.List.{List, [], ◌∷◌, ◌++◌, append-nil}
use borrow.Author.Tests.{eqb-true, eqb-false}
use lib.Dec.{eqb}
use lib.ListN.{length, get_or, set, replicate, length-set, length-replicate}
use lib.Seq.{get_or-set_same, get_or-set_other, ext_get_or}
use Rattle.placed.specs.From.{values_from}
use Rattle.placed.specs.Placed.{placed, Left}
use Rattle.placed.proofs.FromLaws.{values_length, values_at_lem}
use Rattle.placed.proofs.LeftLaws.{left_all, left_placed}
use Rattle.placed.proofs.FilledLaws.{value_put, values_put}
use Rattle.memory_image.specs.declared.Piece.{Piece}
use Rattle.answers.specs.Layout.{pieces_most, answer_words, list_words, count_at, pieces_at}
use Rattle.answers.specs.Pieces.{nothing, none, only_list}
use Rattle.answers.specs.declared.Outcome.{Outcome}
use Rattle.answers.proofs.PiecesLaws.{piece_numbers, words_numbers}
use Rattle.answer_words.specs.AnswerWords.{pieces_in, list_of, outcome_of, outcome_put, words_of}
use Rattle.answer_words.proofs.AnswerWordsLaws.{put_words}

module _ (ws : List ℕ) where
  -- the piece with a number, from a place on
  abbrev piece_at : ℕ → ℕ → Piece
  piece_at i k = record { address = get_or ws (i + 2 * k) 0; length = get_or ws (i + 2 * k + 1) 0 }

  in_values : (i m j : ℕ) → pieces_in ws m (i + 2 * j) ≡ values_from (piece_at i) m j
  unfolding values_from
  in_values i zero j = refl
  in_values i (suc m) j =
      let on : i + 2 * j + 2 ≡ i + 2 * (j + 1) = omega arith in
      rw on (ap (λ (rest : List Piece). piece_at i j ∷ rest) (in_values i m (j + 1)))

  -- the first i pieces were read
  pub record Taken (piece : List Piece) (i : ℕ) : Type 0 where
    pub few : i ≤ pieces_most
    pub room : length piece ≡ pieces_most
    pub each : (k : ℕ) → k < i → get_or piece k nothing ≡ piece_at pieces_at k

  pub taken_none : Taken (replicate pieces_most nothing) 0
  taken_none = record { few = omega arith; room = length-replicate pieces_most nothing; each = λ k less. absurd (omega arith) }

  module _ {piece : List Piece} {i : ℕ} (so_far : Taken piece i) where
    pub taken_more :
        i < pieces_most → {address size : ℕ} → address ≡ get_or ws (pieces_at + 2 * i) 0 → size ≡ get_or ws (pieces_at + 2 * i + 1) 0
        → Taken (set piece i (record { address = address; length = size })) (i + 1)
    taken_more more {address} {size} is_address is_size =
        record {
          few = omega arith;
          room = length-set piece i (record { address = address; length = size }) ∙ so_far.room;
          each = λ k less. go k less (eqb k i) refl;
        }
      where
        go :
            (k : ℕ) → k < i + 1 → (b : Bool) → eqb k i ≡ b
            → get_or (set piece i (record { address = address; length = size })) k nothing ≡ piece_at pieces_at k
        go k less true same =
            let here : k ≡ i = eqb-true k i same in
            rw here
            (get_or-set_same piece i (record { address = address; length = size }) nothing (omega (arith, so_far.room))
            ∙ rw (is_address, is_size))
        go k less false differ =
            let other = eqb-false k i differ in
            get_or-set_other piece i k (record { address = address; length = size }) nothing other ∙ so_far.each k (omega (arith, other))

    pub taken_all : pieces_most ≤ i → {count : ℕ} → count ≡ get_or ws count_at 0 → record { count = count; piece = piece } ≡ list_of ws
    unfolding list_of
    taken_all past is_count =
        let whole : piece ≡ pieces_in ws pieces_most pieces_at
        = ext_get_or nothing piece (values_from (piece_at pieces_at) pieces_most 0)
        (so_far.room ∙ sym (values_length (piece_at pieces_at) pieces_most 0))
        (λ k less. so_far.each k (omega (arith, so_far.room))
        ∙ sym (rw zero-add at (values_at_lem (piece_at pieces_at) pieces_most 0 k nothing (omega (arith, so_far.room)))))
        ∙ sym (in_values pieces_at pieces_most 0) in
        rw (whole, is_count)

module _ (ws : List ℕ) where
  abbrev list_word : ℕ → ℕ
  list_word j = get_or ws (count_at + j) 0

  -- the first j words of the list were put into zeros
  pub record Copied (now : List ℕ) (j : ℕ) : Type 0 where
    pub few : j ≤ list_words
    pub left :
        Left (replicate answer_words 0) count_at (values_from list_word list_words 0 ++ []) now (count_at + j) (values_from list_word (list_words - j) j ++ [])

  pub copied_none : Copied (replicate answer_words 0) 0
  copied_none =
      record {
        few = omega arith;
        left =
            left_all (replicate answer_words 0) count_at (values_from list_word list_words 0 ++ [])
            (rw append-nil (omega (arith, values_length list_word list_words 0, length-replicate {A = ℕ} answer_words 0)));
      }

  numbers_values : (m j : ℕ) → piece_numbers (pieces_in ws m (count_at + j)) ≡ values_from list_word (2 * m) j
  unfolding values_from
  numbers_values zero j = refl
  numbers_values (suc m) j =
      let twice : 2 * suc m ≡ suc (suc (2 * m)) = omega arith in
      let next : count_at + j + 1 ≡ count_at + (j + 1) = omega arith in
      let after : count_at + j + 2 ≡ count_at + (j + 1 + 1) = omega arith in
      rw (twice, next, after) (ap (λ (rest : List ℕ). list_word j ∷ (list_word (j + 1) ∷ rest)) (numbers_values m (j + 1 + 1)))

  in_length : (m i : ℕ) → length (pieces_in ws m i) ≡ m
  in_length zero i = refl
  in_length (suc m) i = ap suc (in_length m (i + 2))

  pub list_length : length (list_of ws).piece ≡ pieces_most
  unfolding list_of
  list_length = in_length pieces_most pieces_at

  module _ {now : List ℕ} {j : ℕ} (so_far : Copied now j) where
    pub copied_more : j < list_words → {x : ℕ} → x ≡ list_word j → Copied (set now (count_at + j) x) (j + 1)
    copied_more more is = record { few = omega arith; left = value_put list_word list_words j [] so_far.left more is (omega arith) }

    copied_all : list_words ≤ j → now ≡ only_list (list_of ws)
    unfolding only_list list_of values_from placed
    copied_all past =
        left_placed (values_put list_word list_words j [] so_far.left past) refl
        ∙ rw (words_numbers (pieces_in ws pieces_most pieces_at) (in_length pieces_most pieces_at), numbers_values pieces_most 1)

    pub copied_put :
        list_words ≤ j → {outcome : Outcome} → outcome ≡ outcome_of ws → {after : List ℕ} → after ≡ outcome_put now outcome
        → after ≡ words_of (outcome_of ws) (list_of ws)
    copied_put past is put = put ∙ rw (is, copied_all past) (put_words (list_of ws) (outcome_of ws))

-- zeros hold no list
pub zeros_none : list_of (replicate answer_words 0) ≡ none
unfolding list_of none
zeros_none = refl

pub ruleset list_of_ways = (taken_none, taken_more, taken_all)
