-- The list as a count and an array, and in an answer's words: for any most of pieces.
--     push_room                   one piece more in an answer's words, where there is room
--     pieces_none                 no piece
--     pieces_length               the array has room for the most
--     each_pieces, pieces_each    what holds of each piece, of a list and of its count and array
--     piece_numbers, words_numbers the words of an array's pieces
--     only_none, only_more        the words of no piece; and of one more
-- Assumes: nothing.
use Prim.Native.Nat.{ℕ, zero, suc, ◌+◌, ◌*◌, ◌≤◌, ◌<◌}
use native.Mathlib.Nat.{add-zero, zero-add}
use native.Mathlib.Omega.{arith}
use mathlib.Core.Path.{◌≡◌, refl, sym, ap, ◌∙◌}
use mathlib.Core.List.{List, [], ◌∷◌, ◌++◌, append_assoc}
use borrow.Author.Tests.{lt-ltb}
use lib.ListN.{length, get_or, set, replicate, length-append}
use lib.Seq.{get_or-append-add}
use Rattle.memory_image.specs.Rule.{Each}
use Rattle.memory_image.specs.declared.Piece.{Piece}
use Rattle.answers.specs.Layout.{pieces_most, count_at, pieces_at, answer_words}
use Rattle.answers.specs.Pieces.{nothing, none, padded, pieces_of, EachPiece, piece_words, only_list, push_piece}

module _ (ws : List ℕ) {n : ℕ} (is : n ≡ get_or ws count_at 0) (address size : ℕ) where
  pub push_room :
      n < pieces_most
      → set (set (set ws (pieces_at + 2 * n) address) (pieces_at + 2 * n + 1) size) count_at (n + 1)
      ≡ push_piece ws (record { address = address; length = size })
  unfolding push_piece
  push_room room = rw is (simp (lt-ltb (get_or ws count_at 0) pieces_most (rw is at room)))

-- the array
padded_length : (m : ℕ) (l : List Piece) → length (padded m l) ≡ m
padded_length zero l = refl
padded_length (suc m) [] = ap suc (padded_length m [])
padded_length (suc m) (p ∷ l) = ap suc (padded_length m l)

pub pieces_length : (l : List Piece) → length (pieces_of l).piece ≡ pieces_most
unfolding pieces_of
pieces_length l = padded_length pieces_most l

pub pieces_none : none ≡ pieces_of []
unfolding none pieces_of
pieces_none = refl

padded_more : (m : ℕ) (l : List Piece) (p : Piece) → length l < m → set (padded m l) (length l) p ≡ padded m (l ++ (p ∷ []))
padded_more zero l p room = absurd (omega arith)
padded_more (suc m) [] p room = refl
padded_more (suc m) (q ∷ l) p room = ap (λ (x : List Piece). q ∷ x) (padded_more m l p (omega arith))

padded_at :
    (m : ℕ) (l : List Piece) → length l ≤ m → (i : ℕ) → i < length l → get_or (padded m l) i nothing ≡ get_or l i nothing
padded_at zero [] room i few = refl
padded_at zero (p ∷ l) room i few = absurd (omega arith)
padded_at (suc m) [] room i few = absurd (omega arith)
padded_at (suc m) (p ∷ l) room zero few = refl
padded_at (suc m) (p ∷ l) room (suc i) few = padded_at m l (omega arith) i (omega arith)

module _ (P : Piece → Type 0) where
  each_at : (l : List Piece) → Each P l → (i : ℕ) → i < length l → P (get_or l i nothing)
  each_at [] all i few = absurd (omega arith)
  each_at (p ∷ l) all zero few = all.0
  each_at (p ∷ l) all (suc i) few = each_at l all.1 i (omega arith)

  at_each : (l : List Piece) → ((i : ℕ) → i < length l → P (get_or l i nothing)) → Each P l
  at_each [] all = tt
  at_each (p ∷ l) all = (all 0 (omega arith), at_each l (λ i few. all (suc i) (omega arith)))

  module _ (l : List Piece) (room : length l ≤ pieces_most) where
    pub each_pieces : Each P l → EachPiece P (pieces_of l)
    unfolding pieces_of
    each_pieces all i few = rw (padded_at pieces_most l room i few) (each_at l all i few)

    pub pieces_each : EachPiece P (pieces_of l) → Each P l
    unfolding pieces_of
    pieces_each all = at_each l (λ i few. rw (padded_at pieces_most l room i few) at (all i few))

-- the words of an array's pieces
abbrev pub piece_numbers : List Piece → List ℕ
piece_numbers [] = []
piece_numbers (p ∷ ps) = p.address ∷ (p.length ∷ piece_numbers ps)

words_from_lem : (front ps : List Piece) → piece_words (front ++ ps) (length ps) (length front) ≡ piece_numbers ps
words_from_lem front [] = refl
words_from_lem front (p ∷ ps) =
    let here : get_or (front ++ (p ∷ ps)) (length front) nothing ≡ p = rw add-zero at (get_or-append-add front (p ∷ ps) 0 nothing) in
    let longer : front ++ (p ∷ ps) ≡ (front ++ (p ∷ [])) ++ ps = sym (append_assoc front (p ∷ []) ps) in
    let on : length front + 1 ≡ length (front ++ (p ∷ [])) = sym (length-append front (p ∷ [])) in
    let rest = words_from_lem (front ++ (p ∷ [])) ps in
    let after : piece_words (front ++ (p ∷ ps)) (length ps) (length front + 1) ≡ piece_numbers ps = cc in
    rw here (ap (λ (rest : List ℕ). p.address ∷ (p.length ∷ rest)) after)

pub words_numbers : (ps : List Piece) → length ps ≡ pieces_most → piece_words ps pieces_most 0 ≡ piece_numbers ps
words_numbers ps is = rw is at (words_from_lem [] ps)

numbers_set :
    (ps : List Piece) (i : ℕ) (p : Piece) → i < length ps
    → set (set (piece_numbers ps) (2 * i) p.address) (2 * i + 1) p.length ≡ piece_numbers (set ps i p)
numbers_set [] i p few = absurd (omega arith)
numbers_set (q ∷ ps) zero p few = refl
numbers_set (q ∷ ps) (suc i) p few =
    let first : 2 * suc i ≡ suc (suc (2 * i)) = omega arith in
    let second : suc (suc (2 * i)) + 1 ≡ suc (suc (2 * i + 1)) = omega arith in
    rw (first, second) (ap (λ (rest : List ℕ). q.address ∷ (q.length ∷ rest)) (numbers_set ps i p (omega arith)))

-- a store behind a front
set_behind : (front l : List ℕ) (i x : ℕ) → set (front ++ l) (length front + i) x ≡ front ++ set l i x
set_behind [] l i x = rw zero-add
set_behind (y ∷ front) l i x =
    let on : suc (length front) + i ≡ suc (length front + i) = omega arith in
    rw on (ap (λ (rest : List ℕ). y ∷ rest) (set_behind front l i x))

-- the words of a list
abbrev list_front : ℕ → List ℕ
list_front n = replicate count_at 0 ++ (n ∷ [])

only_numbers : (l : List Piece) → only_list (pieces_of l) ≡ list_front (length l) ++ piece_numbers (padded pieces_most l)
unfolding only_list pieces_of
only_numbers l = rw (words_numbers (padded pieces_most l) (padded_length pieces_most l))

pub only_none : replicate answer_words 0 ≡ only_list (pieces_of [])
unfolding only_list pieces_of
only_none = refl

pub only_more :
    (l : List Piece) (p : Piece) → length l < pieces_most → push_piece (only_list (pieces_of l)) p ≡ only_list (pieces_of (l ++ (p ∷ [])))
only_more l p room =
    let first = set_behind (list_front (length l)) (piece_numbers (padded pieces_most l)) (2 * length l) p.address in
    let second = set_behind (list_front (length l)) (set (piece_numbers (padded pieces_most l)) (2 * length l) p.address) (2 * length l + 1) p.length in
    let place : pieces_at + 2 * length l + 1 ≡ pieces_at + (2 * length l + 1) = omega arith in
    rw (only_numbers l)
    (sym (push_room (list_front (length l) ++ piece_numbers (padded pieces_most l)) {n = length l} refl p.address p.length room)
    ∙ rw
    (first, place, second, numbers_set (padded pieces_most l) (length l) p (rw padded_length room), padded_more pieces_most l p room, only_numbers, length-append))
