-- An answer's words, and what words stand for.
--     words_length                       how many there are
--     outcome_back, list_back            an outcome with its own event and a list are read back: nothing is lost
--     proper_own                         a proper outcome has its own event
--     outcome_again                      an outcome that was read is read again
--     stands_proper                      the words of a proper answer stand
--     outcome_proper, stands_count       of words that stand: the outcome is proper, there are at most as many pieces as a list has
--     put_words                          an outcome put before a list: the words of both
-- Assumes: nothing.
use Prim.Native.Nat.{ℕ, ◌+◌, ◌≤◌}
use native.Mathlib.Nat.{add-zero}
use native.Mathlib.Omega.{arith}
use mathlib.Core.Path.{◌≡◌, refl, sym, ap}
use mathlib.Core.Bool.{Bool, true, false}
use mathlib.Core.List.{List, [], ◌∷◌, ◌++◌, append_assoc}
use borrow.Author.Tests.{le-leb, not-true}
use lib.Dec.{eqb, leb}
use lib.ListN.{length, get_or, length-append}
use lib.Seq.{get_or-append-add}
use Rattle.number_laws.proofs.Tests.{both}
use Rattle.placed.specs.From.{values_from}
use Rattle.std.specs.Prelude.{if◌then◌else◌}
use Rattle.bit_fields.proofs.ChoiceLaws.{either}
use Rattle.memory_image.specs.declared.Piece.{Piece}
use Rattle.answers.specs.Layout.{values_most, pieces_most, answer_words, kind_at, values_at}
use Rattle.answers.specs.Outcome.{fetch_event}
use Rattle.answers.specs.Values.{kind_of, kinds_most, values_of}
use Rattle.answers.specs.Pieces.{only_list}
use Rattle.answers.specs.Proper.{proper_outcome, proper_pieces}
use Rattle.answers.specs.declared.Outcome.{Outcome}
use Rattle.answers.specs.declared.Outcome.TheVariants.{Translate, Bypass, BypassGlobal, Abort, Fault, Quiet, Unserved}
use Rattle.answers.specs.declared.Pieces.{Pieces}
use Rattle.answers.proofs.PiecesLaws.{piece_numbers, words_numbers}
use Rattle.answers.proofs.ProperLaws.{listed_no_fetch, few_proper}
use Rattle.answer_words.specs.AnswerWords.{laid_out, words_of, aborted, own_event, outcome_of, pieces_in, list_of, stands, outcome_put}

pub words_length : (o : Outcome) (l : Pieces) → length (words_of o l) ≡ answer_words
unfolding words_of laid_out values_from
words_length o l = refl

-- an outcome is read back from its words
Back : Pieces → Outcome → Type 0
Back l o = outcome_of (words_of o l) ≡ o

abort_back : (l : Pieces) (event : ℕ) → fetch_event event ≡ false → Back l (Abort event)
unfolding Back words_of laid_out outcome_of aborted values_from
abort_back l event other = rw other refl

fault_back : (l : Pieces) (event address : ℕ) → fetch_event event ≡ true → Back l (Fault event address)
unfolding Back words_of laid_out outcome_of aborted values_from
fault_back l event address fetch = rw fetch refl

pub outcome_back : (o : Outcome) (l : Pieces) → own_event o ≡ true → outcome_of (words_of o l) ≡ o
unfolding Back words_of laid_out outcome_of values_from own_event
outcome_back (Translate t) l own = refl
outcome_back (Bypass ste) l own = refl
outcome_back BypassGlobal l own = refl
outcome_back (Abort event) l own = abort_back l event (not-true (fetch_event event) own)
outcome_back (Fault event address) l own = fault_back l event address own
outcome_back Quiet l own = refl
outcome_back (Unserved n) l own = refl

pub proper_own : (o : Outcome) → proper_outcome o ≡ true → own_event o ≡ true
unfolding proper_outcome own_event
proper_own (Translate t) proper = refl
proper_own (Bypass ste) proper = refl
proper_own BypassGlobal proper = refl
proper_own (Abort event) proper = rw (listed_no_fetch event proper) refl
proper_own (Fault event address) proper = proper
proper_own Quiet proper = refl
proper_own (Unserved n) proper = refl

-- the pieces that stand behind a front
behind : (front : List ℕ) (ps : List Piece) → pieces_in (front ++ piece_numbers ps) (length ps) (length front) ≡ ps
behind front [] = refl
behind front (p ∷ ps) =
    let here : get_or (front ++ (p.address ∷ (p.length ∷ piece_numbers ps))) (length front) 0 ≡ p.address
    = rw add-zero at (get_or-append-add front (p.address ∷ (p.length ∷ piece_numbers ps)) 0 0) in
    let next : get_or (front ++ (p.address ∷ (p.length ∷ piece_numbers ps))) (length front + 1) 0 ≡ p.length
    = get_or-append-add front (p.address ∷ (p.length ∷ piece_numbers ps)) 1 0 in
    let longer : front ++ (p.address ∷ (p.length ∷ piece_numbers ps)) ≡ (front ++ (p.address ∷ (p.length ∷ []))) ++ piece_numbers ps
    = sym (append_assoc front (p.address ∷ (p.length ∷ [])) (piece_numbers ps)) in
    let on : length front + 2 ≡ length (front ++ (p.address ∷ (p.length ∷ []))) = sym (length-append front (p.address ∷ (p.length ∷ []))) in
    let rest = behind (front ++ (p.address ∷ (p.length ∷ []))) ps in
    let after : pieces_in (front ++ (p.address ∷ (p.length ∷ piece_numbers ps))) (length ps) (length front + 2) ≡ ps = cc in
    rw (here, next) (ap (λ (rest : List Piece). p ∷ rest) after)

pub list_back : (o : Outcome) (l : Pieces) → length l.piece ≡ pieces_most → list_of (words_of o l) ≡ l
unfolding words_of laid_out list_of values_from
list_back o l is =
    ap (λ (ps : List Piece). record { count = l.count; piece = ps })
    (rw (words_numbers l.piece is) (rw is at (behind (front o l) l.piece)))
  where
    front : Outcome → Pieces → List ℕ
    front o l = kind_of o ∷ (values_from (λ j. get_or (values_of o) j 0) values_most 0 ++ (l.count ∷ []))

kind_least : (o : Outcome) → 1 ≤ kind_of o
kind_least (Translate t) = omega arith
kind_least (Bypass ste) = omega arith
kind_least BypassGlobal = omega arith
kind_least (Abort event) = omega arith
kind_least (Fault event address) = omega arith
kind_least Quiet = omega arith
kind_least (Unserved n) = omega arith

kind_most : (o : Outcome) → kind_of o ≤ kinds_most
kind_most (Translate t) = omega arith
kind_most (Bypass ste) = omega arith
kind_most BypassGlobal = omega arith
kind_most (Abort event) = omega arith
kind_most (Fault event address) = omega arith
kind_most Quiet = omega arith
kind_most (Unserved n) = omega arith

kind_back : (o : Outcome) (l : Pieces) → get_or (words_of o l) kind_at 0 ≡ kind_of o
unfolding words_of laid_out
kind_back o l = refl

pub stands_proper :
    (o : Outcome) (l : Pieces) → length l.piece ≡ pieces_most → proper_outcome o ≡ true → proper_pieces l ≡ true → stands (words_of o l) ≡ true
unfolding stands
stands_proper o l is outcome list =
    simp (
      kind_back o l,
      le-leb _ _ (kind_least o),
      le-leb _ _ (kind_most o),
      outcome_back o l (proper_own o outcome),
      outcome,
      list_back o l is,
      list,
    )

-- an outcome that was read is one of those that are read back
module _ (ws : List ℕ) (l : Pieces) where
  aborted_back : (event address : ℕ) → Back l (aborted event address)
  unfolding aborted
  aborted_back event address = go (fetch_event event) refl
    where
      go : (b : Bool) → fetch_event event ≡ b → Back l (if b then Fault event address else Abort event)
      go true is = fault_back l event address is
      go false is = abort_back l event is

  pub outcome_again : outcome_of (words_of (outcome_of ws) l) ≡ outcome_of ws
  unfolding Back words_of laid_out outcome_of values_from
  outcome_again =
      either (Back l) (eqb (get_or ws kind_at 0) 1) refl
      (either (Back l) (eqb (get_or ws kind_at 0) 2) refl
      (either (Back l) (eqb (get_or ws kind_at 0) 3) refl
      (either (Back l) (eqb (get_or ws kind_at 0) 4) (aborted_back (get_or ws values_at 0) (get_or ws (values_at + 1) 0))
      (either (Back l) (eqb (get_or ws kind_at 0) 6) refl refl))))

-- words that stand
module _ (ws : List ℕ) (stand : stands ws ≡ true) where
  parts : (proper_outcome (outcome_of ws) ≡ true) × (proper_pieces (list_of ws) ≡ true)
  unfolding stands
  parts =
      let after_least = both (leb 1 (get_or ws kind_at 0)) _ stand in
      let after_most = both (leb (get_or ws kind_at 0) kinds_most) _ after_least.1 in
      both (proper_outcome (outcome_of ws)) (proper_pieces (list_of ws)) after_most.1

  pub outcome_proper : proper_outcome (outcome_of ws) ≡ true
  outcome_proper = parts.0

  pub stands_count : (list_of ws).count ≤ pieces_most
  stands_count = few_proper (list_of ws) parts.1

-- an outcome put before a list
pub put_words : (l : Pieces) (o : Outcome) → outcome_put (only_list l) o ≡ words_of o l
unfolding outcome_put only_list words_of laid_out values_from
put_words l (Translate t) = refl
put_words l (Bypass ste) = refl
put_words l BypassGlobal = refl
put_words l (Abort event) = refl
put_words l (Fault event address) = refl
put_words l Quiet = refl
put_words l (Unserved n) = refl
