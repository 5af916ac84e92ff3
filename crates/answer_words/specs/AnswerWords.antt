-- An answer as words, and back: how a book keeps it (RULES, "What an answer holds").
--     words_of              the words of an outcome and a list: start here
--     outcome_of, list_of   the outcome and the list that words stand for
--     stands                whether words stand for an answer
--     outcome_put           words with an outcome put before the list that they hold
--     aborted, own_event    an abort by its event, and whether an outcome's event is one of its case
-- Ours: all of it; a kind that is none reads as a quiet abort, and does not stand.
-- Assumes: nothing.
use Rattle.std.specs.Prelude.{ℕ, zero, suc, ◌+◌, Bool, true, not, ◌&&◌, List, [], ◌∷◌, ◌++◌, eqb, leb, get_or, set, if◌then◌else◌}
use Rattle.placed.specs.From.{from}
use Rattle.memory_image.specs.declared.Piece.{Piece}
use Rattle.answers.specs.Layout.{values_most, pieces_most, kind_at, values_at, count_at, pieces_at}
use Rattle.answers.specs.Outcome.{fetch_event}
use Rattle.answers.specs.Values.{kind_of, kinds_most, values_of}
use Rattle.answers.specs.Pieces.{piece_words}
use Rattle.answers.specs.Proper.{proper_outcome, proper_pieces}
use Rattle.answers.specs.declared.Outcome.{Outcome}
use Rattle.answers.specs.declared.Outcome.TheVariants.{Translate, Bypass, BypassGlobal, Abort, Fault, Quiet, Unserved}
use Rattle.answers.specs.declared.Translation.{Translation}
use Rattle.answers.specs.declared.Pieces.{Pieces}

-- zeros follow the values
unfoldable pub laid_out : ℕ → List ℕ → Pieces → List ℕ
laid_out kind values l = kind ∷ (from values values_most 0 ++ (l.count ∷ piece_words l.piece pieces_most 0))

unfoldable pub words_of : Outcome → Pieces → List ℕ
words_of outcome l = laid_out (kind_of outcome) (values_of outcome) l

-- the value at a place
abbrev pub value_in : List ℕ → ℕ → ℕ
value_in words i = get_or words (values_at + i) 0

abbrev pub translation_in : List ℕ → Translation
translation_in words =
    record {
      ste = value_in words 0;
      cd = value_in words 1;
      asid = value_in words 2;
      t0sz = value_in words 3;
      tg0 = value_in words 4;
      epd0 = value_in words 5;
      ips = value_in words 6;
      ttb0 = value_in words 7;
    }

-- an abort by its event: one of a failed fetch has the address beside it
unfoldable pub aborted : ℕ → ℕ → Outcome
aborted event address =
    if fetch_event event then Fault event address
    else Abort event

-- a fault's event is a failed fetch's, and no other abort's is
unfoldable pub own_event : Outcome → Bool
own_event (Translate t) = true
own_event (Bypass ste) = true
own_event BypassGlobal = true
own_event (Abort event) = not (fetch_event event)
own_event (Fault event address) = fetch_event event
own_event Quiet = true
own_event (Unserved n) = true

-- kind 5 and whatever is no kind are quiet
unfoldable pub outcome_of : List ℕ → Outcome
outcome_of words =
    if eqb (get_or words kind_at 0) 1 then Translate (translation_in words)
    else if eqb (get_or words kind_at 0) 2 then Bypass (value_in words 0)
    else if eqb (get_or words kind_at 0) 3 then BypassGlobal
    else if eqb (get_or words kind_at 0) 4 then aborted (value_in words 0) (value_in words 1)
    else if eqb (get_or words kind_at 0) 6 then Unserved (value_in words 0)
    else Quiet

-- so many pieces from a place of the words on
abbrev pub pieces_in : List ℕ → ℕ → ℕ → List Piece
pieces_in words zero i = []
pieces_in words (suc m) i = record { address = get_or words i 0; length = get_or words (i + 1) 0 } ∷ pieces_in words m (i + 2)

unfoldable pub list_of : List ℕ → Pieces
list_of words = record { count = get_or words count_at 0; piece = pieces_in words pieces_most pieces_at }

-- the kind is one, and the outcome and the list are such as a lookup gives
unfoldable pub stands : List ℕ → Bool
stands words =
    leb 1 (get_or words kind_at 0)
    && (leb (get_or words kind_at 0) kinds_most && (proper_outcome (outcome_of words) && proper_pieces (list_of words)))

-- words with values put from a place on
abbrev pub put_from : List ℕ → List ℕ → ℕ → List ℕ
put_from ws [] i = ws
put_from ws (v ∷ vs) i = put_from (set ws i v) vs (i + 1)

-- words with an outcome put before the list that they hold
unfoldable pub outcome_put : List ℕ → Outcome → List ℕ
outcome_put ws outcome = put_from ws (kind_of outcome ∷ values_of outcome) kind_at
