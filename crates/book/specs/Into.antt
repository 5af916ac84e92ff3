-- An ask into an answer's words.
--     AsksInto          what is promised: start here
--     AsksBook          the same by a number, as a C caller is told it
--     ask_kept, ask_says, ask_put  what is said of the answer; its number; the words that an answer is put into, as they were where there is none
--     asked_of          the reply and the list that what was said and an answer's words stand for
-- Ours: 100, 101 and 102 for an ask's answer, which are no refusal's number.
-- Assumes: nothing.
use Rattle.answers.specs.declared.refusals.Refusal.{Refusal}
use Rattle.std.specs.Prelude.{ℕ, ◌≡◌, Bool, List, eqb, ltb, length, if◌then◌else◌, Ok, Err, Result}
use Rattle.ids.specs.declared.Request.{Request}
use Rattle.answers.specs.declared.Outcome.{Outcome}
use Rattle.answers.specs.declared.Pieces.{Pieces}
use Rattle.answer_words.specs.AnswerWords.{words_of}
use Rattle.lookup.specs.declared.Looked.{Looked}
use Rattle.book_words.specs.Layout.{kept_at}
use Rattle.book_words.specs.Malformed.{first_from}
use Rattle.book.specs.Book.{ask_result, ask_book, new_lookup, newly, now_holding}
use Rattle.answers.specs.Refusals.{refusal_number}
use Rattle.book.specs.declared.Asked.{Asked}
use Rattle.book.specs.declared.into.Kept.{Kept}
use Rattle.book.specs.declared.into.Kept.TheVariants as kept
use Rattle.book.specs.declared.Reply.{Reply}
use Rattle.book.specs.declared.Reply.TheVariants as reply

abbrev pub kept_before : ℕ
kept_before = 100

abbrev pub newly_kept : ℕ
newly_kept = 101

abbrev pub not_kept : ℕ
not_kept = 102

abbrev pub kept_number : Kept → ℕ
kept_number kept.Before = kept_before
kept_number kept.Newly = newly_kept
kept_number kept.Not = not_kept

-- whether the answer was kept, or the refusal
unfoldable pub ask_kept : Result Reply Refusal → Result Kept Refusal
ask_kept (Err n) = Err n
ask_kept (Ok (reply.KeptBefore outcome)) = Ok kept.Before
ask_kept (Ok (reply.NewlyKept outcome)) = Ok kept.Newly
ask_kept (Ok (reply.NotKept outcome)) = Ok kept.Not

unfoldable pub ask_says : Result Reply Refusal → ℕ
ask_says (Err n) = refusal_number n
ask_says (Ok (reply.KeptBefore outcome)) = kept_before
ask_says (Ok (reply.NewlyKept outcome)) = newly_kept
ask_says (Ok (reply.NotKept outcome)) = not_kept

unfoldable pub ask_put : Result Reply Refusal → Pieces → List ℕ → List ℕ
ask_put (Err n) list before = before
ask_put (Ok (reply.KeptBefore outcome)) list before = words_of outcome list
ask_put (Ok (reply.NewlyKept outcome)) list before = words_of outcome list
ask_put (Ok (reply.NotKept outcome)) list before = words_of outcome list

-- what `ask` answers
abbrev pub asked : List ℕ → ℕ → List ℕ → Request → Asked
asked ws base memory request = ask_result ws base (length memory) request (new_lookup ws base memory request)

pub record AsksInto (ws : List ℕ) (base : ℕ) (memory : List ℕ) (request : Request) (before : List ℕ) (says : Result Kept Refusal)
    (ws' after : List ℕ) : Type 0 where
  pub result : says ≡ ask_kept (asked ws base memory request).reply
  pub words : after ≡ ask_put (asked ws base memory request).reply (asked ws base memory request).list before
  pub book : ws' ≡ ask_book ws base (length memory) request (new_lookup ws base memory request)

pub record AsksBook (ws : List ℕ) (base : ℕ) (memory : List ℕ) (request : Request) (before : List ℕ) (says : ℕ)
    (ws' after : List ℕ) : Type 0 where
  pub result : says ≡ ask_says (asked ws base memory request).reply
  pub words : after ≡ ask_put (asked ws base memory request).reply (asked ws base memory request).list before
  pub book : ws' ≡ ask_book ws base (length memory) request (new_lookup ws base memory request)

-- there is room for a new answer in a book with so many slots
abbrev pub has_room : List ℕ → ℕ → Bool
has_room ws slots = ltb (first_from ws 0 slots 0) slots

-- what is done with a new lookup
pub record KeepsNew (ws : List ℕ) (key slots : ℕ) (new : Looked) (before : List ℕ) (says : Result Kept Refusal) (ws' after : List ℕ) : Type 0 where
  pub result : says ≡ ask_kept (newly (has_room ws slots) new.answer new.list).reply
  pub words :
      after ≡ ask_put (newly (has_room ws slots) new.answer new.list).reply (newly (has_room ws slots) new.answer new.list).list before
  pub book : ws' ≡ now_holding (has_room ws slots) ws (first_from ws 0 slots 0) key new.answer new.list

-- and with an answer's words
pub record KeepsWords (ws : List ℕ) (key slots : ℕ) (answer : List ℕ) (says : Kept) (ws' : List ℕ) : Type 0 where
  pub result : says ≡ (if has_room ws slots then kept.Newly else kept.Not)
  pub book : ws' ≡ (if has_room ws slots then kept_at ws (first_from ws 0 slots 0) key answer else ws)

unfoldable pub asked_of : Result Kept Refusal → Outcome → Pieces → Asked
asked_of (Err n) outcome list = record { reply = Err n; list = list }
asked_of (Ok kept.Before) outcome list = record { reply = Ok (reply.KeptBefore outcome); list = list }
asked_of (Ok kept.Newly) outcome list = record { reply = Ok (reply.NewlyKept outcome); list = list }
asked_of (Ok kept.Not) outcome list = record { reply = Ok (reply.NotKept outcome); list = list }
