-- Demand 3, sentence by sentence. proofs/Demand3.antt proves each under its own name.
--     NeverStale         "Whenever no edit lacks its notice, each accepted ask gives exactly the answer and list of a new lookup in today's memory."
--     StrikesExactly     "A notice strikes exactly the kept answers that read a descriptor sharing an address with it; no other slot moves."
--     NewInLowest        "A new answer goes in the lowest empty slot",
--     KeptFromItsSlot    "a kept one is answered from its slot."
-- The events of a history are calls that met their promises (History.antt); the last three speak of one call each, on a book of any words. A
-- book has `book_words` words, as its type says.
-- Assumes: nothing.
use Rattle.std.specs.Prelude.{ℕ, ◌+◌, ◌^◌, ◌≤◌, ◌<◌, ◌≡◌, false, List, ◌⊎◌, get_or, length, Err, Ok, Result}
use Rattle.answers.specs.declared.refusals.Refusal.{Refusal}
use Rattle.ids.specs.declared.Request.{Request}
use Rattle.memory_image.specs.declared.Piece.{Piece}
use Rattle.answers.specs.Layout.{answer_words}
use Rattle.answers.specs.Pieces.{nothing}
use Rattle.answers.specs.declared.Outcome.{Outcome}
use Rattle.answer_words.specs.AnswerWords.{words_of, outcome_of, list_of}
use Rattle.lookup.specs.Lookup.{looked_up}
use Rattle.lookup.specs.declared.Looked.{Looked}
use Rattle.book_words.specs.Layout.{slots_most, book_words, keys_from, slots_of, registers_of, key_at, block_from, block_at, key_of}
use Rattle.book.specs.Book.{Asks, Noticed}
use Rattle.book.specs.declared.Asked.{Asked}
use Rattle.book.specs.declared.Reply.{Reply}
use Rattle.book.specs.declared.Reply.TheVariants.{KeptBefore, NewlyKept, NotKept}
use Rattle.book_history.specs.History.{State, handing, Begun}

-- an ask is accepted
abbrev pub Accepted : Result Reply Refusal → Type 0
Accepted told = (n : Refusal) → told ≡ Err n → ⊥

-- its answer and list, whether it was kept or not, as a lookup gives them
abbrev pub answer_in : Result Reply Refusal → Result Outcome Refusal
answer_in (Err n) = Err n
answer_in (Ok (KeptBefore outcome)) = Ok outcome
answer_in (Ok (NewlyKept outcome)) = Ok outcome
answer_in (Ok (NotKept outcome)) = Ok outcome

abbrev pub looked_in : Asked → Looked
looked_in asked = record { answer = answer_in asked.reply; list = asked.list }

-- today's memory is what is handed in; a byte of it that isn't what it was is an edit
abbrev pub NeverStale : Type 0
NeverStale =
    (s : State) → Begun s → (base : ℕ) (memory : List ℕ) (request : Request) → request.stream.number < 2 ^ 32
    → ((a : ℕ) → (handing s base memory).unnoticed a ≡ false)
    → (asked : Asked) (after : List ℕ) → Asks s.words base memory request asked after → Accepted asked.reply
    → looked_in asked ≡ looked_up s.registers base memory request

-- an address that is in a piece and in a notice
pub record Shared (start size : ℕ) (p : Piece) : Type 0 where
  pub address : ℕ
  pub from : p.address ≤ address
  pub to : address < p.address + p.length
  pub noticed_from : start ≤ address
  pub noticed_to : address < start + size

-- a slot's answer read a descriptor that shares an address with a notice
pub record ReadThere (ws : List ℕ) (start size i : ℕ) : Type 0 where
  pub place : ℕ
  pub counted : place < (list_of (block_at ws i)).count
  pub shared : Shared start size (get_or (list_of (block_at ws i)).piece place nothing)

pub record Struck (ws : List ℕ) (start size : ℕ) (after : List ℕ) : Type 0 where
  -- a slot is empty afterwards exactly if it was, or its answer read there
  pub empty_if : (i : ℕ) → i < slots_most → (key_at ws i ≡ 0) ⊎ ReadThere ws start size i → key_at after i ≡ 0
  pub empty_only_if : (i : ℕ) → i < slots_most → key_at after i ≡ 0 → (key_at ws i ≡ 0) ⊎ ReadThere ws start size i
  -- and every word but the keys of these is as it was
  pub rest :
      (x : ℕ) → ((i : ℕ) → i < slots_most → x ≡ keys_from + i → (key_at ws i ≡ 0 → ⊥) → ReadThere ws start size i → ⊥)
      → get_or after x 0 ≡ get_or ws x 0
  pub long : length after ≡ length ws

abbrev pub StrikesExactly : Type 0
StrikesExactly =
    (ws : List ℕ) (start size : ℕ) (after : List ℕ) → Noticed ws start size (Ok tt) after → Struck ws start size after

-- a request's answer is kept in a slot
pub record KeptIn (ws : List ℕ) (request : Request) (i : ℕ) : Type 0 where
  pub below : i < slots_of ws
  pub key : key_at ws i ≡ key_of request

abbrev pub Empty : List ℕ → ℕ → Type 0
Empty ws i = (i < slots_of ws) × (key_at ws i ≡ 0)

-- a new answer in the lowest empty slot: only that slot's key and words change
pub record NewIn (ws : List ℕ) (request : Request) (asked : Asked) (after : List ℕ) : Type 0 where
  pub slot : ℕ
  pub empty : Empty ws slot
  pub lowest : (i : ℕ) → i < slot → Empty ws i → ⊥
  pub outcome : Outcome
  pub told : asked.reply ≡ Ok (NewlyKept outcome)
  pub key : key_at after slot ≡ key_of request
  pub block : block_at after slot ≡ words_of outcome asked.list
  pub rest :
      (x : ℕ) → (x ≡ keys_from + slot → ⊥) → ((j : ℕ) → j < answer_words → x ≡ block_from slot + j → ⊥) → get_or after x 0 ≡ get_or ws x 0

-- no slot is empty: the answer isn't kept, and no word changes
pub record NoRoom (ws : List ℕ) (asked : Asked) (after : List ℕ) : Type 0 where
  pub outcome : Outcome
  pub told : asked.reply ≡ Ok (NotKept outcome)
  pub same : after ≡ ws

-- an answer that isn't kept is that of a new lookup, and goes in the lowest empty slot if there is one
pub record Anew (ws : List ℕ) (base : ℕ) (memory : List ℕ) (request : Request) (asked : Asked) (after : List ℕ) : Type 0 where
  pub by_lookup : looked_in asked ≡ looked_up (registers_of ws) base memory request
  pub room : (i : ℕ) → Empty ws i → NewIn ws request asked after
  pub full : ((i : ℕ) → Empty ws i → ⊥) → NoRoom ws asked after

abbrev pub NewInLowest : Type 0
NewInLowest =
    (ws : List ℕ) (base : ℕ) (memory : List ℕ) (request : Request) (asked : Asked) (after : List ℕ) → length ws ≡ book_words
    → Asks ws base memory request asked after → Accepted asked.reply → ((i : ℕ) → KeptIn ws request i → ⊥)
    → Anew ws base memory request asked after

abbrev pub KeptFromItsSlot : Type 0
KeptFromItsSlot =
    (ws : List ℕ) (base : ℕ) (memory : List ℕ) (request : Request) (asked : Asked) (after : List ℕ)
    → Asks ws base memory request asked after → Accepted asked.reply → (i : ℕ) → KeptIn ws request i
    → (asked ≡ record { reply = Ok (KeptBefore (outcome_of (block_at ws i))); list = list_of (block_at ws i) }) × (after ≡ ws)
