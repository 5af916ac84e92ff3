-- What the book does (RULES, "The book", "When the bench says no"): the result, and every word afterwards.
--     Opened, Asks, Noticed     what is promised of open, ask and notice: start here
--     ask_result, ask_book      an ask
--     shares, touched, struck_from  a notice: which slots it strikes
-- A refused call leaves every word.
-- Assumes: nothing.
use Rattle.answers.specs.declared.refusals.Refusal.TheVariants as refusal
use Rattle.std.specs.Prelude.{ℕ, zero, suc, ◌+◌, min, max, ◌≡◌, Bool, true, false, not, ◌&&◌, ◌||◌, List, eqb, ltb, get_or, length, set, if◌then◌else◌, Err, Ok, Result, ⊤}
use Rattle.answers.specs.declared.refusals.Refusal.{Refusal}
use Rattle.answers.specs.declared.Outcome.{Outcome}
use Rattle.ids.specs.Ids.{refusal3}
use Rattle.ids.specs.declared.Request.{Request}
use Rattle.registers.specs.Sizes.{refusal1}
use Rattle.registers.specs.declared.Registers.{Registers}
use Rattle.memory_image.specs.Extent.{refusal2, address_top}
use Rattle.memory_image.specs.declared.Extent.{Extent}
use Rattle.memory_image.specs.declared.Piece.{Piece}
use Rattle.answers.specs.Layout.{pieces_most}
use Rattle.answers.specs.Pieces.{none, nothing}
use Rattle.answers.specs.declared.Pieces.{Pieces}
use Rattle.answer_words.specs.AnswerWords.{words_of, outcome_of, list_of}
use Rattle.lookup.specs.Lookup.{looked_up}
use Rattle.lookup.specs.declared.Looked.{Looked}
use Rattle.book_words.specs.Layout.{slots_most, slots_of, registers_of, other_extent, keys_from, key_at, block_at, key_of, kept_at, opened_with}
use Rattle.book_words.specs.Malformed.{first_from, refusal7}
use Rattle.book.specs.declared.Asked.{Asked}
use Rattle.book.specs.declared.Reply.TheVariants as reply

-- open: refusals 1, 2, 4
unfoldable pub open_says : Registers → Extent → ℕ → Result ⊤ Refusal
open_says r e slots =
    if refusal1 r then Err refusal.Registers
    else if refusal2 e then Err refusal.Memory
    else if eqb slots 0 || ltb slots_most slots then Err refusal.Slots
    else Ok tt

-- a refused call leaves every word
abbrev pub if_done : Result ⊤ Refusal → List ℕ → List ℕ → List ℕ
if_done (Err n) before after = before
if_done (Ok done) before after = after

pub record Opened (r : Registers) (e : Extent) (slots : ℕ) (before : List ℕ) (says : Result ⊤ Refusal) (after : List ℕ) : Type 0 where
  pub result : says ≡ open_says r e slots
  pub book : after ≡ if_done (open_says r e slots) before (opened_with r e slots)

-- the lowest slot that holds a request, and the lowest empty one; the number of slots where there is none
abbrev pub slot_of : List ℕ → Request → ℕ
slot_of ws request = first_from ws (key_of request) (slots_of ws) 0

abbrev pub empty_slot : List ℕ → ℕ
empty_slot ws = first_from ws 0 (slots_of ws) 0

abbrev pub refused_with : Refusal → Asked
refused_with n = record { reply = Err n; list = none }

-- a new lookup: it is kept where there is room
abbrev pub newly : Bool → Result Outcome Refusal → Pieces → Asked
newly room (Err n) list = refused_with n
newly true (Ok outcome) list = record { reply = Ok (reply.NewlyKept outcome); list = list }
newly false (Ok outcome) list = record { reply = Ok (reply.NotKept outcome); list = list }

abbrev pub now_holding : Bool → List ℕ → ℕ → ℕ → Result Outcome Refusal → Pieces → List ℕ
now_holding room ws i key (Err n) list = ws
now_holding true ws i key (Ok outcome) list = kept_at ws i key (words_of outcome list)
now_holding false ws i key (Ok outcome) list = ws

-- ask: refusals 7, 6, 3; from its slot; or by a new lookup, kept in the lowest empty slot or not kept
unfoldable pub ask_result : List ℕ → ℕ → ℕ → Request → Looked → Asked
ask_result ws base size request new =
    if refusal7 ws then refused_with refusal.Malformed
    else if other_extent ws base size then refused_with refusal.OtherMemory
    else if refusal3 request then refused_with refusal.Substream
    else if ltb (slot_of ws request) (slots_of ws)
    then record { reply = Ok (reply.KeptBefore (outcome_of (block_at ws (slot_of ws request)))); list = list_of (block_at ws (slot_of ws request)) }
    else newly (ltb (empty_slot ws) (slots_of ws)) new.answer new.list

unfoldable pub ask_book : List ℕ → ℕ → ℕ → Request → Looked → List ℕ
ask_book ws base size request new =
    if refusal7 ws then ws
    else if other_extent ws base size then ws
    else if refusal3 request then ws
    else if ltb (slot_of ws request) (slots_of ws) then ws
    else now_holding (ltb (empty_slot ws) (slots_of ws)) ws (empty_slot ws) (key_of request) new.answer new.list

-- the lookup that an ask stands for: the book's registers, and the memory handed in
abbrev pub new_lookup : List ℕ → ℕ → List ℕ → Request → Looked
new_lookup ws base memory request = looked_up (registers_of ws) base memory request

pub record Asks (ws : List ℕ) (base : ℕ) (memory : List ℕ) (request : Request) (asked : Asked) (after : List ℕ) : Type 0 where
  pub result : asked ≡ ask_result ws base (length memory) request (new_lookup ws base memory request)
  pub book : after ≡ ask_book ws base (length memory) request (new_lookup ws base memory request)

-- a piece and a notice share an address
unfoldable pub shares : ℕ → ℕ → Piece → Bool
shares start size p = ltb (max p.address start) (min (p.address + p.length) (start + size))

-- one of the m pieces from j on shares an address with the notice
unfoldable pub shared_from : ℕ → ℕ → List Piece → ℕ → ℕ → Bool
shared_from start size l zero j = false
shared_from start size l (suc m) j =
    if shares start size (get_or l j nothing) then true
    else shared_from start size l m (j + 1)

unfoldable pub touched : List ℕ → ℕ → ℕ → ℕ → Bool
touched ws start size i =
    not (eqb (key_at ws i) 0) && shared_from start size (list_of (block_at ws i)).piece (min (list_of (block_at ws i)).count pieces_most) 0

-- a struck slot is empty, and nothing else of it changes
unfoldable pub strike : List ℕ → ℕ → ℕ → ℕ → List ℕ
strike ws start size i =
    if touched ws start size i then set ws (keys_from + i) 0
    else ws

unfoldable pub struck_from : List ℕ → ℕ → ℕ → ℕ → ℕ → List ℕ
struck_from ws start size zero i = ws
struck_from ws start size (suc m) i = struck_from (strike ws start size i) start size m (i + 1)

-- notice: refusals 7, 5
unfoldable pub notice_says : List ℕ → ℕ → ℕ → Result ⊤ Refusal
notice_says ws start size =
    if refusal7 ws then Err refusal.Malformed
    else if ltb address_top (start + size) then Err refusal.Notice
    else Ok tt

pub record Noticed (ws : List ℕ) (start size : ℕ) (says : Result ⊤ Refusal) (after : List ℕ) : Type 0 where
  pub result : says ≡ notice_says ws start size
  pub book : after ≡ if_done (notice_says ws start size) ws (struck_from ws start size slots_most 0)
