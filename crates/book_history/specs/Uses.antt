-- What follows from the claims. Each needs all of the claims that it names, at their edges, and fails if one is weakened.
-- proofs/Uses.antt proves each from those claims, by their names.
--     AskedByTheRules               NeverStale, AnswerOfTheRules: while nothing lacks its notice an accepted ask gives the rules' answer and list
--     AddressCompared               DependsOnList, NeverStale, StillGood: what they compare has the address that a failed fetch wanted
--     NoticeOutside                 EachLies, SharesMeans: a notice below or above the memory shares no address with any listed descriptor
--     EmptyNoticeStrikesNothing     StrikesExactly: a notice of length 0 leaves every word
--     NothingHeldAtFirst            StartsEmpty, StrikesExactly: a notice to a book just opened leaves every word
--     FirstSlotFirst                StartsEmpty, NewInLowest: the first answer of a book goes in slot 0
--     HeldIsItsOwn                  KeptFromItsSlot, OneWordEach: what a slot holds is given to the request that its key stands for
--     OneSlotOneRequest             EqualWordsOnly: no slot is kept for two requests
--     NoneAndZeroApart              NoneIsNotZero: nor for a StreamID without a SubstreamID and with SubstreamID 0
--     EndsShared                    SharesMeans: a piece's first and last bytes are shared, the bytes beside it are not
--     NeverRefusedSeven             NeverMalformed: after any history, refusal 7 isn't given
--     ReportAlwaysFits              OnlyRefusedForRoom, ReportFits: after any history a report into a buffer of report_most bytes is written
-- Assumes: nothing.
use Rattle.answers.specs.declared.refusals.Refusal.TheVariants as refusal
use Rattle.std.specs.Prelude.{ℕ, ◌+◌, ◌^◌, ◌≤◌, ◌<◌, ◌-◌, ◌≡◌, true, false, List, ◌⊎◌, ltb, get_or, length, if◌then◌else◌, Err, None, Ok, Result, Some, ⊤}
use Rattle.answers.specs.declared.refusals.Refusal.{Refusal}
use Rattle.ids.specs.Packing.{unpacked, request_of, Proper}
use Rattle.ids.specs.declared.Request.{Request}
use Rattle.registers.specs.declared.Registers.{Registers}
use Rattle.memory_image.specs.Extent.{extent_of, address_top}
use Rattle.memory_image.specs.declared.Extent.{Extent}
use Rattle.memory_image.specs.Rule.{Agree}
use Rattle.memory_image.specs.Words.{bytes}
use Rattle.memory_image.specs.declared.Piece.{Piece}
use Rattle.answers.specs.Pieces.{EachPiece}
use Rattle.answers.specs.declared.Outcome.TheVariants.{Fault}
use Rattle.answer_words.specs.AnswerWords.{outcome_of, list_of}
use Rattle.lookup.specs.Lookup.{looked_up, answered, ruled}
use Rattle.book_words.specs.Layout.{slots_most, slots_of, key_at, key_of, block_at, other_extent}
use Rattle.book.specs.Book.{Opened, Asks, Noticed, refused_with, shares}
use Rattle.book.specs.declared.Asked.{Asked}
use Rattle.book.specs.declared.Reply.TheVariants.{KeptBefore}
use Rattle.report.specs.Length.{report_most}
use Rattle.report.specs.Report.{Reported, report_text}
use Rattle.book_history.specs.History.{State, handing, today, Begun}
use Rattle.book_history.specs.Claims.{Clean}
use Rattle.book_history.specs.Demand3.{Accepted, answer_in, looked_in, KeptIn}

abbrev pub AskedByTheRules : Type 0
AskedByTheRules =
    (s : State) → Begun s → (base : ℕ) (memory : List ℕ) (request : Request) → request.stream.number < 2 ^ 32
    → ((a : ℕ) → (handing s base memory).unnoticed a ≡ false)
    → (asked : Asked) (after : List ℕ) → Asks s.words base memory request asked after → Accepted asked.reply
    → looked_in asked ≡ answered (ruled s.registers base memory request)

-- of any event and any address; of the answers alone, the lists being theirs
pub record AddressCompared (event address : ℕ) : Type 0 where
  -- two memories that agree on the list
  pub by_the_list :
      (r : Registers) (base : ℕ) (memory other : List ℕ) (request : Request) → length other ≡ length memory
      → EachPiece (Agree (extent_of base memory) (bytes memory) (bytes other)) (looked_up r base memory request).list
      → (looked_up r base memory request).answer ≡ Ok (Fault event address)
      → (looked_up r base other request).answer ≡ Ok (Fault event address)
  -- an ask while nothing lacks its notice: what it says, and what a new lookup says
  pub asked_for :
      (s : State) → Begun s → (base : ℕ) (memory : List ℕ) (request : Request) → request.stream.number < 2 ^ 32
      → ((a : ℕ) → (handing s base memory).unnoticed a ≡ false)
      → (asked : Asked) (after : List ℕ) → Asks s.words base memory request asked after → Accepted asked.reply
      → answer_in asked.reply ≡ Ok (Fault event address)
      → (looked_up s.registers base memory request).answer ≡ Ok (Fault event address)
  -- a slot whose list shares no address with what lacks its notice: what it holds, and what a new lookup says
  pub held :
      (s : State) → Begun s → (i : ℕ) → i < slots_most → (key_at s.words i ≡ 0 → ⊥)
      → Clean s.unnoticed (list_of (block_at s.words i)) → (request : Request) → unpacked (key_at s.words i - 1) ≡ Some request
      → outcome_of (block_at s.words i) ≡ Fault event address
      → (looked_up s.registers s.extent.base (today s) request).answer ≡ Ok (Fault event address)

abbrev pub NoticeOutside : Type 0
NoticeOutside =
    (r : Registers) (base : ℕ) (memory : List ℕ) (request : Request) (start size : ℕ)
    → (start + size ≤ base) ⊎ (base + length memory ≤ start)
    → EachPiece (λ p. shares start size p ≡ false) (looked_up r base memory request).list

abbrev pub EmptyNoticeStrikesNothing : Type 0
EmptyNoticeStrikesNothing =
    (ws : List ℕ) (start : ℕ) (after : List ℕ) → Noticed ws start 0 (Ok tt) after → (x : ℕ) → get_or after x 0 ≡ get_or ws x 0

abbrev pub NothingHeldAtFirst : Type 0
NothingHeldAtFirst =
    (r : Registers) (e : Extent) (slots : ℕ) (before opened : List ℕ) → Opened r e slots before (Ok tt) opened
    → (start size : ℕ) (after : List ℕ) → Noticed opened start size (Ok tt) after → (x : ℕ) → get_or after x 0 ≡ get_or opened x 0

abbrev pub FirstSlotFirst : Type 0
FirstSlotFirst =
    (r : Registers) (e : Extent) (slots : ℕ) (before opened : List ℕ) → Opened r e slots before (Ok tt) opened
    → (base : ℕ) (memory : List ℕ) (request : Request) (asked : Asked) (after : List ℕ) → Asks opened base memory request asked after
    → Accepted asked.reply → key_at after 0 ≡ key_of request

abbrev pub HeldIsItsOwn : Type 0
HeldIsItsOwn =
    (ws : List ℕ) (i : ℕ) (request : Request) → i < slots_of ws → (key_at ws i ≡ 0 → ⊥) → unpacked (key_at ws i - 1) ≡ Some request
    → (base : ℕ) (memory : List ℕ) (asked : Asked) (after : List ℕ) → Asks ws base memory request asked after → Accepted asked.reply
    → asked ≡ record { reply = Ok (KeptBefore (outcome_of (block_at ws i))); list = list_of (block_at ws i) }

abbrev pub OneSlotOneRequest : Type 0
OneSlotOneRequest =
    (ws : List ℕ) (i : ℕ) (q r : Request) → Proper q → Proper r → KeptIn ws q i → KeptIn ws r i → q ≡ r

abbrev pub NoneAndZeroApart : Type 0
NoneAndZeroApart =
    (ws : List ℕ) (i stream : ℕ) → KeptIn ws (request_of stream None) i → KeptIn ws (request_of stream (Some (record { number = 0 }))) i → ⊥

pub record EndsShared (p : Piece) : Type 0 where
  pub first : 0 < p.length → shares p.address 1 p ≡ true
  pub last : 0 < p.length → shares (p.address + p.length - 1) 1 p ≡ true
  pub before : (start size : ℕ) → start + size ≤ p.address → shares start size p ≡ false
  pub after : (start size : ℕ) → p.address + p.length ≤ start → shares start size p ≡ false

-- a notice then says no more than whether it is refused with 5; an ask of another memory is refused with 6, not with 7
pub record NeverRefusedSeven (s : State) : Type 0 where
  pub noticed :
      (start size : ℕ) (says : Result ⊤ Refusal) (after : List ℕ) → Noticed s.words start size says after
      → says ≡ (if ltb address_top (start + size) then Err refusal.Notice else Ok tt)
  pub asked_for :
      (base : ℕ) (memory : List ℕ) (request : Request) (asked : Asked) (after : List ℕ)
      → Asks s.words base memory request asked after → other_extent s.words base (length memory) ≡ true → asked ≡ refused_with refusal.OtherMemory

abbrev pub ReportAlwaysFits : Type 0
ReportAlwaysFits =
    (s : State) → Begun s → (before : List ℕ) (says : Result ℕ Refusal) (after : List ℕ) → Reported s.words before says after
    → report_most ≤ length before → says ≡ Ok (length (report_text s.words))
