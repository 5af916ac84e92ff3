-- What is claimed of the book beside the sentences of demand 3. proofs/Claims.antt proves each under its own name.
--     StillGood             with any edits unnoticed, a held answer whose list shares no address with them is what a new lookup gives
--     NeverMalformed        after an accepted opening no history leads to refusal 7
--     HeaderStays           the words have the registers and the extent that the book was last opened with
--     StartsEmpty           all slots are empty at opening
--     SharesMeans           a piece and a notice share an address exactly if there is one in both
--     OnlyRefusedForRoom    after an accepted opening and any history, the report is refused only where its text doesn't fit
--     OneOpening, OneAsk, OneNotice  any two results that a promise allows for one input are equal, and so are the words afterwards
-- Assumes: nothing.
use Rattle.answers.specs.declared.refusals.Refusal.TheVariants as refusal
use Rattle.std.specs.Prelude.{ℕ, ◌+◌, ◌≤◌, ◌<◌, ◌-◌, ◌≡◌, Bool, true, false, List, ltb, length, if◌then◌else◌, Err, Ok, Result, Some, ⊤}
use Rattle.answers.specs.declared.refusals.Refusal.{Refusal}
use Rattle.ids.specs.Packing.{unpacked}
use Rattle.ids.specs.declared.Request.{Request}
use Rattle.registers.specs.declared.Registers.{Registers}
use Rattle.memory_image.specs.declared.Extent.{Extent}
use Rattle.memory_image.specs.declared.Piece.{Piece}
use Rattle.answers.specs.Pieces.{EachPiece}
use Rattle.answers.specs.declared.Pieces.{Pieces}
use Rattle.answer_words.specs.AnswerWords.{outcome_of, list_of}
use Rattle.lookup.specs.Lookup.{looked_up}
use Rattle.book_words.specs.Layout.{slots_most, registers_of, extent_held, key_at, block_at}
use Rattle.book_words.specs.Malformed.{refusal7}
use Rattle.book.specs.Book.{Opened, Asks, Noticed, shares}
use Rattle.book.specs.declared.Asked.{Asked}
use Rattle.report.specs.Report.{Reported, report_text}
use Rattle.book_history.specs.History.{State, today, Begun}
use Rattle.book_history.specs.Demand3.{Shared}

-- no address of a list is unnoticed
abbrev pub Clean : (ℕ → Bool) → Pieces → Type 0
Clean unnoticed l = EachPiece (λ p. (a : ℕ) → p.address ≤ a → a < p.address + p.length → unnoticed a ≡ false) l

-- every held answer whose list no unnoticed edit shares an address with is what a new lookup in today's memory gives
abbrev pub FreshIn : State → Type 0
FreshIn s =
    (i : ℕ) → i < slots_most → (key_at s.words i ≡ 0 → ⊥) → Clean s.unnoticed (list_of (block_at s.words i))
    → (request : Request) → unpacked (key_at s.words i - 1) ≡ Some request
    → looked_up s.registers s.extent.base (today s) request
    ≡ record { answer = Ok (outcome_of (block_at s.words i)); list = list_of (block_at s.words i) }

abbrev pub StillGood : Type 0
StillGood = (s : State) → Begun s → FreshIn s

abbrev pub NeverMalformed : Type 0
NeverMalformed = (s : State) → Begun s → refusal7 s.words ≡ false

abbrev pub HeaderStays : Type 0
HeaderStays = (s : State) → Begun s → (registers_of s.words ≡ s.registers) × (extent_held s.words ≡ s.extent)

abbrev pub StartsEmpty : Type 0
StartsEmpty =
    (r : Registers) (e : Extent) (slots : ℕ) (before after : List ℕ) → Opened r e slots before (Ok tt) after
    → (i : ℕ) → i < slots_most → key_at after i ≡ 0

abbrev pub SharesMeans : Type 0
SharesMeans =
    (start size : ℕ) (p : Piece)
    → (shares start size p ≡ true → Shared start size p) × (Shared start size p → shares start size p ≡ true)

abbrev pub OnlyRefusedForRoom : Type 0
OnlyRefusedForRoom =
    (s : State) → Begun s → (before : List ℕ) (says : Result ℕ Refusal) (after : List ℕ) → Reported s.words before says after
    → says ≡ (if ltb (length before) (length (report_text s.words)) then Err refusal.Room else Ok (length (report_text s.words)))

abbrev pub OneOpening : Type 0
OneOpening =
    (r : Registers) (e : Extent) (slots : ℕ) (before : List ℕ) (x y : Result ⊤ Refusal) (after other : List ℕ)
    → Opened r e slots before x after → Opened r e slots before y other → (x ≡ y) × (after ≡ other)

abbrev pub OneAsk : Type 0
OneAsk =
    (ws : List ℕ) (base : ℕ) (memory : List ℕ) (request : Request) (x y : Asked) (after other : List ℕ)
    → Asks ws base memory request x after → Asks ws base memory request y other → (x ≡ y) × (after ≡ other)

abbrev pub OneNotice : Type 0
OneNotice =
    (ws : List ℕ) (start size : ℕ) (x y : Result ⊤ Refusal) (after other : List ℕ)
    → Noticed ws start size x after → Noticed ws start size y other → (x ≡ y) × (after ≡ other)
