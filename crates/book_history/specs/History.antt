-- What happens on a bench with one book, in any order: edits of the memory, notices, asks, reports and openings, accepted or refused. Each call
-- is told by its promise (`Noticed`, `Asks`, `Reported`, `Opened`), so that what is claimed of histories is claimed of whatever the code does.
--     State       the book's words, today's memory, what was edited and lacks its notice, what the book was last opened with
--     Event       one edit or one call, from a state to the next
--     History     any number of events
--     Begun       an accepted opening, of words of whatever content, and any history since
-- A register has 32 bits and a StreamID too, as their types say: `Narrow` and `narrow` say no more.
-- Assumes: nothing.
use Rattle.std.specs.Prelude.{ℕ, ◌+◌, ◌<◌, ◌^◌, ◌-◌, Bool, false, not, ◌&&◌, ◌||◌, List, eqb, leb, ltb, get_or, length, if◌then◌else◌, Err, Ok, Result, ⊤}
use Rattle.answers.specs.declared.refusals.Refusal.{Refusal}
use Rattle.placed.specs.From.{tab}
use Rattle.ids.specs.declared.Request.{Request}
use Rattle.registers.specs.Words.{register_words, words_of_registers}
use Rattle.registers.specs.declared.Registers.{Registers}
use Rattle.memory_image.specs.declared.Extent.{Extent}
use Rattle.book.specs.Book.{Opened, Asks, Noticed}
use Rattle.book.specs.declared.Asked.{Asked}
use Rattle.book.specs.declared.Reply.{Reply}
use Rattle.book.specs.declared.Reply.TheVariants as reply
use Rattle.report.specs.Report.{Reported}

pub record State : Type 0 where
  pub words : List ℕ
  -- today's byte at each address
  pub memory : ℕ → ℕ
  -- an address was edited, and lacks its notice
  pub unnoticed : ℕ → Bool
  -- what the book was last opened with
  pub registers : Registers
  pub extent : Extent

-- the memory that the book was opened with, as it is today
abbrev pub today : State → List ℕ
today s = tab s.extent.length (λ j. s.memory (s.extent.base + j))

-- an address is one of so many from a start on
abbrev pub within : ℕ → ℕ → ℕ → Bool
within start size a = leb start a && ltb a (start + size)

-- the same bench, with these words of the book
abbrev pub holding : State → List ℕ → State
holding s after =
    record { words = after; memory = s.memory; unnoticed = s.unnoticed; registers = s.registers; extent = s.extent }

-- the bytes at a set of addresses become others, and lack their notice
abbrev pub editing : State → (ℕ → Bool) → (ℕ → ℕ) → State
editing s at other =
    record {
      words = s.words;
      memory = λ a. if at a then other a else s.memory a;
      unnoticed = λ a. at a || s.unnoticed a;
      registers = s.registers;
      extent = s.extent;
    }

-- a memory that is handed in: its byte at an address, and whether that isn't the one of today
abbrev pub handed : ℕ → List ℕ → ℕ → ℕ
handed base memory a = get_or memory (a - base) 0

abbrev pub differs : State → ℕ → List ℕ → ℕ → Bool
differs s base memory a = within base (length memory) a && not (eqb (handed base memory a) (s.memory a))

-- what is handed in is today's memory: where a byte isn't what it was, that is an edit
abbrev pub handing : State → ℕ → List ℕ → State
handing s base memory = editing s (differs s base memory) (handed base memory)

-- a notice that is refused notices nothing
abbrev pub noticing : Result ⊤ Refusal → State → ℕ → ℕ → List ℕ → State
noticing (Err n) s start size after = holding s after
noticing (Ok tt) s start size after =
    record {
      words = after;
      memory = s.memory;
      unnoticed = λ a. if within start size a then false else s.unnoticed a;
      registers = s.registers;
      extent = s.extent;
    }

-- an ask that is refused says nothing of the memory, whatever was handed in
abbrev pub asking : Result Reply Refusal → State → ℕ → List ℕ → List ℕ → State
asking (Err n) s base memory after = holding s after
asking (Ok (reply.KeptBefore outcome)) s base memory after = holding (handing s base memory) after
asking (Ok (reply.NewlyKept outcome)) s base memory after = holding (handing s base memory) after
asking (Ok (reply.NotKept outcome)) s base memory after = holding (handing s base memory) after

-- an accepted opening is a new beginning: what was edited before doesn't matter
abbrev pub opening : Result ⊤ Refusal → State → Registers → Extent → List ℕ → State
opening (Err n) s r e after = holding s after
opening (Ok tt) s r e after =
    record { words = after; memory = s.memory; unnoticed = λ a. false; registers = r; extent = e }

-- the registers of 32 bits have no more, as their type says
pub record Narrow (r : Registers) : Type 0 where
  pub each : (j : ℕ) → j < register_words → get_or (words_of_registers r) j 0 < 2 ^ 32

pub data Event (s : State) : State → Type 0 where
  edit : (at : ℕ → Bool) (other : ℕ → ℕ) → Event s (editing s at other)
  notice :
      (start size : ℕ) (says : Result ⊤ Refusal) (after : List ℕ) → Noticed s.words start size says after
      → Event s (noticing says s start size after)
  -- at any base, with a memory of any length and of any bytes
  ask :
      (base : ℕ) (memory : List ℕ) (request : Request) (asked : Asked) (after : List ℕ) → request.stream.number < 2 ^ 32
      → Asks s.words base memory request asked after → Event s (asking asked.reply s base memory after)
  report : (buffer : List ℕ) (says : Result ℕ Refusal) (after : List ℕ) → Reported s.words buffer says after → Event s s
  opens :
      (r : Registers) (e : Extent) (slots : ℕ) (says : Result ⊤ Refusal) (after : List ℕ) → Narrow r
      → Opened r e slots s.words says after → Event s (opening says s r e after)

pub data History (s : State) : State → Type 0 where
  start : History s s
  more : {t u : State} → History s t → Event t u → History s u

pub record Begun (s : State) : Type 0 where
  -- the bench before, with a book's words of whatever content
  pub before : State
  pub registers : Registers
  pub extent : Extent
  pub slots : ℕ
  pub after : List ℕ
  pub narrow : Narrow registers
  pub accepted : Opened registers extent slots before.words (Ok tt) after
  pub since : History (opening (Ok tt) before registers extent after) s
