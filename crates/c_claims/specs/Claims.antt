-- What is claimed of the C interface beyond the contracts. proofs/Claims.antt proves each under its own name.
--     AsInRattle        a call for C tells, and leaves, what the call that it stands on does: all that is claimed of that goes for C too
--     NumbersInC        which numbers each call can say; 0, and 100 to 102 of an ask, are said of what was done or answered, and of no refusal
--     PartLies          where a place is told, 64 bytes of the memory lie from there on
--     PartIsThatVery    it is where the part starts that `lookup::ste_part` hands back, and these are its bytes
-- Assumes: nothing.
use Rattle.std.specs.Prelude.{ℕ, ◌+◌, ◌≤◌, ◌≡◌, List, ◌⊎◌, length, take, drop, Err, Ok, Option, Result, ⊤}
use Rattle.answers.specs.declared.refusals.Refusal.{Refusal}
use Rattle.std.specs.Borrow.{Bor}
use Rattle.ids.specs.declared.Request.{Request}
use Rattle.registers.specs.declared.Registers.{Registers}
use Rattle.memory_image.specs.declared.Extent.{Extent}
use Rattle.lookup.specs.Lookup.{looked_up, answer_says, answer_put, LooksUp}
use Rattle.lookup.specs.Part.{SteHanded, ste_at}
use Rattle.lookup.specs.declared.Looked.{Looked}
use Rattle.book.specs.Book.{Opened, Asks, Noticed}
use Rattle.book.specs.Into.{ask_says, ask_put, AsksBook}
use Rattle.book.specs.declared.Asked.{Asked}
use Rattle.report.specs.Report.{Reported}
use Rattle.book_history.specs.Demand1.{OneOf2, OneOf3}
use Rattle.llobatelh.specs.Calls.{no_part, part_says, said_says, written_says, length_put, OpensBook, NoticesBook, ReportsBook}

pub record AsInRattle : Type 0 where
  pub by_lookup :
      (r : Registers) (base : ℕ) (memory : List ℕ) (request : Request) (told : Looked) → told ≡ looked_up r base memory request
      → (before : List ℕ) (says : ℕ) (after : List ℕ) → LooksUp (looked_up r base memory request) before says after
      → (says ≡ answer_says told.answer) × (after ≡ answer_put told.answer told.list before)
  pub opened :
      (r : Registers) (e : Extent) (slots : ℕ) (before : List ℕ) (told : Result ⊤ Refusal) (left : List ℕ) → Opened r e slots before told left
      → (says : ℕ) (after : List ℕ) → OpensBook r e slots before says after → (says ≡ said_says told) × (after ≡ left)
  pub asked_for :
      (ws : List ℕ) (base : ℕ) (memory : List ℕ) (request : Request) (told : Asked) (left : List ℕ) → Asks ws base memory request told left
      → (before : List ℕ) (says : ℕ) (book after : List ℕ) → AsksBook ws base memory request before says book after
      → (says ≡ ask_says told.reply) × (book ≡ left) × (after ≡ ask_put told.reply told.list before)
  pub noticed :
      (ws : List ℕ) (start size : ℕ) (told : Result ⊤ Refusal) (left : List ℕ) → Noticed ws start size told left
      → (says : ℕ) (after : List ℕ) → NoticesBook ws start size says after → (says ≡ said_says told) × (after ≡ left)
  pub reported :
      (ws before : List ℕ) (told : Result ℕ Refusal) (left : List ℕ) → Reported ws before told left
      → (length_before : List ℕ) (says : ℕ) (after length_after : List ℕ) → ReportsBook ws before length_before says after length_after
      → (says ≡ written_says told) × (after ≡ left) × (length_after ≡ length_put told length_before)

-- done, or refused with one of its numbers
pub record NumbersInC : Type 0 where
  pub by_lookup :
      (r : Registers) (base : ℕ) (memory : List ℕ) (request : Request) (before : List ℕ) (says : ℕ) (after : List ℕ)
      → LooksUp (looked_up r base memory request) before says after → (says ≡ 0) ⊎ OneOf3 1 2 3 says
  pub opened :
      (r : Registers) (e : Extent) (slots : ℕ) (before : List ℕ) (says : ℕ) (after : List ℕ) → OpensBook r e slots before says after
      → (says ≡ 0) ⊎ OneOf3 1 2 4 says
  pub asked_for :
      (ws : List ℕ) (base : ℕ) (memory : List ℕ) (request : Request) (before : List ℕ) (says : ℕ) (book after : List ℕ)
      → AsksBook ws base memory request before says book after → OneOf3 100 101 102 says ⊎ OneOf3 7 6 3 says
  pub noticed :
      (ws : List ℕ) (start size says : ℕ) (after : List ℕ) → NoticesBook ws start size says after → (says ≡ 0) ⊎ OneOf2 7 5 says
  pub reported :
      (ws before length_before : List ℕ) (says : ℕ) (after length_after : List ℕ) → ReportsBook ws before length_before says after length_after
      → (says ≡ 0) ⊎ OneOf2 7 8 says
  -- 0 is never a refusal's
  pub zero_opened :
      (r : Registers) (e : Extent) (slots : ℕ) (before after : List ℕ) → OpensBook r e slots before 0 after
      → Opened r e slots before (Ok tt) after
  pub zero_noticed :
      (ws : List ℕ) (start size : ℕ) (after : List ℕ) → NoticesBook ws start size 0 after → Noticed ws start size (Ok tt) after
  pub zero_reported :
      (ws before length_before after length_after : List ℕ) → ReportsBook ws before length_before 0 after length_after
      → (n : Refusal) → Reported ws before (Err n) after → ⊥
  pub zero_looked_up :
      (r : Registers) (base : ℕ) (memory : List ℕ) (request : Request) (before after : List ℕ)
      → LooksUp (looked_up r base memory request) before 0 after → (n : Refusal) → (looked_up r base memory request).answer ≡ Err n → ⊥

abbrev pub PartLies : Type 0
PartLies =
    (r : Registers) (base : ℕ) (memory : List ℕ) (request : Request)
    → (part_says (ste_at r base memory request) ≡ no_part → ⊥) → part_says (ste_at r base memory request) + 64 ≤ length memory

abbrev pub PartIsThatVery : Type 0
PartIsThatVery =
    (memory part : Bor (List ℕ)) (at : Option ℕ) → SteHanded memory part at → (part_says at ≡ no_part → ⊥)
    → (part.now ≡ take 64 (drop (part_says at) memory.now))
    × (part.ref_ptr.0 ≡ memory.ref_ptr.0) × (part.ref_ptr.1 ≡ memory.ref_ptr.1 + part_says at)
