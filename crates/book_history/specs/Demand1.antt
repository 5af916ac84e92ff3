-- Demand 1, sentence by sentence, of the calls that a user makes. proofs/Demand1.antt proves each under its own name.
--     AnswerOrNumber      "Whatever is handed in, every call ends with an answer or a numbered refusal": which numbers each can say, and no other.
--                         That it ends is the toolchain's word for every function.
--     HoldsWhatItHeld     "After a refusal the book and every lent buffer hold what they held."
-- "Nobody has to check first": no call below has a `requires`, and no claim a premise but the promise of its call.
-- Assumes: nothing.
use Rattle.std.specs.Prelude.{ℕ, ◌≡◌, List, ◌⊎◌, Err}
use Rattle.answers.specs.Refusals.{refusal_number}
use Rattle.answers.specs.declared.refusals.Refusal.{Refusal}
use Rattle.ids.specs.declared.Request.{Request}
use Rattle.registers.specs.declared.Registers.{Registers}
use Rattle.memory_image.specs.declared.Extent.{Extent}
use Rattle.lookup.specs.Lookup.{looked_up, LooksUp, LooksInto}
use Rattle.book.specs.Book.{Opened, Asks, Noticed}
use Rattle.book.specs.Into.{asked, AsksBook, AsksInto}
use Rattle.book.specs.declared.Asked.{Asked}
use Rattle.book.specs.declared.Reply.TheVariants as reply
use Rattle.report.specs.Report.{Reported}

-- a number is one of two, or of three
abbrev pub OneOf2 : ℕ → ℕ → ℕ → Type 0
OneOf2 a b n = (n ≡ a) ⊎ (n ≡ b)

abbrev pub OneOf3 : ℕ → ℕ → ℕ → ℕ → Type 0
OneOf3 a b c n = (n ≡ a) ⊎ OneOf2 b c n

pub record AnswerOrNumber (n : Refusal) : Type 0 where
  pub by_lookup :
      (r : Registers) (base : ℕ) (memory : List ℕ) (request : Request)
      → (looked_up r base memory request).answer ≡ Err n → OneOf3 1 2 3 (refusal_number n)
  pub opened :
      (r : Registers) (e : Extent) (slots : ℕ) (before after : List ℕ) → Opened r e slots before (Err n) after → OneOf3 1 2 4 (refusal_number n)
  pub asked_for :
      (ws : List ℕ) (base : ℕ) (memory : List ℕ) (request : Request) (told : Asked) (after : List ℕ)
      → Asks ws base memory request told after → told.reply ≡ Err n → OneOf3 7 6 3 (refusal_number n)
  pub noticed :
      (ws : List ℕ) (start size : ℕ) (after : List ℕ) → Noticed ws start size (Err n) after → OneOf2 7 5 (refusal_number n)
  pub reported : (ws before after : List ℕ) → Reported ws before (Err n) after → OneOf2 7 8 (refusal_number n)
  -- by `look_into`, `look_by_numbers` and `ask_into`
  pub looks_into :
      (r : Registers) (base : ℕ) (memory : List ℕ) (request : Request) (before after : List ℕ)
      → LooksInto (looked_up r base memory request) before (Err n) after → OneOf3 1 2 3 (refusal_number n)
  pub asks_into :
      (ws : List ℕ) (base : ℕ) (memory : List ℕ) (request : Request) (before book after : List ℕ)
      → AsksInto ws base memory request before (Err n) book after → OneOf3 7 6 3 (refusal_number n)

pub record HoldsWhatItHeld (n : Refusal) : Type 0 where
  -- an answer's words, by the call for C
  pub by_lookup :
      (r : Registers) (base : ℕ) (memory : List ℕ) (request : Request) (before : List ℕ) (says : ℕ) (after : List ℕ)
      → LooksUp (looked_up r base memory request) before says after → (looked_up r base memory request).answer ≡ Err n
      → after ≡ before
  -- and by `look_into` and `look_by_numbers`
  pub looks_into :
      (r : Registers) (base : ℕ) (memory : List ℕ) (request : Request) (before after : List ℕ)
      → LooksInto (looked_up r base memory request) before (Err n) after → after ≡ before
  -- the book's words
  pub opened :
      (r : Registers) (e : Extent) (slots : ℕ) (before after : List ℕ) → Opened r e slots before (Err n) after → after ≡ before
  pub asked_for :
      (ws : List ℕ) (base : ℕ) (memory : List ℕ) (request : Request) (told : Asked) (after : List ℕ)
      → Asks ws base memory request told after → told.reply ≡ Err n → after ≡ ws
  -- the book's and an answer's words, by the call for C
  pub asked_into :
      (ws : List ℕ) (base : ℕ) (memory : List ℕ) (request : Request) (before : List ℕ) (says : ℕ) (book after : List ℕ)
      → AsksBook ws base memory request before says book after → (asked ws base memory request).reply ≡ Err n
      → (book ≡ ws) × (after ≡ before)
  -- and by `ask_into`
  pub asks_into :
      (ws : List ℕ) (base : ℕ) (memory : List ℕ) (request : Request) (before book after : List ℕ)
      → AsksInto ws base memory request before (Err n) book after → (book ≡ ws) × (after ≡ before)
  -- the book's words
  pub noticed : (ws : List ℕ) (start size : ℕ) (after : List ℕ) → Noticed ws start size (Err n) after → after ≡ ws
  -- the buffer's bytes
  pub reported : (ws before after : List ℕ) → Reported ws before (Err n) after → after ≡ before
