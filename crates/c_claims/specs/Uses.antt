-- What follows from the claims. Each needs all of the claims that it names. proofs/Uses.antt proves each from those claims, by their names.
--     OneInC          AsInRattle; OneAnswer, OneOpening, OneAsk, OneNotice, OneReport: any two results that a promise for C allows for one input
--                     are equal, and so is all that was lent
--     OpenedInC       NumbersInC, StartsEmpty: an opening that says 0 leaves a book with all slots empty
--     StruckInC       NumbersInC, EmptyNoticeStrikesNothing: a notice of length 0 that says 0 leaves every word
--     PartOfEach      PartLies, PartIsThatVery, OnePart: two parts handed back for one input are the same 64 bytes at the same place
--     GivenCounts     NoneIsNotZero: on small tables, `given` 0 and `given` 1 with SubstreamID 0 put different words
-- Assumes: nothing.
use Rattle.std.specs.Prelude.{ℕ, ◌<◌, ◌≡◌, List, get_or, length, None, Some}
use Rattle.std.specs.Borrow.{Bor}
use Rattle.ids.specs.declared.Request.{Request}
use Rattle.registers.specs.declared.Registers.{Registers}
use Rattle.memory_image.specs.declared.Extent.{Extent}
use Rattle.lookup_claims.specs.Claims.{small_registers, small_memory, stream_zero}
use Rattle.lookup.specs.Lookup.{looked_up, LooksUp}
use Rattle.lookup.specs.Part.{SteHanded, ste_at}
use Rattle.lookup.specs.declared.Looked.{Looked}
use Rattle.book_words.specs.Layout.{slots_most, key_at}
use Rattle.book.specs.Into.{AsksBook}
use Rattle.llobatelh.specs.Calls.{no_part, part_says, OpensBook, NoticesBook, ReportsBook}

pub record OneInC : Type 0 where
  pub by_lookup :
      (r : Registers) (base : ℕ) (memory : List ℕ) (request : Request) (told also : Looked)
      → told ≡ looked_up r base memory request → also ≡ looked_up r base memory request
      → (before : List ℕ) (x y : ℕ) (after other : List ℕ) → LooksUp told before x after → LooksUp also before y other
      → (x ≡ y) × (after ≡ other)
  pub opened :
      (r : Registers) (e : Extent) (slots : ℕ) (before : List ℕ) (x y : ℕ) (after other : List ℕ)
      → OpensBook r e slots before x after → OpensBook r e slots before y other → (x ≡ y) × (after ≡ other)
  pub asked_for :
      (ws : List ℕ) (base : ℕ) (memory : List ℕ) (request : Request) (before : List ℕ) (x y : ℕ) (book books after other : List ℕ)
      → AsksBook ws base memory request before x book after → AsksBook ws base memory request before y books other
      → (x ≡ y) × (book ≡ books) × (after ≡ other)
  pub noticed :
      (ws : List ℕ) (start size x y : ℕ) (after other : List ℕ)
      → NoticesBook ws start size x after → NoticesBook ws start size y other → (x ≡ y) × (after ≡ other)
  pub reported :
      (ws before length_before : List ℕ) (x y : ℕ) (after other size sizes : List ℕ)
      → ReportsBook ws before length_before x after size → ReportsBook ws before length_before y other sizes
      → (x ≡ y) × (after ≡ other) × (size ≡ sizes)

abbrev pub OpenedInC : Type 0
OpenedInC =
    (r : Registers) (e : Extent) (slots : ℕ) (before after : List ℕ) → OpensBook r e slots before 0 after
    → (i : ℕ) → i < slots_most → key_at after i ≡ 0

abbrev pub StruckInC : Type 0
StruckInC = (ws : List ℕ) (start : ℕ) (after : List ℕ) → NoticesBook ws start 0 0 after → (x : ℕ) → get_or after x 0 ≡ get_or ws x 0

abbrev pub PartOfEach : Type 0
PartOfEach =
    (r : Registers) (base : ℕ) (memory x y : Bor (List ℕ)) (request : Request)
    → SteHanded memory x (ste_at r base memory.now request) → SteHanded memory y (ste_at r base memory.now request)
    → (part_says (ste_at r base memory.now request) ≡ no_part → ⊥) → (length x.now ≡ 64) × (x.now ≡ y.now) × (x.ref_ptr.1 ≡ y.ref_ptr.1)

abbrev pub GivenCounts : Type 0
GivenCounts =
    (before : List ℕ) (x y : ℕ) (after other : List ℕ)
    → LooksUp (looked_up small_registers 0 small_memory (stream_zero None)) before x after
    → LooksUp (looked_up small_registers 0 small_memory (stream_zero (Some (record { number = 0 })))) before y other
    → (x ≡ 0) × (y ≡ 0) × (after ≡ other → ⊥)
