-- What is claimed of the lookup beyond the contracts: demand 2. proofs/Claims.antt proves each under its own name.
--     DependsOnList      two memories of one base and length that agree on the listed bytes give the same answer and list
--     ListedLies         each listed descriptor lies in the memory and ends at or below 2^(OAS size)
--     ListedFew          at most four descriptors are listed, each of 8 or 64 bytes
--     RefusedExactly     each refusal is given exactly when its row of the table says, in the order 1, 2, 3
--     OneAnswer, OnePart any two results that a promise allows for one input are equal
--     FaultSaysWhich     a fault names the address of the one descriptor that wasn't fetched; without a fault every one was
--     NothingRead        nothing is read where SMMUEN is 0 or the StreamID is out of range
--     AnswersProper      every answer is proper: its fields have their widths, its numbers are listed, its list is short and below 2^52
--     NoneIsNotZero      a request without a SubstreamID and one with SubstreamID 0 get different answers, on concrete tables
--     KeptIsReadBack     an outcome with its own event, a fault's address with it, and a list are read back from the words that a book keeps,
--                        and the words of a lookup's answer stand
--     AnyAddressStands   whether an abort's words stand does not hang on the word of the address
-- Assumes: nothing.
use Rattle.std.specs.Prelude.{ℕ, ◌+◌, ◌^◌, ◌≤◌, ◌≡◌, true, false, List, [], ◌∷◌, ◌⊎◌, length, replicate, get_or, set, None, Ok, Option, Some}
use Rattle.answers.specs.declared.refusals.Refusal.TheVariants as refusal
use Rattle.ids.specs.declared.SubstreamId.{SubstreamId}
use Rattle.std.specs.Borrow.{Bor}
use Rattle.ids.specs.Ids.{refusal3}
use Rattle.ids.specs.declared.Request.{Request}
use Rattle.registers.specs.Fields.{smmu_en}
use Rattle.registers.specs.Sizes.{refusal1, oas_size}
use Rattle.registers.specs.Words.{registers_from}
use Rattle.registers.specs.declared.Registers.{Registers}
use Rattle.memory_image.specs.Extent.{extent_of, refusal2}
use Rattle.memory_image.specs.Rule.{Agree, Lies}
use Rattle.memory_image.specs.Words.{bytes}
use Rattle.memory_image.specs.declared.Piece.{Piece}
use Rattle.answers.specs.Layout.{pieces_most, kind_at, values_at}
use Rattle.answers.specs.Pieces.{none, EachPiece}
use Rattle.answers.specs.Proper.{ProperAnswer}
use Rattle.answers.specs.declared.Outcome.{Outcome}
use Rattle.answers.specs.declared.Outcome.TheVariants.{Abort, Bypass, Fault}
use Rattle.answers.specs.declared.Pieces.{Pieces}
use Rattle.answer_words.specs.AnswerWords.{words_of, own_event, outcome_of, list_of, stands}
use Rattle.stream_table.specs.StreamTable.{log2}
use Rattle.lookup.specs.Lookup.{looked_up, refused_with, answered, ruled}
use Rattle.lookup.specs.Part.{SteHanded}
use Rattle.lookup.specs.declared.Looked.{Looked}
use Rattle.lookup_claims.specs.Failed.{not_fetched, Wanted}

abbrev pub DependsOnList : Type 0
DependsOnList =
    (r : Registers) (base : ℕ) (memory other : List ℕ) (request : Request) → length other ≡ length memory
    → EachPiece (Agree (extent_of base memory) (bytes memory) (bytes other)) (looked_up r base memory request).list
    → looked_up r base other request ≡ looked_up r base memory request

abbrev pub ListedLies : Type 0
ListedLies =
    (r : Registers) (base : ℕ) (memory : List ℕ) (request : Request)
    → EachPiece (Lies (extent_of base memory) (2 ^ oas_size r)) (looked_up r base memory request).list

-- an L1STD and an L1CD are 8 bytes long, an STE and a CD 64
abbrev pub DescriptorLong : Piece → Type 0
DescriptorLong p = (p.length ≡ 8) ⊎ (p.length ≡ 64)

abbrev pub ListedFew : Type 0
ListedFew =
    (r : Registers) (base : ℕ) (memory : List ℕ) (request : Request)
    → ((looked_up r base memory request).list.count ≤ pieces_most)
    × EachPiece DescriptorLong (looked_up r base memory request).list

-- the four cases leave none out, and no two of them meet
pub record RefusedExactly (r : Registers) (base : ℕ) (memory : List ℕ) (request : Request) : Type 0 where
  pub first : refusal1 r ≡ true → looked_up r base memory request ≡ refused_with refusal.Registers
  pub second : refusal1 r ≡ false → refusal2 (extent_of base memory) ≡ true → looked_up r base memory request ≡ refused_with refusal.Memory
  pub third :
      refusal1 r ≡ false → refusal2 (extent_of base memory) ≡ false → refusal3 request ≡ true
      → looked_up r base memory request ≡ refused_with refusal.Substream
  pub answer :
      refusal1 r ≡ false → refusal2 (extent_of base memory) ≡ false → refusal3 request ≡ false
      → looked_up r base memory request ≡ answered (ruled r base memory request)

abbrev pub OneAnswer : Type 0
OneAnswer =
    (r : Registers) (base : ℕ) (memory : List ℕ) (request : Request) (x y : Looked)
    → x ≡ looked_up r base memory request → y ≡ looked_up r base memory request → x ≡ y

abbrev pub OnePart : Type 0
OnePart =
    (memory x y : Bor (List ℕ)) (at : Option ℕ) → SteHanded memory x at → SteHanded memory y at
    → (x.now ≡ y.now) × (x.ref_ptr.0 ≡ y.ref_ptr.0) × (x.ref_ptr.1 ≡ y.ref_ptr.1)

-- a lookup that isn't refused: a fault names the one descriptor that wasn't fetched, and where every one was there is no fault
pub record FaultSaysWhich (r : Registers) (base : ℕ) (memory : List ℕ) (request : Request) : Type 0 where
  pub named :
      (event address : ℕ) → (looked_up r base memory request).answer ≡ Ok (Fault event address)
      → Wanted (extent_of base memory) (2 ^ oas_size r) (not_fetched r base memory request) address
  pub unnamed :
      (outcome : Outcome) → (looked_up r base memory request).answer ≡ Ok outcome
      → ((event address : ℕ) → outcome ≡ Fault event address → ⊥) → not_fetched r base memory request ≡ []

abbrev pub NothingRead : Type 0
NothingRead =
    (r : Registers) (base : ℕ) (memory : List ℕ) (request : Request)
    → (smmu_en r ≡ 0) ⊎ (2 ^ log2 r ≤ request.stream.number) → (looked_up r base memory request).list ≡ none

abbrev pub AnswersProper : Type 0
AnswersProper =
    (r : Registers) (base : ℕ) (memory : List ℕ) (request : Request) (outcome : Outcome) (l : Pieces)
    → looked_up r base memory request ≡ record { answer = Ok outcome; list = l } → ProperAnswer outcome l

-- one STE of 64 bytes, V 1 and Config 100, in a linear table of one entry at address 0, with a 32-bit OAS: CR0 is 1, and every other register 0
abbrev pub small_registers : Registers
small_registers = registers_from (0 ∷ (0 ∷ (0 ∷ (1 ∷ [])))) 0

abbrev pub small_memory : List ℕ
small_memory = 9 ∷ replicate 63 0

abbrev pub stream_zero : Option SubstreamId → Request
stream_zero substream = record { stream = record { number = 0 }; substream = substream }

abbrev pub NoneIsNotZero : Type 0
NoneIsNotZero =
    ((looked_up small_registers 0 small_memory (stream_zero None)).answer ≡ Ok (Bypass 0))
    × ((looked_up small_registers 0 small_memory (stream_zero (Some (record { number = 0 })))).answer ≡ Ok (Abort 8))

pub record KeptIsReadBack (outcome : Outcome) (l : Pieces) : Type 0 where
  pub same_outcome : own_event outcome ≡ true → outcome_of (words_of outcome l) ≡ outcome
  pub same_list : length l.piece ≡ pieces_most → list_of (words_of outcome l) ≡ l
  pub standing : ProperAnswer outcome l → stands (words_of outcome l) ≡ true

abbrev pub AnyAddressStands : Type 0
AnyAddressStands = (ws : List ℕ) (address : ℕ) → get_or ws kind_at 0 ≡ 4 → stands (set ws (values_at + 1) address) ≡ stands ws
