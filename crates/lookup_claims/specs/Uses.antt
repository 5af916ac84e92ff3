-- What follows from the claims. Each needs all of the claim that it names, at its edges, and fails if that is weakened.
-- proofs/Uses.antt proves each from those claims.
--     NothingInNoMemory     ListedLies, ListedFew: a memory of no bytes has nothing to list
--     BelowTheOas           ListedLies, ListedFew: each listed descriptor starts below 2^(OAS size)
--     NothingReadAtEdge     NothingRead: a StreamID of exactly 2^LOG2SIZE reads nothing
--     LookAtWhatYouLent     FaultSaysWhich: the address that an answer names is below the memory, or within 64 bytes of its end or of 2^(OAS size),
--                           or above
--     WantedNotListed       FaultSaysWhich, ListedLies: the descriptor that was wanted is not on the list
--     FaultStandsAnywhere   AnyAddressStands, KeptIsReadBack: the words of a proper fault stand with any other address
-- Assumes: nothing.
use Rattle.std.specs.Prelude.{ℕ, ◌+◌, ◌^◌, ◌<◌, ◌≡◌, true, List, [], ◌∷◌, ◌⊎◌, length, set, Ok}
use Rattle.ids.specs.declared.Request.{Request}
use Rattle.registers.specs.Sizes.{oas_size}
use Rattle.registers.specs.declared.Registers.{Registers}
use Rattle.memory_image.specs.declared.Piece.{Piece}
use Rattle.answers.specs.Layout.{values_at}
use Rattle.answers.specs.Pieces.{none, EachPiece}
use Rattle.answers.specs.Proper.{ProperAnswer}
use Rattle.answers.specs.declared.Outcome.TheVariants.{Fault}
use Rattle.answers.specs.declared.Pieces.{Pieces}
use Rattle.answer_words.specs.AnswerWords.{words_of, stands}
use Rattle.stream_table.specs.StreamTable.{log2}
use Rattle.lookup.specs.Lookup.{looked_up}
use Rattle.lookup_claims.specs.Failed.{not_fetched}

abbrev pub NothingInNoMemory : Type 0
NothingInNoMemory = (r : Registers) (base : ℕ) (request : Request) → (looked_up r base [] request).list.count ≡ 0

abbrev pub BelowTheOas : Type 0
BelowTheOas =
    (r : Registers) (base : ℕ) (memory : List ℕ) (request : Request)
    → EachPiece (λ p. p.address < 2 ^ oas_size r) (looked_up r base memory request).list

abbrev pub NothingReadAtEdge : Type 0
NothingReadAtEdge =
    (r : Registers) (base : ℕ) (memory : List ℕ) (request : Request) → request.stream.number ≡ 2 ^ log2 r
    → (looked_up r base memory request).list ≡ none

abbrev pub LookAtWhatYouLent : Type 0
LookAtWhatYouLent =
    (r : Registers) (base : ℕ) (memory : List ℕ) (request : Request) (event address : ℕ)
    → (looked_up r base memory request).answer ≡ Ok (Fault event address)
    → (address < base) ⊎ ((base + length memory < address + 64) ⊎ (2 ^ oas_size r < address + 64))

abbrev pub WantedNotListed : Type 0
WantedNotListed =
    (r : Registers) (base : ℕ) (memory : List ℕ) (request : Request) (event address : ℕ)
    → (looked_up r base memory request).answer ≡ Ok (Fault event address) → (p : Piece) → not_fetched r base memory request ≡ p ∷ []
    → (p.address ≡ address) × EachPiece (λ q. q ≡ p → ⊥) (looked_up r base memory request).list

abbrev pub FaultStandsAnywhere : Type 0
FaultStandsAnywhere =
    (event address other : ℕ) (l : Pieces) → ProperAnswer (Fault event address) l
    → stands (set (words_of (Fault event address) l) (values_at + 1) other) ≡ true
