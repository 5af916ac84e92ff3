-- What is claimed of the word that a request is packed into, beyond the contracts. proofs/Claims.antt proves each.
--     PackingLosesNothing   a proper request is read back from its word
--     EqualWordsOnly        two proper requests with equal words are equal
--     OneWordEach           a word that stands for a request is that request's own, and the request is proper
--     NoneIsNotZero         without a SubstreamID and with SubstreamID 0 are two requests, with two words
-- Assumes: nothing.
use Rattle.std.specs.Prelude.{ℕ, ◌≡◌, None, Some}
use Rattle.ids.specs.Packing.{packed, unpacked, request_of, Proper}
use Rattle.ids.specs.declared.Request.{Request}

abbrev pub PackingLosesNothing : Type 0
PackingLosesNothing = (request : Request) → Proper request → unpacked (packed request) ≡ Some request

abbrev pub EqualWordsOnly : Type 0
EqualWordsOnly = (q r : Request) → Proper q → Proper r → packed q ≡ packed r → q ≡ r

abbrev pub OneWordEach : Type 0
OneWordEach =
    (word : ℕ) (request : Request) → unpacked word ≡ Some request → (packed request ≡ word) × Proper request

abbrev pub NoneIsNotZero : Type 0
NoneIsNotZero =
    (stream : ℕ) → packed (request_of stream None) ≡ packed (request_of stream (Some (record { number = 0 }))) → ⊥
