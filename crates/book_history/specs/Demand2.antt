-- Demand 2, sentence by sentence. proofs/Demand2.antt proves each under its own name.
--     AnswerOfTheRules       "For every request not refused the answer is the rules', with the list of descriptors read."
--     EachLies               "Each lies in the memory given";
--     OutsideNeverCounts     "bytes outside it never change the answer."
-- That bytes of the memory which aren't listed don't either is `DependsOnList` (lookup_claims/specs/Claims.antt).
-- Assumes: nothing.
use Rattle.std.specs.Prelude.{ℕ, ◌+◌, ◌≤◌, ◌<◌, ◌≡◌, List, length, Ok}
use Rattle.placed.specs.From.{tab}
use Rattle.ids.specs.declared.Request.{Request}
use Rattle.registers.specs.declared.Registers.{Registers}
use Rattle.answers.specs.Pieces.{EachPiece}
use Rattle.answers.specs.declared.Outcome.{Outcome}
use Rattle.lookup.specs.Lookup.{looked_up, answered, ruled}
use Rattle.lookup.specs.declared.Looked.{Looked}

-- `lookup` promises `told ≡ looked_up ..`; `ruled` runs the rules of docs/RULES.md on the memory
abbrev pub AnswerOfTheRules : Type 0
AnswerOfTheRules =
    (r : Registers) (base : ℕ) (memory : List ℕ) (request : Request) (told : Looked) → told ≡ looked_up r base memory request
    → (outcome : Outcome) → told.answer ≡ Ok outcome → told ≡ answered (ruled r base memory request)

abbrev pub EachLies : Type 0
EachLies =
    (r : Registers) (base : ℕ) (memory : List ℕ) (request : Request) (told : Looked) → told ≡ looked_up r base memory request
    → EachPiece (λ p. (base ≤ p.address) × (p.address + p.length ≤ base + length memory)) told.list

-- so many bytes, from a base on, of a memory that has one at every address
abbrev pub lent : ℕ → ℕ → (ℕ → ℕ) → List ℕ
lent base size bytes = tab size (λ j. bytes (base + j))

abbrev pub OutsideNeverCounts : Type 0
OutsideNeverCounts =
    (r : Registers) (base size : ℕ) (request : Request) (f g : ℕ → ℕ) → ((a : ℕ) → base ≤ a → a < base + size → f a ≡ g a)
    → looked_up r base (lent base size f) request ≡ looked_up r base (lent base size g) request
