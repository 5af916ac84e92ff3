-- The whole lookup (RULES, "When the bench says no", "From StreamID to STE" to "What an answer holds").
--     looked_up        what a call answers, with its list, for every input, the refusals in their order: start here
--     lookup_rule      the rules of the four stages as one
--     LooksUp          the same into an answer's words, by its number
--     LooksInto        the same, by the refusal
--     from_ste, from_entry, from_cd  how it goes on from where the STE is, from what it says, from where the CD is
-- Assumes: nothing.
use Rattle.std.specs.Prelude.{ℕ, ◌^◌, ◌≡◌, List, if◌then◌else◌, Err, Ok, Option, Result, ⊤}
use Rattle.ids.specs.declared.SubstreamId.{SubstreamId}
use Rattle.answers.specs.Refusals.{refusal_number}
use Rattle.answers.specs.declared.refusals.Refusal.{Refusal}
use Rattle.answers.specs.declared.refusals.Refusal.TheVariants as refusal
use Rattle.ids.specs.Ids.{refusal3}
use Rattle.ids.specs.declared.Request.{Request}
use Rattle.registers.specs.Sizes.{refusal1, oas_size}
use Rattle.registers.specs.declared.Registers.{Registers}
use Rattle.memory_image.specs.Extent.{extent_of, refusal2}
use Rattle.memory_image.specs.Words.{bytes}
use Rattle.memory_image.specs.Rule.{Rule, done, fetch, Ran, run, and_then}
use Rattle.answers.specs.Outcome.{f_ste_fetch, f_cd_fetch}
use Rattle.answers.specs.Pieces.{none, pieces_of}
use Rattle.answers.specs.declared.Outcome.{Outcome}
use Rattle.answers.specs.declared.Outcome.TheVariants.{Fault}
use Rattle.answers.specs.declared.Pieces.{Pieces}
use Rattle.answer_words.specs.AnswerWords.{words_of}
use Rattle.stream_table.specs.StreamTable.{stream_rule}
use Rattle.stream_entry.specs.StreamEntry.{ste_rule}
use Rattle.context_table.specs.ContextTable.{context_rule}
use Rattle.context_entry.specs.ContextEntry.{cd_rule}
use Rattle.lookup.specs.declared.Looked.{Looked}

-- the CD is 64 bytes; a fetch that fails is F_CD_FETCH with the CD's address
unfoldable pub from_cd : Registers → ℕ → Result ℕ Outcome → Rule Outcome
from_cd r ste (Err outcome) = done outcome
from_cd r ste (Ok cd) = fetch cd 8 (done (Fault f_cd_fetch cd)) (λ w. done (cd_rule r ste cd w))

-- from what the STE says, with its words
unfoldable pub from_entry : Registers → ℕ → (ℕ → ℕ) → Result ℕ Outcome → Rule Outcome
from_entry r ste w (Err outcome) = done outcome
from_entry r ste w (Ok index) = and_then (context_rule r w index) (from_cd r ste)

-- the STE is 64 bytes; a fetch that fails is F_STE_FETCH with the STE's address
unfoldable pub from_ste : Registers → Option SubstreamId → Result ℕ Outcome → Rule Outcome
from_ste r substream (Err outcome) = done outcome
from_ste r substream (Ok ste) =
    fetch ste 8 (done (Fault f_ste_fetch ste)) (λ w. from_entry r ste w (ste_rule r substream ste w))

unfoldable pub lookup_rule : Registers → Request → Rule Outcome
lookup_rule r request = and_then (stream_rule r request.stream.number) (from_ste r request.substream)

-- what the rules give on a lent memory
unfoldable pub ruled : Registers → ℕ → List ℕ → Request → Ran Outcome
ruled r base memory request = run (extent_of base memory) (2 ^ oas_size r) (bytes memory) (lookup_rule r request)

-- a refusal carries its number and nothing else
abbrev pub refused_with : Refusal → Looked
refused_with n = record { answer = Err n; list = none }

abbrev pub answered : Ran Outcome → Looked
answered ran = record { answer = Ok ran.answer; list = pieces_of ran.list }

unfoldable pub looked_up : Registers → ℕ → List ℕ → Request → Looked
looked_up r base memory request =
    if refusal1 r then refused_with refusal.Registers
    else if refusal2 (extent_of base memory) then refused_with refusal.Memory
    else if refusal3 request then refused_with refusal.Substream
    else answered (ruled r base memory request)

-- a lookup into an answer's words: 0 and all of them; or a refusal's number, and the words as they were
unfoldable pub answer_says : Result Outcome Refusal → ℕ
answer_says (Err n) = refusal_number n
answer_says (Ok outcome) = 0

unfoldable pub answer_put : Result Outcome Refusal → Pieces → List ℕ → List ℕ
answer_put (Err n) list before = before
answer_put (Ok outcome) list before = words_of outcome list

pub record LooksUp (looked : Looked) (before : List ℕ) (says : ℕ) (after : List ℕ) : Type 0 where
  pub result : says ≡ answer_says looked.answer
  pub words : after ≡ answer_put looked.answer looked.list before

-- the same, by the refusal itself
unfoldable pub answer_told : Result Outcome Refusal → Result ⊤ Refusal
answer_told (Err n) = Err n
answer_told (Ok outcome) = Ok tt

pub record LooksInto (looked : Looked) (before : List ℕ) (says : Result ⊤ Refusal) (after : List ℕ) : Type 0 where
  pub result : says ≡ answer_told looked.answer
  pub words : after ≡ answer_put looked.answer looked.list before
