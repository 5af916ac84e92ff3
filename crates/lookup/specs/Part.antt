-- The STE handed back (RULES, "What an answer holds": "that very part of the lent memory").
--     SteHanded      what a call hands back, by where the STE lies: start here
--     ste_at         where it lies in the memory, if it is fetched and nothing is refused
--     ste_at_rule    the rule: the same walk, and the same fetch, as the lookup's
--     ste_from       the first descriptor of 64 bytes among those of a list: how the code finds it
-- Assumes: nothing.
use Rattle.std.specs.Prelude.{ℕ, zero, suc, ◌+◌, ◌-◌, ◌^◌, ◌≡◌, List, [], eqb, get_or, take, drop, if◌then◌else◌, Err, None, Ok, Option, Result, Some}
use Rattle.answers.specs.declared.Outcome.{Outcome}
use Rattle.std.specs.Borrow.{Bor}
use Rattle.ids.specs.Ids.{refusal3}
use Rattle.ids.specs.declared.Request.{Request}
use Rattle.registers.specs.Sizes.{refusal1, oas_size}
use Rattle.registers.specs.declared.Registers.{Registers}
use Rattle.memory_image.specs.Extent.{extent_of, refusal2}
use Rattle.memory_image.specs.Words.{bytes}
use Rattle.memory_image.specs.Rule.{Rule, done, fetch, run, and_then}
use Rattle.memory_image.specs.declared.Piece.{Piece}
use Rattle.answers.specs.Pieces.{nothing}
use Rattle.stream_table.specs.StreamTable.{stream_rule}

-- where the STE lies, once its address is known
unfoldable pub place_of : ℕ → Result ℕ Outcome → Rule (Option ℕ)
place_of base (Err outcome) = done None
place_of base (Ok ste) = fetch ste 8 (done None) (λ w. done (Some (ste - base)))

unfoldable pub ste_at_rule : Registers → ℕ → ℕ → Rule (Option ℕ)
ste_at_rule r base stream = and_then (stream_rule r stream) (place_of base)

unfoldable pub ste_at : Registers → ℕ → List ℕ → Request → Option ℕ
ste_at r base memory request =
    if refusal1 r then None
    else if refusal2 (extent_of base memory) then None
    else if refusal3 request then None
    else (run (extent_of base memory) (2 ^ oas_size r) (bytes memory) (ste_at_rule r base request.stream.number)).answer

-- the first piece of 64 bytes, among the next m from i on: its place in the memory
unfoldable pub ste_from : ℕ → List Piece → ℕ → ℕ → Option ℕ
ste_from base pieces zero i = None
ste_from base pieces (suc m) i =
    if eqb (get_or pieces i nothing).length 64 then Some ((get_or pieces i nothing).address - base)
    else ste_from base pieces m (i + 1)

-- the 64 bytes from a place on, or none
abbrev pub ste_bytes : List ℕ → Option ℕ → List ℕ
ste_bytes memory (Some place) = take 64 (drop place memory)
ste_bytes memory None = []

-- an empty part starts where the memory does
abbrev pub ste_start : Option ℕ → ℕ
ste_start (Some place) = place
ste_start None = 0

-- part is that very part of memory: its bytes, and its pointer
pub record SteHanded (memory part : Bor (List ℕ)) (at : Option ℕ) : Type 0 where
  pub contents : part.now ≡ ste_bytes memory.now at
  pub block : part.ref_ptr.0 ≡ memory.ref_ptr.0
  pub offset : part.ref_ptr.1 ≡ memory.ref_ptr.1 + ste_start at
