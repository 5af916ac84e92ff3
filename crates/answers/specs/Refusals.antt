-- The numbers of the refusals (RULES, "When the bench says no").
--     refusal_number    a row of the table by its number
-- Assumes: nothing.
use Rattle.std.specs.Prelude.{ℕ}
use Rattle.answers.specs.declared.refusals.Refusal.{Refusal}
use Rattle.answers.specs.declared.refusals.Refusal.TheVariants.{Registers, Memory, Substream, Slots, Notice, OtherMemory, Malformed, Room}

abbrev pub refusal_number : Refusal → ℕ
refusal_number Registers = 1
refusal_number Memory = 2
refusal_number Substream = 3
refusal_number Slots = 4
refusal_number Notice = 5
refusal_number OtherMemory = 6
refusal_number Malformed = 7
refusal_number Room = 8
