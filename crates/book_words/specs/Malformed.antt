-- Refusal 7, item by item (RULES, "When the bench says no": row 7, and what stands below the table).
--     refusal7        the whole row: start here
--     slot_well       what is asked of one slot
--     first_from      the lowest slot with a key
-- Assumes: nothing.
use Rattle.std.specs.Prelude.{ℕ, zero, suc, ◌+◌, ◌-◌, Bool, true, false, not, List, eqb, leb, ltb, get_or, if◌then◌else◌, None, Option, Some}
use Rattle.ids.specs.declared.Request.{Request}
use Rattle.bit_fields.specs.Bits.{in_bits}
use Rattle.ids.specs.Packing.{unpacked}
use Rattle.placed.specs.From.{all_from}
use Rattle.registers.specs.Sizes.{refusal1}
use Rattle.registers.specs.Words.{register_words}
use Rattle.memory_image.specs.Extent.{refusal2}
use Rattle.answer_words.specs.AnswerWords.{stands}
use Rattle.book_words.specs.Layout.{slots_most, registers_at, slots_of, registers_of, extent_held, key_at, block_at}

-- the lowest slot from i, among the next m, whose key is x; else i + m
unfoldable pub first_from : List ℕ → ℕ → ℕ → ℕ → ℕ
first_from ws x zero i = i
first_from ws x (suc m) i =
    if eqb (key_at ws i) x then i
    else first_from ws x m (i + 1)

-- a word stands for a request
abbrev pub some_request : Option Request → Bool
some_request (Some request) = true
some_request None = false

-- a slot is empty; or it isn't past the number of slots, its key stands for a request that doesn't fail 3, no slot before it has the same one,
-- and its words stand for an answer: at most pieces_most pieces, each ending at or below 2^52, an event or unserved number that is listed
unfoldable pub slot_well : List ℕ → ℕ → Bool
slot_well ws i =
    if eqb (key_at ws i) 0 then true
    else if leb (slots_of ws) i then false
    else if not (some_request (unpacked (key_at ws i - 1))) then false
    else if not (eqb (first_from ws (key_at ws i) slots_most 0) i) then false
    else stands (block_at ws i)

abbrev pub well_from : List ℕ → ℕ → ℕ → Bool
well_from ws m i = all_from (slot_well ws) m i

-- a register's word stands for a value of 32 bits
abbrev pub register_fits : List ℕ → ℕ → Bool
register_fits ws j = in_bits (get_or ws (registers_at + j) 0) 32

-- those of all registers of 32 bits do
abbrev pub registers_fit : List ℕ → Bool
registers_fit ws = all_from (register_fits ws) register_words 0

-- slots not 1 to slots_most; a register's word that stands for none; registers or memory extent that fail 1 or 2; a slot that isn't well
unfoldable pub refusal7 : List ℕ → Bool
refusal7 ws =
    if eqb (slots_of ws) 0 then true
    else if ltb slots_most (slots_of ws) then true
    else if not (registers_fit ws) then true
    else if refusal1 (registers_of ws) then true
    else if refusal2 (extent_held ws) then true
    else not (well_from ws slots_most 0)
