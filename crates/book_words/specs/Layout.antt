-- The book's words: a header, one column of keys, a block for each slot.
--     slots_most, book_words                         the sizes
--     registers_at .. keys_from, blocks_from         where each part stands
--     slots_of, registers_of, base_of, length_of     the header, as read; `extent_held` is base and length in one
--     key_at, block_at                               the key and the block of a slot
--     key_of                                         the key of a request: 0 is an empty slot's
--     copied, kept_at                                words written from a place on; a slot filled
--     opened_with                                    a book just opened
--     other_extent                                   refusal 6
-- Assumes: nothing.
use Rattle.std.specs.Prelude.{ℕ, zero, suc, ◌+◌, ◌*◌, ◌%◌, ◌^◌, Bool, not, ◌&&◌, List, [], ◌∷◌, ◌++◌, eqb, get_or, set, replicate}
use Rattle.ids.specs.Packing.{packed}
use Rattle.ids.specs.declared.Request.{Request}
use Rattle.placed.specs.From.{tab}
use Rattle.registers.specs.Words.{register_words, registers_from, words_of_registers}
use Rattle.registers.specs.declared.Registers.{Registers}
use Rattle.memory_image.specs.declared.Extent.{Extent}
use Rattle.answers.specs.Layout.{answer_words}

abbrev pub slots_most : ℕ
slots_most = 64

-- the header: word 0 is the number of slots; then the registers of 32 bits, STRTAB_BASE, the memory's base and its length
abbrev pub registers_at : ℕ
registers_at = 1

abbrev pub strtab_base_at : ℕ
strtab_base_at = registers_at + register_words

abbrev pub base_at : ℕ
base_at = strtab_base_at + 1

abbrev pub length_at : ℕ
length_at = base_at + 1

abbrev pub keys_from : ℕ
keys_from = length_at + 1

abbrev pub blocks_from : ℕ
blocks_from = keys_from + slots_most

abbrev pub book_words : ℕ
book_words = blocks_from + slots_most * answer_words

abbrev pub slots_of : List ℕ → ℕ
slots_of ws = get_or ws 0 0

-- a register's word, as its 32 bits hold it
abbrev pub low_word : ℕ → ℕ
low_word word = word % 2 ^ 32

unfoldable pub registers_of : List ℕ → Registers
registers_of ws =
    registers_from (tab register_words (λ j. low_word (get_or ws (registers_at + j) 0))) (get_or ws strtab_base_at 0)

abbrev pub base_of : List ℕ → ℕ
base_of ws = get_or ws base_at 0

abbrev pub length_of : List ℕ → ℕ
length_of ws = get_or ws length_at 0

abbrev pub extent_held : List ℕ → Extent
extent_held ws = record { base = base_of ws; length = length_of ws }

abbrev pub key_at : List ℕ → ℕ → ℕ
key_at ws i = get_or ws (keys_from + i) 0

abbrev pub block_from : ℕ → ℕ
block_from i = blocks_from + answer_words * i

unfoldable pub block_at : List ℕ → ℕ → List ℕ
block_at ws i = tab answer_words (λ j. get_or ws (block_from i + j) 0)

abbrev pub key_of : Request → ℕ
key_of request = packed request + 1

-- ws with m words of vs, those from j on, at b + j and on
unfoldable pub copied : List ℕ → ℕ → List ℕ → ℕ → ℕ → List ℕ
copied ws b vs zero j = ws
copied ws b vs (suc m) j = copied (set ws (b + j) (get_or vs j 0)) b vs m (j + 1)

-- ws with slot i holding a key and a block
abbrev pub kept_at : List ℕ → ℕ → ℕ → List ℕ → List ℕ
kept_at ws i key block = copied (set ws (keys_from + i) key) (block_from i) block answer_words 0

-- every word of a book that is opened: the header, and all slots empty
abbrev pub header_with : Registers → Extent → ℕ → List ℕ
header_with r e slots = slots ∷ (words_of_registers r ++ (r.strtab_base ∷ (e.base ∷ (e.length ∷ []))))

unfoldable pub opened_with : Registers → Extent → ℕ → List ℕ
opened_with r e slots = header_with r e slots ++ replicate (slots_most + slots_most * answer_words) 0

-- the memory that an ask is handed is not the one that the book was opened with: refusal 6
abbrev pub other_extent : List ℕ → ℕ → ℕ → Bool
other_extent ws base size = not (eqb base (base_of ws) && eqb size (length_of ws))
