-- The registers as words: those of 32 bits in one order, and STRTAB_BASE by itself. A book's header and a C caller have them so.
--     register_words        how many registers have 32 bits
--     registers_from        the registers, from their words
--     words_of_registers    the words of those of 32 bits
-- Ours: the order.
-- Assumes: nothing.
use Rattle.std.specs.Prelude.{ℕ, List, [], ◌∷◌, get_or}
use Rattle.registers.specs.declared.Registers.{Registers}

abbrev pub register_words : ℕ
register_words = 7

-- IDR0, IDR1, IDR5, CR0, CR2, GBPA, STRTAB_BASE_CFG; and STRTAB_BASE
abbrev pub registers_from : List ℕ → ℕ → Registers
registers_from words base =
    record {
      idr0 = get_or words 0 0;
      idr1 = get_or words 1 0;
      idr5 = get_or words 2 0;
      cr0 = get_or words 3 0;
      cr2 = get_or words 4 0;
      gbpa = get_or words 5 0;
      strtab_base = base;
      strtab_base_cfg = get_or words 6 0;
    }

abbrev pub words_of_registers : Registers → List ℕ
words_of_registers r =
    r.idr0 ∷ (r.idr1 ∷ (r.idr5 ∷ (r.cr0 ∷ (r.cr2 ∷ (r.gbpa ∷ (r.strtab_base_cfg ∷ []))))))
