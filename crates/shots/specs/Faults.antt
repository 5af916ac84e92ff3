-- Fetches that fail, on the figure's bench (RULES, "Shots on the bench": "Fetches that fail"): one table, in the rules' order, with the
-- STE at 0xFFC0 that is fetched ("Others"). The memory ends at 0x10000.
--     faults        the table: start here
-- Each answer but that one's names the address of the descriptor that was to be fetched, which isn't on its list.
-- Assumes: nothing.
use Rattle.std.specs.Prelude.{ℕ, List, [], ◌∷◌, ◌++◌, None}
use Rattle.registers.specs.declared.Registers.{Registers}
use Rattle.answers.specs.Outcome.{f_ste_fetch, f_cd_fetch}
use Rattle.answers.specs.declared.Outcome.TheVariants.{Bypass, Fault}
use Rattle.memory_image.specs.declared.Piece.{Piece}
use Rattle.answers.specs.declared.Outcome.{Outcome}
use Rattle.shots.specs.Shots.{Shot, plain, figure, l1stds, of, piece, substream_shot}

-- the figure's registers with another STRTAB_BASE
abbrev pub table_at : ℕ → Registers
table_at address =
    record {
      idr0 = plain.idr0;
      idr1 = plain.idr1;
      idr5 = plain.idr5;
      cr0 = plain.cr0;
      cr2 = plain.cr2;
      gbpa = plain.gbpa;
      strtab_base = address;
      strtab_base_cfg = plain.strtab_base_cfg;
    }

-- a shot of a stream without a SubstreamID, with bytes put before the figure's
abbrev pub edited : List (ℕ × ℕ) → ℕ → Outcome → List Piece → Shot
edited bytes stream answer list =
    record { registers = plain; memory = bytes ++ figure; request = of stream None; answer = answer; list = list }

-- the STE of stream 768 at 0x4000: V 1, Config 101, S1CDMax 8, S1DSS 0; its first three bytes, with V, Config, S1Fmt and S1ContextPtr, are given
abbrev pub pointed : ℕ → ℕ → ℕ → List (ℕ × ℕ)
pointed first second third = (0x4000, first) ∷ (0x4001, second) ∷ (0x4002, third) ∷ (0x4007, 0x40) ∷ l1stds

abbrev pub faults : List Shot
faults =
    -- L1STD: STRTAB_BASE 0x10000
    record { registers = table_at 0x10000; memory = figure; request = of 768 None; answer = Fault f_ste_fetch 0x10018; list = [] }
    -- STE: its L1STD points at 0xFFC0 with Span 1, where it is fetched, and at 0x10000, where it isn't
    ∷ edited ((0x8018, 0xc1) ∷ (0x8019, 0xff) ∷ (0xffc0, 0x09) ∷ []) 768 (Bypass 0xffc0) (piece 0x8018 8 ∷ piece 0xffc0 64 ∷ [])
    ∷ edited ((0x8019, 0x00) ∷ (0x801a, 0x01) ∷ []) 768 (Fault f_ste_fetch 0x10000) (piece 0x8018 8 ∷ [])
    -- at 0x80000000004000, of which 0x4000 is below the OAS: an STE lies there
    ∷ edited ((0x801e, 0x80) ∷ []) 768 (Fault f_ste_fetch 0x80000000004000) (piece 0x8018 8 ∷ [])
    -- the L1STD of stream 256 with a third byte of 1, and then of 2
    ∷ edited ((0x800a, 0x01) ∷ []) 256 (Fault f_ste_fetch 0x12f00) (piece 0x8008 8 ∷ [])
    ∷ edited ((0x800a, 0x02) ∷ (0x800a, 0x01) ∷ []) 256 (Fault f_ste_fetch 0x22f00) (piece 0x8008 8 ∷ [])
    -- L1CD: S1Fmt 1, S1ContextPtr 0x10000
    ∷ substream_shot (pointed 0x1b 0x00 0x01) 70 (Fault f_cd_fetch 0x10008) (piece 0x8018 8 ∷ piece 0x4000 64 ∷ [])
    -- CD: S1Fmt 0, S1ContextPtr 0xC040
    ∷ substream_shot (pointed 0x4b 0xc0 0x00) 255 (Fault f_cd_fetch 0x10000) (piece 0x8018 8 ∷ piece 0x4000 64 ∷ [])
    ∷ []
