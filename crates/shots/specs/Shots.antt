-- The shots on the bench (RULES, "Shots on the bench"; 004's figure): one table, in the rules' order.
--     shots       the table: start here
--     Shot        registers, the bytes of the memory that aren't 0, a request, and the answer and list that the rules give
--     given       what the rules give
-- Assumes: nothing.
use Rattle.std.specs.Prelude.{ℕ, ◌+◌, ◌*◌, ◌^◌, List, [], ◌∷◌, ◌++◌, eqb, ltb, if◌then◌else◌, None, Option, Some}
use Rattle.ids.specs.declared.SubstreamId.{SubstreamId}
use Rattle.ids.specs.declared.Request.{Request}
use Rattle.registers.specs.Sizes.{oas_size}
use Rattle.registers.specs.declared.Registers.{Registers}
use Rattle.memory_image.specs.declared.Extent.{Extent}
use Rattle.memory_image.specs.Rule.{Ran, run}
use Rattle.memory_image.specs.declared.Piece.{Piece}
use Rattle.answers.specs.Outcome.{c_bad_stream_id, c_bad_substream_id}
use Rattle.answers.specs.declared.Outcome.{Outcome}
use Rattle.answers.specs.declared.Outcome.TheVariants.{Translate, Bypass, Abort}
use Rattle.lookup.specs.Lookup.{lookup_rule}

pub record Shot : Type 0 where
  pub registers : Registers
  -- address and byte
  pub memory : List (ℕ × ℕ)
  pub request : Request
  pub answer : Outcome
  pub list : List Piece

-- SMMUEN 1, OAS 5, CFG 0x1020A, STRTAB_BASE 0x8000, RECINVSID 1; IDR0 and IDR1 as a shot has them
abbrev pub bench : ℕ → ℕ → Registers
bench idr0 idr1 =
    record {
      idr0 = idr0;
      idr1 = idr1;
      idr5 = 5;
      cr0 = 1;
      cr2 = 2;
      gbpa = 0;
      strtab_base = 0x8000;
      strtab_base_cfg = 0x1020a;
    }

-- ST_LEVEL 1, SIDSIZE 16
abbrev pub plain : Registers
plain = bench 0x8000000 16

-- with S1P 1, TTF 2, CD2L 1, HYP 0, SSIDSIZE 8
abbrev pub stage1 : Registers
stage1 = bench 0x808000a 0x210

-- L1STDs: 0x1000 Span 9; 0x2F20 Span 3; Span 0; 0x4000 Span 1
abbrev pub l1stds : List (ℕ × ℕ)
l1stds = (0x8000, 0x09) ∷ (0x8001, 0x10) ∷ (0x8008, 0x23) ∷ (0x8009, 0x2f) ∷ (0x8018, 0x01) ∷ (0x8019, 0x40) ∷ []

-- every STE starts with 0x09
abbrev pub figure : List (ℕ × ℕ)
figure = (0x0, 0x09) ∷ (0x3fc0, 0x09) ∷ (0x2f00, 0x09) ∷ (0x2fc0, 0x09) ∷ (0x4000, 0x09) ∷ l1stds

-- the STE at 0x4000 with V 1, Config 101, an S1Fmt, S1ContextPtr 0xC000, S1CDMax 8 and S1DSS 0
abbrev pub ste_of : ℕ → List (ℕ × ℕ)
ste_of format = (0x4000, 0x0b + 16 * format) ∷ (0x4001, 0xc0) ∷ (0x4007, 0x40) ∷ l1stds

-- the CD word 0x20080004000 (EPD0, V, AA64) at an address, then zeros
abbrev pub cd_of : ℕ → List (ℕ × ℕ)
cd_of at = (at + 1, 0x40) ∷ (at + 3, 0x80) ∷ (at + 5, 0x02) ∷ []

-- an L1CD at an address: V 1 and L2Ptr 0xA000
abbrev pub l1cd_of : ℕ → List (ℕ × ℕ)
l1cd_of at = (at, 0x01) ∷ (at + 1, 0xa0) ∷ []

abbrev pub of : ℕ → Option SubstreamId → Request
of stream substream = record { stream = record { number = stream }; substream = substream }

abbrev pub piece : ℕ → ℕ → Piece
piece address length = record { address = address; length = length }

-- a shot of the figure, without a SubstreamID
abbrev pub shot : ℕ → Outcome → List Piece → Shot
shot stream answer list = record { registers = plain; memory = figure; request = of stream None; answer = answer; list = list }

-- a shot of stream 768 with a SubstreamID
abbrev pub substream_shot : List (ℕ × ℕ) → ℕ → Outcome → List Piece → Shot
substream_shot memory n answer list =
    record { registers = stage1; memory = memory; request = of 768 (Some (record { number = n })); answer = answer; list = list }

-- each CD found translates: EPD0 1, an effective IPS of 32 bits, and nothing else
abbrev pub translates : ℕ → Outcome
translates cd =
    Translate (record { ste = 0x4000; cd = cd; asid = 0; t0sz = 0; tg0 = 0; epd0 = 1; ips = 32; ttb0 = 0 })

abbrev pub shots : List Shot
shots =
    shot 0 (Bypass 0x0) (piece 0x8000 8 ∷ piece 0x0 64 ∷ [])  -- P1
    ∷ shot 255 (Bypass 0x3fc0) (piece 0x8000 8 ∷ piece 0x3fc0 64 ∷ [])  -- P2
    ∷ shot 256 (Bypass 0x2f00) (piece 0x8008 8 ∷ piece 0x2f00 64 ∷ [])  -- P3
    ∷ shot 259 (Bypass 0x2fc0) (piece 0x8008 8 ∷ piece 0x2fc0 64 ∷ [])  -- P4
    ∷ shot 260 (Abort c_bad_stream_id) (piece 0x8008 8 ∷ [])  -- P5
    ∷ shot 512 (Abort c_bad_stream_id) (piece 0x8010 8 ∷ [])  -- P6
    ∷ shot 768 (Bypass 0x4000) (piece 0x8018 8 ∷ piece 0x4000 64 ∷ [])  -- P7
    ∷ shot 769 (Abort c_bad_stream_id) (piece 0x8018 8 ∷ [])  -- P8
    ∷ shot 1024 (Abort c_bad_stream_id) []  -- P9
    ∷ shot 188 (Bypass 0x2f00) (piece 0x8000 8 ∷ piece 0x2f00 64 ∷ [])  -- P10, with P3
    ∷ substream_shot (ste_of 0 ++ cd_of 0xffc0) 255 (translates 0xffc0) (piece 0x8018 8 ∷ piece 0x4000 64 ∷ piece 0xffc0 64 ∷ [])  -- P11
    ∷ substream_shot (ste_of 0) 256 (Abort c_bad_substream_id) (piece 0x8018 8 ∷ piece 0x4000 64 ∷ [])  -- P12
    ∷ substream_shot (ste_of 1 ++ (l1cd_of 0xc008 ++ cd_of 0xa180)) 70 (translates 0xa180)
    (piece 0x8018 8 ∷ piece 0x4000 64 ∷ piece 0xc008 8 ∷ piece 0xa180 64 ∷ [])  -- P13
    ∷ substream_shot (ste_of 2 ++ (l1cd_of 0xc000 ++ cd_of 0xb180)) 70 (translates 0xb180)
    (piece 0x8018 8 ∷ piece 0x4000 64 ∷ piece 0xc000 8 ∷ piece 0xb180 64 ∷ [])  -- P14
    ∷ []

-- the byte at an address: the listed one, or 0
abbrev pub byte_of : List (ℕ × ℕ) → ℕ → ℕ
byte_of [] a = 0
byte_of (b ∷ bs) a = if eqb b.0 a then b.1 else byte_of bs a

-- memory 0 to 0xFFFF
abbrev pub whole : Extent
whole = record { base = 0; length = 0x10000 }

-- the bytes below n, and 0 from there on
abbrev pub clip : ℕ → (ℕ → ℕ) → ℕ → ℕ
clip n f i = if ltb i n then f i else 0

-- what the rules give of a shot, and what they say of it on the bench
abbrev pub given : Shot → Ran Outcome
given s = run whole (2 ^ oas_size s.registers) (clip 0x10000 (byte_of s.memory)) (lookup_rule s.registers s.request)

abbrev pub expected : Shot → Ran Outcome
expected s = record { answer = s.answer; list = s.list }
