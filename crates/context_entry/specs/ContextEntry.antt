-- What a CD says (RULES, "From SubstreamID to CD", second half; 003, 5.4).
--     cd_rule            in order: start here
--     v .. ttb0          the fields, by 003's names
--     half_fits          the granule and range rule, of either half of the address space
--     effective_ips      the size of intermediate addresses, in bits
-- Ours: T0SZ is 16 to 39, with no small tables and no 52-bit inputs; IPS 7 counts as the OAS; TTB0's top four bits are read, which 003 calls RES0.
-- Assumes: nothing.
use Rattle.std.specs.Prelude.{ℕ, ◌*◌, ◌^◌, min, Bool, ◌&&◌, eqb, leb, if◌then◌else◌}
use Rattle.bit_fields.specs.Bits.{bits, bits_of, in_bits}
use Rattle.registers.specs.Fields.{ttf, gran4k, gran16k, gran64k}
use Rattle.registers.specs.Sizes.{size_of, oas_size}
use Rattle.registers.specs.declared.Registers.{Registers}
use Rattle.answers.specs.Outcome.{c_bad_cd, vmsa32}
use Rattle.answers.specs.declared.Outcome.{Outcome}
use Rattle.answers.specs.declared.Outcome.TheVariants.{Abort, Translate, Unserved}
use Rattle.answers.specs.declared.Translation.{Translation}
use Rattle.context_entry.specs.declared.Granule.{Granule}
use Rattle.context_entry.specs.declared.Granule.TheVariants.{Size4K, Size16K, Size64K, Reserved}
use Rattle.context_entry.specs.declared.Half.{Half}

abbrev pub t0sz : (ℕ → ℕ) → ℕ
t0sz w = bits_of 5 0 w

abbrev pub tg0 : (ℕ → ℕ) → ℕ
tg0 w = bits_of 7 6 w

abbrev pub epd0 : (ℕ → ℕ) → ℕ
epd0 w = bits_of 14 14 w

abbrev pub v : (ℕ → ℕ) → ℕ
v w = bits_of 31 31 w

abbrev pub ips : (ℕ → ℕ) → ℕ
ips w = bits_of 34 32 w

abbrev pub aa64 : (ℕ → ℕ) → ℕ
aa64 w = bits_of 41 41 w

abbrev pub asid : (ℕ → ℕ) → ℕ
asid w = bits_of 63 48 w

-- [119:68] as address bits [55:4]
abbrev pub ttb0 : (ℕ → ℕ) → ℕ
ttb0 w = bits_of 119 68 w * 2 ^ 4

-- TG0: 0 4KB, 1 64KB, 2 16KB
unfoldable pub granule0 : ℕ → Granule
granule0 code =
    if eqb code 0 then Size4K
    else if eqb code 1 then Size64K
    else if eqb code 2 then Size16K
    else Reserved

-- whether IDR5 has a granule
unfoldable pub granule_there : Registers → Granule → Bool
granule_there r Size4K = eqb (gran4k r) 1
granule_there r Size16K = eqb (gran16k r) 1
granule_there r Size64K = eqb (gran64k r) 1
granule_there r Reserved = eqb 0 1

-- the smaller of the IPS size and the OAS size; IPS 7 counts as the OAS
unfoldable pub effective_ips : Registers → ℕ → ℕ
effective_ips r code =
    if eqb code 7 then oas_size r
    else min (size_of code) (oas_size r)

-- one half of the address space: its granule is there, its TSZ is 16 to 39, and its TTB does not reach 2^(effective IPS)
unfoldable pub half_fits : Registers → ℕ → Half → Bool
half_fits r bits h = granule_there r h.granule && (leb 16 h.tsz && (leb h.tsz 39 && in_bits h.ttb bits))

abbrev pub first_half : (ℕ → ℕ) → Half
first_half w = record { granule = granule0 (tg0 w); tsz = t0sz w; ttb = ttb0 w }

-- what a CD that is accepted holds: the fields as stored
abbrev pub translated : Registers → ℕ → ℕ → (ℕ → ℕ) → Translation
translated r ste cd w =
    record {
      ste = ste;
      cd = cd;
      asid = asid w;
      t0sz = t0sz w;
      tg0 = tg0 w;
      epd0 = epd0 w;
      ips = effective_ips r (ips w);
      ttb0 = ttb0 w;
    }

-- AA64 0: unserved 21 if TTF's low bit is set, else C_BAD_CD
unfoldable pub vmsa32_rule : Registers → Outcome
vmsa32_rule r =
    if eqb (bits 0 0 (ttf r)) 1 then Unserved vmsa32
    else Abort c_bad_cd

-- the CD at an address, by its words, for the STE at another
unfoldable pub cd_rule : Registers → ℕ → ℕ → (ℕ → ℕ) → Outcome
cd_rule r ste cd w =
    if eqb (v w) 0 then Abort c_bad_cd
    else if eqb (aa64 w) 0 then vmsa32_rule r
    else if eqb (bits 1 1 (ttf r)) 0 then Abort c_bad_cd
    else if eqb (epd0 w) 1 then Translate (translated r ste cd w)
    else if half_fits r (effective_ips r (ips w)) (first_half w) then Translate (translated r ste cd w)
    else Abort c_bad_cd
