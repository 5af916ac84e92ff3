-- The fields of the registers that are read (RULES, "What the monitor hands over", "From StreamID to STE"; 002),
-- each by the name and the bits that the rules give it.
--     s2p s1p ttf hyp cd2l st_level            of IDR0
--     sid_size ssid_size                       of IDR1
--     oas gran4k gran16k gran64k               of IDR5
--     smmu_en, rec_inv_sid, abort              of CR0, CR2, GBPA
--     addr                                     of STRTAB_BASE: an address, its bits where they stand
--     fmt split log2_size                      of STRTAB_BASE_CFG
-- Assumes: nothing.
use Rattle.std.specs.Prelude.{ℕ, ◌*◌, ◌^◌}
use Rattle.bit_fields.specs.Bits.{bits}
use Rattle.registers.specs.declared.Registers.{Registers}

abbrev pub s2p : Registers → ℕ
s2p r = bits 0 0 r.idr0

abbrev pub s1p : Registers → ℕ
s1p r = bits 1 1 r.idr0

abbrev pub ttf : Registers → ℕ
ttf r = bits 3 2 r.idr0

abbrev pub hyp : Registers → ℕ
hyp r = bits 9 9 r.idr0

abbrev pub cd2l : Registers → ℕ
cd2l r = bits 19 19 r.idr0

abbrev pub st_level : Registers → ℕ
st_level r = bits 28 27 r.idr0

abbrev pub sid_size : Registers → ℕ
sid_size r = bits 5 0 r.idr1

abbrev pub ssid_size : Registers → ℕ
ssid_size r = bits 10 6 r.idr1

abbrev pub oas : Registers → ℕ
oas r = bits 2 0 r.idr5

abbrev pub gran4k : Registers → ℕ
gran4k r = bits 4 4 r.idr5

abbrev pub gran16k : Registers → ℕ
gran16k r = bits 5 5 r.idr5

abbrev pub gran64k : Registers → ℕ
gran64k r = bits 6 6 r.idr5

abbrev pub smmu_en : Registers → ℕ
smmu_en r = bits 0 0 r.cr0

abbrev pub rec_inv_sid : Registers → ℕ
rec_inv_sid r = bits 1 1 r.cr2

abbrev pub abort : Registers → ℕ
abort r = bits 20 20 r.gbpa

abbrev pub addr : Registers → ℕ
addr r = bits 55 6 r.strtab_base * 2 ^ 6

abbrev pub fmt : Registers → ℕ
fmt r = bits 17 16 r.strtab_base_cfg

abbrev pub split : Registers → ℕ
split r = bits 10 6 r.strtab_base_cfg

abbrev pub log2_size : Registers → ℕ
log2_size r = bits 5 0 r.strtab_base_cfg
