-- What is claimed of the shots.
--     AllShots      the rules give each shot of the table what the rules say; none is refused
--     RealShots     and so does a lookup in a real memory of 65,536 bytes
--     AllFaults, RealFaults  the same of the fetches that fail
-- Assumes: nothing.
use Rattle.std.specs.Prelude.{◌≡◌, false, List, [], ◌∷◌}
use Rattle.ids.specs.Ids.{refusal3}
use Rattle.registers.specs.Sizes.{refusal1}
use Rattle.lookup.specs.Lookup.{answered, looked_up}
use Rattle.placed.specs.From.{tab}
use Rattle.shots.specs.Shots.{Shot, shots, byte_of, given, expected}
use Rattle.shots.specs.Faults.{faults}

abbrev pub EachShot : (Shot → Type 0) → List Shot → Type 0
EachShot P [] = Unit {0}
EachShot P (s ∷ ss) = P s × EachShot P ss

pub record Right (s : Shot) : Type 0 where
  pub says : given s ≡ expected s
  pub registers_taken : refusal1 s.registers ≡ false
  pub request_taken : refusal3 s.request ≡ false

abbrev pub AllShots : Type 0
AllShots = EachShot Right shots

abbrev pub AllFaults : Type 0
AllFaults = EachShot Right faults

-- in a real memory of 65,536 bytes
abbrev pub Real : Shot → Type 0
Real s = looked_up s.registers 0 (tab 0x10000 (byte_of s.memory)) s.request ≡ answered (expected s)

abbrev pub RealShots : Type 0
RealShots = EachShot Real shots

abbrev pub RealFaults : Type 0
RealFaults = EachShot Real faults
