-- The sizes that OAS codes (RULES, "What the monitor hands over"), and refusal 1 (RULES, "When the bench says no").
--     sizes       the sizes, by the code
--     size_of     the size in bits that a code of OAS means
--     oas_size    this SMMU's
--     refusal1    registers that are refused with 1
-- Assumes: nothing.
use Rattle.std.specs.Prelude.{ℕ, Bool, ◌||◌, List, [], ◌∷◌, eqb, ltb, get_or}
use Rattle.registers.specs.Fields.{oas, sid_size, ssid_size}
use Rattle.registers.specs.declared.Registers.{Registers}

-- OAS 0 to 6 means 32, 36, 40, 42, 44, 48, 52 bits
abbrev pub sizes : List ℕ
sizes = 32 ∷ 36 ∷ 40 ∷ 42 ∷ 44 ∷ 48 ∷ 52 ∷ []

-- 7 means no size: 0 stands for that
unfoldable pub size_of : ℕ → ℕ
size_of code = get_or sizes code 0

unfoldable pub oas_size : Registers → ℕ
oas_size r = size_of (oas r)

-- OAS is 7, SIDSIZE above 32, or SSIDSIZE above 20
unfoldable pub refusal1 : Registers → Bool
refusal1 r = eqb (oas r) 7 || (ltb 32 (sid_size r) || ltb 20 (ssid_size r))
