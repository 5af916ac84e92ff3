-- What a CD says.
--     cd_proper    the outcome is proper
-- Assumes: nothing.
use Prim.Native.Nat.{ℕ}
use native.Mathlib.Omega.{arith}
use mathlib.Core.Path.{◌≡◌, refl}
use mathlib.Core.Bool.{true}
use lib.Dec.{eqb}
use Rattle.bit_fields.specs.Bits.{bits}
use Rattle.bit_fields.proofs.ChoiceLaws.{either}
use Rattle.registers.specs.Fields.{ttf}
use Rattle.registers.specs.declared.Registers.{Registers}
use Rattle.answers.specs.Proper.{listed_event, listed_case, proper_outcome}
use Rattle.answers.specs.declared.Outcome.{Outcome}
use Rattle.answers.specs.declared.Outcome.TheVariants.{Translate}
use Rattle.answers.proofs.ProperLaws.{fields_proper}
use Rattle.context_entry.specs.ContextEntry.{v, aa64, epd0, ips, effective_ips, half_fits, first_half, translated, vmsa32_rule, cd_rule}

old_proper : (r : Registers) → proper_outcome (vmsa32_rule r) ≡ true
unfolding vmsa32_rule proper_outcome listed_event listed_case
old_proper r = either (λ o. proper_outcome o ≡ true) (eqb (bits 0 0 (ttf r)) 1) refl refl

-- a CD's fields have their widths
translated_proper : (r : Registers) (ste cd : ℕ) (w : ℕ → ℕ) → proper_outcome (Translate (translated r ste cd w)) ≡ true
unfolding proper_outcome
translated_proper r ste cd w = fields_proper (translated r ste cd w) (omega arith) (omega arith) (omega arith) (omega arith)

pub cd_proper : (r : Registers) (ste cd : ℕ) (w : ℕ → ℕ) → proper_outcome (cd_rule r ste cd w) ≡ true
unfolding cd_rule proper_outcome listed_event
cd_proper r ste cd w =
    either Proper (eqb (v w) 0) refl
    (either Proper (eqb (aa64 w) 0) (old_proper r)
    (either Proper (eqb (bits 1 1 (ttf r)) 0) refl
    (either Proper (eqb (epd0 w) 1) (translated_proper r ste cd w)
    (either Proper (half_fits r (effective_ips r (ips w)) (first_half w)) (translated_proper r ste cd w) refl))))
  where
    Proper : Outcome → Type 0
    Proper outcome = proper_outcome outcome ≡ true
