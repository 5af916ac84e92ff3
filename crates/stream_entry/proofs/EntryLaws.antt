-- Steps 1 to 5, on plain values: a law for each way out.
--     ste_invalid, ste_quiet, ste_missing, ste_stage2, ste_bypass, ste_stage1  the steps in order
--     ste_proper                              where it ends, it ends with a proper outcome
-- Assumes: nothing.
use Rattle.std.specs.Prelude.{Err, None, Option, Result, Some}
use Prim.Native.Nat.{ℕ, ◌≤◌, ◌<◌}
use mathlib.Core.Path.{◌≡◌, refl}
use mathlib.Core.Bool.{Bool, true, false}
use borrow.Author.Tests.{eq-eqb, ne_eqb, lt-ltb, le-ltb}
use lib.Dec.{eqb, ltb}
use Rattle.bit_fields.specs.Bits.{bits}
use Rattle.bit_fields.proofs.ChoiceLaws.{either}
use Rattle.ids.specs.declared.SubstreamId.{SubstreamId}
use Rattle.registers.specs.declared.Registers.{Registers}
use Rattle.answers.specs.Proper.{listed_event, listed_case, proper_outcome}
use Rattle.answers.specs.declared.Outcome.{Outcome}
use Rattle.answers.specs.declared.Outcome.TheVariants.{Abort, Quiet, Unserved}
use Rattle.stream_entry.specs.StreamEntry.{v, config, stage2_in, not_there, bypass_rule, stage1_rule, ste_rule}
use Rattle.answers.proofs.ProperLaws.{EndsProper}
use Rattle.stream_entry.proofs.Stage1Laws.{stage_proper}

module _ (r : Registers) (substream : Option SubstreamId) (address : ℕ) (w : ℕ → ℕ) {valid : ℕ} (is_v : valid ≡ v w) where
  pub ste_invalid : valid ≡ 0 → Err (Abort 4) ≡ ste_rule r substream address w
  unfolding ste_rule
  ste_invalid is_not = simp (← is_v, eq-eqb _ _ is_not)

  module _ (set : valid ≡ 0 → ⊥) {c : ℕ} (is_config : c ≡ config w) where
    pub ste_quiet : c < 4 → Err Quiet ≡ ste_rule r substream address w
    unfolding ste_rule
    ste_quiet low = simp (← is_v, ne_eqb _ _ set, ← is_config, lt-ltb _ _ low)

    module _ (high : 4 ≤ c) {missing : Bool} (is_missing : missing ≡ not_there r c) where
      pub ste_missing : missing ≡ true → Err (Abort 4) ≡ ste_rule r substream address w
      unfolding ste_rule
      ste_missing is_so = simp (← is_v, ne_eqb _ _ set, ← is_config, le-ltb _ _ high, ← is_missing, is_so)

      module _ (there : missing ≡ false) {second : ℕ} (is_second : second ≡ bits 1 1 c) where
        pub ste_stage2 : second ≡ 1 → Err (Unserved 20) ≡ ste_rule r substream address w
        unfolding ste_rule
        ste_stage2 is_so =
            simp (← is_v, ne_eqb _ _ set, ← is_config, le-ltb _ _ high, ← is_missing, there, ← is_second, eq-eqb _ _ is_so)

        module _ (alone : second ≡ 1 → ⊥) where
          pub ste_bypass : c ≡ 4 → {outcome : Outcome} → outcome ≡ bypass_rule substream address → Err outcome ≡ ste_rule r substream address w
          unfolding ste_rule
          ste_bypass four is =
              rw is
              (simp
              (← is_v, ne_eqb _ _ set, ← is_config, le-ltb _ _ high, ← is_missing, there, ← is_second, ne_eqb _ _ alone, eq-eqb _ _ four))

          pub ste_stage1 :
              (c ≡ 4 → ⊥) → {entry : Result ℕ Outcome} → entry ≡ stage1_rule r substream address w → entry ≡ ste_rule r substream address w
          unfolding ste_rule
          ste_stage1 five is =
              rw is
              (simp
              (← is_v, ne_eqb _ _ set, ← is_config, le-ltb _ _ high, ← is_missing, there, ← is_second, ne_eqb _ _ alone, ne_eqb _ _ five))

bypass_proper : (substream : Option SubstreamId) (address : ℕ) → proper_outcome (bypass_rule substream address) ≡ true
unfolding proper_outcome listed_event
bypass_proper None address = refl
bypass_proper (Some id) address = refl

pub ste_proper : (r : Registers) (substream : Option SubstreamId) (address : ℕ) (w : ℕ → ℕ) → EndsProper (ste_rule r substream address w)
unfolding ste_rule proper_outcome listed_event listed_case
ste_proper r substream address w =
    either EndsProper (eqb (v w) 0) refl
    (either EndsProper (ltb (config w) 4) refl
    (either EndsProper (not_there r (config w)) refl
    (either EndsProper (stage2_in (config w)) refl
    (either EndsProper (eqb (config w) 4) (bypass_proper substream address) (stage_proper r substream address w)))))
