-- Steps 6 to 8, on plain values.
--     bad_max, bad_none, bad_format, bad_levels, bad_dss    step 6
--     stage_bad, stage_world, stage_without, stage_with     steps 6 to 8 in order
--     stage_proper                                          where it ends, it ends with a proper outcome
-- Assumes: nothing.
use Rattle.std.specs.Prelude.{Err, None, Option, Result, Some}
use Rattle.answers.specs.declared.Outcome.{Outcome}
use Prim.Native.Nat.{ℕ, ◌^◌, ◌≤◌, ◌<◌}
use native.Mathlib.Omega.{arith}
use mathlib.Core.Path.{◌≡◌, refl}
use mathlib.Core.Bool.{Bool, true, false, not, ◌&&◌, ◌||◌}
use borrow.Author.Tests.{eq-eqb, ne_eqb, lt-ltb, le-ltb}
use lib.Dec.{eqb, leb}
use Rattle.bit_fields.proofs.ChoiceLaws.{either}
use Rattle.ids.specs.declared.SubstreamId.{SubstreamId}
use Rattle.registers.specs.Fields.{hyp, cd2l, ssid_size}
use Rattle.registers.specs.declared.Registers.{Registers}
use Rattle.answers.specs.Proper.{listed_event, listed_case, proper_outcome}
use Rattle.answers.specs.declared.Outcome.TheVariants.{Abort, Unserved}
use Rattle.answers.proofs.ProperLaws.{EndsProper}
use Rattle.stream_entry.specs.StreamEntry.{s1_fmt, s1_cd_max, s1_dss, strw, bad_stage1, with_id, without_id, substream_rule, stage1_rule}

module _ (r : Registers) (w : ℕ → ℕ) {max size : ℕ} (is_max : max ≡ s1_cd_max r w) (is_size : size ≡ ssid_size r) where
  pub bad_max : size < max → true ≡ bad_stage1 r w
  unfolding bad_stage1
  bad_max past = rw (← is_max) (simp (← is_size, lt-ltb _ _ past))

  module _ (fits : max ≤ size) where
    pub bad_none : max ≡ 0 → false ≡ bad_stage1 r w
    unfolding bad_stage1
    bad_none none = let empty : max ≤ 0 = omega arith in rw (← is_max) (simp (← is_size, le-ltb _ _ fits, le-ltb _ _ empty))

    module _ (some : max ≡ 0 → ⊥) {format : ℕ} (is_format : format ≡ s1_fmt w) where
      more : 0 < max
      more = omega arith

      pub bad_format : format ≡ 3 → true ≡ bad_stage1 r w
      unfolding bad_stage1
      bad_format three = rw (← is_max) (simp (← is_size, le-ltb _ _ fits, lt-ltb _ _ more, ← is_format, eq-eqb _ _ three))

      module _ (known : format ≡ 3 → ⊥) {levels : ℕ} (is_levels : levels ≡ cd2l r) {test : Bool}
          (tested : test ≡ (not (eqb format 0) && eqb levels 0)) where
        pub bad_levels : test ≡ true → true ≡ bad_stage1 r w
        unfolding bad_stage1
        bad_levels is_so =
            rw (← is_max)
            (simp
            (← is_size, le-ltb _ _ fits, lt-ltb _ _ more, ← is_format, ne_eqb _ _ known, ← is_levels, ← tested, is_so))

        pub bad_dss : test ≡ false → {dss : ℕ} → dss ≡ s1_dss w → eqb dss 3 ≡ bad_stage1 r w
        unfolding bad_stage1
        bad_dss is_not is_dss =
            rw (← is_max)
            (simp
            (← is_size, le-ltb _ _ fits, lt-ltb _ _ more, ← is_format, ne_eqb _ _ known, ← is_levels, ← tested, is_not, ← is_dss))

module _ (r : Registers) (substream : Option SubstreamId) (address : ℕ) (w : ℕ → ℕ) {bad : Bool} (is_bad : bad ≡ bad_stage1 r w) where
  pub stage_bad : bad ≡ true → Err (Abort 4) ≡ stage1_rule r substream address w
  unfolding stage1_rule
  stage_bad is_so = simp (← is_bad, is_so)

  module _ (good : bad ≡ false) {h world : ℕ} (is_hyp : h ≡ hyp r) (is_world : world ≡ strw w) {above : Bool}
      (tested : above ≡ (eqb h 1 && not (eqb world 0))) where
    pub stage_world : above ≡ true → Err (Unserved 22) ≡ stage1_rule r substream address w
    unfolding stage1_rule
    stage_world is_so = simp (← is_bad, good, ← is_hyp, ← is_world, ← tested, is_so)

    module _ (served : above ≡ false) {max : ℕ} (is_max : max ≡ s1_cd_max r w) {entry : Result ℕ Outcome} where
      pub stage_without : substream ≡ None → entry ≡ without_id max w address → entry ≡ stage1_rule r substream address w
      unfolding stage1_rule
      stage_without none is = rw (is, none, is_max) (simp (← is_bad, good, ← is_hyp, ← is_world, ← tested, served))

      pub stage_with : {id : SubstreamId} → substream ≡ Some id → entry ≡ with_id max w id.number → entry ≡ stage1_rule r substream address w
      unfolding stage1_rule
      stage_with one is = rw (is, one, is_max) (simp (← is_bad, good, ← is_hyp, ← is_world, ← tested, served))

with_proper : (max : ℕ) (w : ℕ → ℕ) (n : ℕ) → EndsProper (with_id max w n)
unfolding with_id proper_outcome listed_event
with_proper max w n =
    either EndsProper (eqb max 0 || leb (2 ^ max) n) refl
    (either EndsProper (eqb n 0 && eqb (s1_dss w) 2) refl tt)

without_proper : (max : ℕ) (w : ℕ → ℕ) (address : ℕ) → EndsProper (without_id max w address)
unfolding without_id proper_outcome listed_event
without_proper max w address =
    either EndsProper (eqb max 0) tt
    (either EndsProper (eqb (s1_dss w) 0) refl (either EndsProper (eqb (s1_dss w) 1) refl tt))

substream_proper : (max : ℕ) (w : ℕ → ℕ) (substream : Option SubstreamId) (address : ℕ) → EndsProper (substream_rule max w substream address)
substream_proper max w None address = without_proper max w address
substream_proper max w (Some id) address = with_proper max w id.number

pub stage_proper : (r : Registers) (substream : Option SubstreamId) (address : ℕ) (w : ℕ → ℕ) → EndsProper (stage1_rule r substream address w)
unfolding stage1_rule proper_outcome listed_event listed_case
stage_proper r substream address w =
    either EndsProper (bad_stage1 r w) refl
    (either EndsProper (eqb (hyp r) 1 && not (eqb (strw w) 0)) refl (substream_proper (s1_cd_max r w) w substream address))
