-- Demand 2: specs/Demand2.antt, each sentence under its own name, from what is claimed of the lookup.
-- Assumes: nothing.
use Rattle.std.specs.Prelude.{Ok}
use Prim.Native.Nat.{ℕ, ◌+◌, ◌<◌, ◌-◌}
use native.Mathlib.Omega.{arith}
use native.Mathlib.Nat.{zero-add}
use mathlib.Core.Path.{◌≡◌, refl, sym, ap, ◌∙◌}
use lib.ListN.{get_or, length}
use Rattle.bit_fields.proofs.ChoiceLaws.{either}
use Rattle.placed.proofs.FromLaws.{values_length, values_at_lem}
use Rattle.ids.specs.Ids.{refusal3}
use Rattle.registers.specs.Sizes.{refusal1}
use Rattle.memory_image.specs.Extent.{extent_of, refusal2}
use Rattle.lookup.specs.Lookup.{looked_up, answered, ruled}
use Rattle.lookup.specs.declared.Looked.{Looked}
use Rattle.lookup_claims.proofs.Claims.{depends_on_list, listed_lies}
use Rattle.book_history.specs.Demand2.{AnswerOfTheRules, EachLies, lent, OutsideNeverCounts}

pub answer_of_the_rules : AnswerOfTheRules
unfolding looked_up
answer_of_the_rules r base memory request told is outcome answer = is ∙ go (sym (ap (λ (l : Looked). l.answer) is) ∙ answer)
  where
    Ruled : Looked → Type 0
    Ruled here = here.answer ≡ Ok outcome → here ≡ answered (ruled r base memory request)

    go : Ruled (looked_up r base memory request)
    go =
        either Ruled (refusal1 r) (λ so. let z : ◌≡◌ {A = ℕ} 0 1 = cc in absurd (omega arith))
        (either Ruled (refusal2 (extent_of base memory)) (λ so. let z : ◌≡◌ {A = ℕ} 0 1 = cc in absurd (omega arith))
        (either Ruled (refusal3 request) (λ so. let z : ◌≡◌ {A = ℕ} 0 1 = cc in absurd (omega arith)) (λ so. refl)))

pub each_lies : EachLies
each_lies r base memory request told is =
    rw is (λ j few. let lies = listed_lies r base memory request j few in (lies.from, lies.inside))

pub outside_never_counts : OutsideNeverCounts
outside_never_counts r base size request f g same =
    sym
    (depends_on_list r base (lent base size f) (lent base size g) request (values_length _ size 0 ∙ sym (values_length _ size 0))
    (λ j few a from to.
    let lies = listed_lies r base (lent base size f) request j few in
    let begins = lies.from in
    let ends = lies.inside in
    let long : length (lent base size f) ≡ size = values_length _ size 0 in
    at f (a - base) (omega arith) ∙ same (base + (a - base)) (omega arith) (omega arith) ∙ sym (at g (a - base) (omega arith))))
  where
    at : (h : ℕ → ℕ) (j : ℕ) → j < size → get_or (lent base size h) j 0 ≡ h (base + j)
    at h j few = values_at_lem _ size 0 j 0 few ∙ rw zero-add
