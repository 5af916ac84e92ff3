-- Which way a choice by a test of two numbers goes, for values of any type.
--     if_eq, if_not_eq    by whether two numbers are equal
--     either      what holds of both ways of a choice holds of the choice
--     by_test     the same, where each way may count on what the test said
--     alike       the same of two choices by one test
-- Assumes: nothing.
use Prim.Native.Nat.{ℕ}
use mathlib.Core.Path.{◌≡◌, refl}
use mathlib.Core.Bool.{Bool, true, false}
use borrow.Author.Tests.{eq-eqb, ne_eqb}
use lib.Dec.{eqb}
use Rattle.std.specs.Prelude.{if◌then◌else◌}

module _ {A : Type 0} (first second : A) (a b : ℕ) where
  pub if_eq : a ≡ b → first ≡ (if eqb a b then first else second)
  if_eq is = simp (eq-eqb _ _ is)

  pub if_not_eq : (a ≡ b → ⊥) → second ≡ (if eqb a b then first else second)
  if_not_eq is = simp (ne_eqb _ _ is)

pub either : {A : Type 0} (P : A → Type 0) (test : Bool) {first second : A} → P first → P second → P (if test then first else second)
either P true this that = this
either P false this that = that

pub by_test :
    {A : Type 0} (P : A → Type 0) (test : Bool) {first second : A} → (test ≡ true → P first) → (test ≡ false → P second)
    → P (if test then first else second)
by_test P true this that = this refl
by_test P false this that = that refl

pub alike :
    {A B : Type 0} (P : A → B → Type 0) (test : Bool) {first second : A} {one other : B} → P first one → P second other
    → P (if test then first else second) (if test then one else other)
alike P true this that = this
alike P false this that = that
