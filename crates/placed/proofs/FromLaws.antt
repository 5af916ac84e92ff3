-- So many places from one on, and the loops over them: j of n passed.
--     values_end, values_step      nothing is left; one value, and the rest
--     values_length, values_at_lem  how many there are, and each of them
--     values_same, values_list     from the same values; all of a list
--     values_front, values_part    the first of a list; those from a place on
--     all_each, all_every          a test that holds of all, place by place; and back
--     all_same, all_values         of the same tests; of values as a list
--     all_hold, one_fails, one_holds  the loop over a test
-- Assumes: nothing.
use Prim.Native.Nat.{ℕ, zero, suc, ◌+◌, ◌-◌, ◌≤◌, ◌<◌}
use native.Mathlib.Omega.{arith}
use native.Mathlib.Nat.{add-zero, zero-add}
use mathlib.Core.Path.{◌≡◌, refl, sym, ap, ◌∙◌}
use mathlib.Core.Bool.{Bool, true, false, not}
use mathlib.Core.List.{List, [], ◌∷◌}
use borrow.Author.Tests.{not-true, not-false, ltb-true, ltb-false}
use lib.Dec.{ltb}
use lib.ListN.{length, get_or, take, drop, length-drop}
use lib.Seq.{length-take-le, get_or-take, get_or-drop}
use Rattle.std.specs.List.{list_all}
use Rattle.number_laws.proofs.Scans.{left_none, left_one}
use Rattle.number_laws.proofs.Tests.{both}
use Rattle.placed.specs.From.{values_from, from, all_from}

module _ {A : Type 0} (f : ℕ → A) where
  pub values_end : (n j : ℕ) → n ≤ j → values_from f (n - j) j ≡ []
  unfolding values_from
  values_end n j past = rw (left_none n j past)

  pub values_step : (n j : ℕ) → j < n → values_from f (n - j) j ≡ f j ∷ values_from f (n - (j + 1)) (j + 1)
  unfolding values_from
  values_step n j more = rw (left_one n j more)

  pub values_length : (m i : ℕ) → length (values_from f m i) ≡ m
  unfolding values_from
  values_length zero i = refl
  values_length (suc m) i = ap suc (values_length m (i + 1))

  pub values_at_lem : (m i j : ℕ) (d : A) → j < m → get_or (values_from f m i) j d ≡ f (i + j)
  unfolding values_from
  values_at_lem zero i j d few = absurd (omega arith)
  values_at_lem (suc m) i zero d few = rw add-zero
  values_at_lem (suc m) i (suc j) d few =
      values_at_lem m (i + 1) j d (omega arith) ∙ ap f (next i j)
    where
      next : (i j : ℕ) → i + 1 + j ≡ i + suc j
      next i j = omega arith

  pub values_same : (g : ℕ → A) (m i : ℕ) → ((j : ℕ) → i ≤ j → j < i + m → f j ≡ g j) → values_from f m i ≡ values_from g m i
  unfolding values_from
  values_same g zero i same = refl
  values_same g (suc m) i same =
      rw (same i (omega arith) (omega arith), values_same g m (i + 1) (λ j low high. same j (omega arith) (omega arith)))

pub values_list : (l : List ℕ) → from l (length l) 0 ≡ l
unfolding values_from
values_list l = go l 0 (λ j. get_or l j 0) (λ j. rw zero-add)
  where
    go : (l : List ℕ) (i : ℕ) (f : ℕ → ℕ) → ((j : ℕ) → f (i + j) ≡ get_or l j 0) → values_from f (length l) i ≡ l
    go [] i f is = refl
    go (x ∷ l) i f is =
        rw (sym (ap f (add-zero i)) ∙ is 0)
        (ap (λ (rest : List ℕ). x ∷ rest) (go l (i + 1) f (λ j. ap f (next i j) ∙ is (suc j))))
      where
        next : (i j : ℕ) → i + 1 + j ≡ i + suc j
        next i j = omega arith

pub values_front : (l : List ℕ) (n : ℕ) → n ≤ length l → take n l ≡ from l n 0
values_front l n few =
    sym (values_list (take n l))
    ∙ rw (length-take-le n l few) (values_same (λ j. get_or (take n l) j 0) (λ j. get_or l j 0) n 0 (λ j low high. get_or-take n l j 0 (omega arith)))

pub values_part : (l : List ℕ) (a m : ℕ) → a + m ≤ length l → take m (drop a l) ≡ values_from (λ j. get_or l (a + j) 0) m 0
values_part l a m room =
    values_front (drop a l) m (rw length-drop (omega arith))
    ∙ values_same (λ j. get_or (drop a l) j 0) (λ j. get_or l (a + j) 0) m 0 (λ j low high. get_or-drop a l j 0)

pub all_values : (test : ℕ → Bool) (f : ℕ → ℕ) (m i : ℕ) → list_all test (values_from f m i) ≡ all_from (λ j. test (f j)) m i
unfolding values_from all_from
all_values test f zero i = refl
all_values test f (suc m) i = rw (all_values test f m (i + 1))

module _ (test : ℕ → Bool) where
  pub all_each : (m i j : ℕ) → all_from test m i ≡ true → i ≤ j → j < i + m → test j ≡ true
  unfolding all_from
  all_each zero i j all low high = absurd (omega arith)
  all_each (suc m) i j all low high = go (both (test i) (all_from test m (i + 1)) all) (all_each m (i + 1) j)
    where
      go :
          (test i ≡ true) × (all_from test m (i + 1) ≡ true)
          → (all_from test m (i + 1) ≡ true → i + 1 ≤ j → j < i + 1 + m → test j ≡ true) → test j ≡ true
      go parts more = at (ltb i j) refl
        where
          at : (b : Bool) → ltb i j ≡ b → test j ≡ true
          at true less = let l = ltb-true i j less in more parts.1 (omega arith) (omega arith)
          at false less = let l = ltb-false i j less in let same : j ≡ i = omega arith in rw same parts.0

  pub all_every : (m i : ℕ) → ((j : ℕ) → i ≤ j → j < i + m → test j ≡ true) → all_from test m i ≡ true
  unfolding all_from
  all_every zero i each = refl
  all_every (suc m) i each =
      rw (each i (omega arith) (omega arith)) (all_every m (i + 1) (λ j low high. each j (omega arith) (omega arith)))

  pub all_same : (other : ℕ → Bool) (m i : ℕ) → ((j : ℕ) → i ≤ j → j < i + m → test j ≡ other j) → all_from test m i ≡ all_from other m i
  unfolding all_from
  all_same other zero i same = refl
  all_same other (suc m) i same =
      rw (same i (omega arith) (omega arith), all_same other m (i + 1) (λ j low high. same j (omega arith) (omega arith)))

  -- the loop: n places, j passed
  module _ {n j : ℕ} (left : all_from test n 0 ≡ all_from test (n - j) j) where
    pub all_hold : n ≤ j → true ≡ all_from test n 0
    unfolding all_from
    all_hold past = sym (left ∙ rw (left_none n j past))

    module _ (more : j < n) {r : Bool} (is : r ≡ test j) where
      pub one_fails : not r ≡ true → false ≡ all_from test n 0
      unfolding all_from
      one_fails so = sym (left ∙ rw (left_one n j more, ← is, not-true r so))

      pub one_holds : not r ≡ false → all_from test n 0 ≡ all_from test (n - (j + 1)) (j + 1)
      unfolding all_from
      one_holds so = left ∙ rw (left_one n j more, ← is, not-false r so)
