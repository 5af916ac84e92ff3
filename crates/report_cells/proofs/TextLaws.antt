-- Cells that spell a text.
--     spells_as                                         a cell spells what is equal to what it spells
--     word_whole                                        a word, and what is after it
--     Counting, digits_start, digits_more, digits_whole  digits, from the last one on
-- Assumes: nothing.
use Prim.Native.Nat.{ℕ, suc, ◌+◌, ◌-◌, ◌/◌, ◌≤◌, ◌<◌}
use native.Mathlib.Omega.{arith}
use native.Mathlib.Nat.{sub-zero, sub_self}
use mathlib.Core.Path.{◌≡◌, refl, sym, ◌∙◌}
use mathlib.Core.List.{List, [], ◌∷◌, ◌++◌, append_assoc, append-nil}
use lib.ListN.{get_or, set, length, length-set, replicate, get_or-append}
use lib.Seq.{get_or-set_same, get_or-set_other}
use Rattle.placed.specs.From.{values_from, from}
use Rattle.placed.proofs.FromLaws.{values_step, values_same, values_list}
use Rattle.report_cells.specs.Text.{Spells, cell_most, digit_at, digits}
use Rattle.report_cells.specs.declared.Cell.{Cell}

pub spells_as : {cell : Cell} {t u : List ℕ} → t ≡ u → Spells cell t → Spells cell u
spells_as e s = record { reads = s.reads ∙ e; few = s.few }

-- a word, and what is after it
pub word_whole : (text rest : List ℕ) {put : List ℕ} → length text ≤ cell_most → put ≡ text → Spells (record { count = length text; byte = put ++ rest }) text
word_whole text rest fits is =
    record {
      reads =
          rw is
          (values_same (λ k. get_or (text ++ rest) k 0) (λ k. get_or text k 0) (length text) 0 (λ k low high. get_or-append text rest 0 k (omega arith))
          ∙ values_list text);
      few = fits;
    }

-- digits: all but the first j were written
module _ (letters : List ℕ) (base w n : ℕ) where
  pub record Counting (now : List ℕ) (rest j : ℕ) : Type 0 where
    pub room : length now ≡ cell_most
    pub most : j ≤ w
    pub left : digits letters base j rest ++ from now (w - j) j ≡ digits letters base w n

  pub digits_start : Counting (replicate cell_most 0) n w
  unfolding values_from
  digits_start = record { room = refl; most = omega arith; left = rw sub_self (append-nil (digits letters base w n)) }

  module _ (fits : w ≤ cell_most) {now : List ℕ} {rest j : ℕ} (so_far : Counting now rest j) where
    pub digits_more : 0 < j → {d : ℕ} → d ≡ digit_at letters base rest → Counting (set now (j - 1) d) (rest / base) (j - 1)
    unfolding digits
    digits_more some {d} is =
        record {
          room = length-set now (j - 1) d ∙ so_far.room;
          most = let m = so_far.most in omega arith;
          left = step (j - 1) (omega arith);
        }
      where
        step : (k : ℕ) → j ≡ suc k → digits letters base k (rest / base) ++ from (set now k d) (w - k) k ≡ digits letters base w n
        step k next =
            let m = so_far.most in
            let r = so_far.room in
            let more : k < w = omega arith in
            let plus : suc k ≡ k + 1 = omega arith in
            let here : get_or (set now k d) k 0 ≡ d = get_or-set_same now k d 0 (omega arith) in
            let above : from (set now k d) (w - (k + 1)) (k + 1) ≡ from now (w - (k + 1)) (k + 1)
            = values_same (λ i. get_or (set now k d) i 0) (λ i. get_or now i 0) (w - (k + 1)) (k + 1)
            (λ i low high. get_or-set_other now k i d 0 (λ e. omega arith)) in
            rw (values_step (λ i. get_or (set now k d) i 0) w k more, here, above, is)
            (sym (append_assoc (digits letters base k (rest / base)) (digit_at letters base rest ∷ []) (from now (w - (k + 1)) (k + 1)))
            ∙ rw (← plus) (rw next at so_far.left))

    pub digits_whole : j ≤ 0 → Spells (record { count = w; byte = now }) (digits letters base w n)
    unfolding digits
    digits_whole none =
        let zero : j ≡ 0 = omega arith in
        record { reads = rw sub-zero at (rw zero at so_far.left); few = fits }
