-- What a loop that puts a list piece by piece keeps.
--     left_all      before it: all is left
--     left_more, left_one  a piece was put, or one value: the rest is left
--     left_placed, left_end  nothing is left: all is placed, and the place is the end
--     left_room     there is room for what is left
-- Assumes: nothing.
use mathlib.Core.Path.{◌≡◌, refl, sym, ap, ◌∙◌}
use mathlib.Core.List.{List, [], ◌∷◌, ◌++◌}
use Prim.Native.Nat.{ℕ, ◌+◌, ◌≤◌}
use native.Mathlib.Omega.{arith}
use lib.ListN.{length, length-append, set}
use Rattle.placed.specs.Placed.{placed, Left}
use Rattle.placed.proofs.PlacedLaws.{placed_length, placed_then, placed_none, set_placed}

pub left_all : (q : List ℕ) (at : ℕ) (all : List ℕ) → at + length all ≤ length q → Left q at all q at all
left_all q at all fits = record { same = refl; ends = refl; long = refl; fits = fits }

module _ {q all now left : List ℕ} {at to : ℕ} (so_far : Left q at all now to left) where
  pub left_room : to + length left ≤ length now
  left_room = let e = so_far.ends in let l = so_far.long in let f = so_far.fits in omega arith

  pub left_more :
      (a rest : List ℕ) → left ≡ a ++ rest → {after : List ℕ} {on : ℕ} → after ≡ placed now to a → on ≡ to + length a
      → Left q at all after on rest
  left_more a rest is {after} {on} put place =
      let sum : length left ≡ length a + length rest = ap length is ∙ length-append a rest in
      let room = left_room in
      let fit : to + length a ≤ length now = omega arith in
      let e = so_far.ends in
      record {
        same =
            ap (λ (l : List ℕ). placed l on rest) put ∙ placed_then now to a fit rest on place
            ∙ ap (λ (l : List ℕ). placed now to l) (sym is) ∙ so_far.same;
        ends = omega arith;
        long = ap length put ∙ placed_length now to a fit ∙ so_far.long;
        fits = so_far.fits;
      }

  pub left_one :
      (b : ℕ) (rest : List ℕ) → left ≡ b ∷ rest → {on : ℕ} → on ≡ to + 1 → Left q at all (set now to b) on rest
  left_one b rest is place =
      let sum : length left ≡ length (b ∷ []) + length rest = ap length is ∙ length-append (b ∷ []) rest in
      let room = left_room in
      left_more (b ∷ []) rest is (set_placed now to b (omega arith)) place

  pub left_placed : left ≡ [] → now ≡ placed q at all
  left_placed none = sym (placed_none now to) ∙ ap (λ (l : List ℕ). placed now to l) (sym none) ∙ so_far.same

  pub left_end : left ≡ [] → to ≡ at + length all
  left_end none = let n : length left ≡ 0 = ap length none in let e = so_far.ends in omega arith
