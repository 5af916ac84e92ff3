-- What `placed` does to a list, for any list put into it.
--     placed_length, placed_below, placed_at, placed_above  each byte, and how many there are
--     placed_then    one after the other is both at once
--     placed_none    nothing put
--     placed_whole   as long as the list itself
--     placed_zeros   put into zeros
--     set_placed     one store
-- Assumes: nothing.
use mathlib.Core.Path.{◌≡◌, sym, ap, ◌∙◌}
use mathlib.Core.List.{List, [], ◌∷◌, ◌++◌, append_assoc, append-nil}
use Prim.Native.Nat.{ℕ, ◌+◌, ◌-◌, ◌≤◌, ◌<◌}
use native.Mathlib.Omega.{arith}
use native.Mathlib.Nat.{add-zero, zero-add}
use lib.ListN.{length, get_or, set, take, drop, take-append-drop, length-append, length-drop, get_or-append, drop_of_length-le, replicate, length-replicate, replicate-append-replicate}
use lib.Seq.{sets-eq, take_at, drop_at, drop-drop, length-take-le, get_or-take, get_or-drop, get_or-append-add}
use Rattle.placed.specs.Placed.{placed}

module _ (q : List ℕ) (at : ℕ) (r : List ℕ) (fits : at + length r ≤ length q) where
  front : length (take at q) ≡ at
  front = length-take-le at q (omega arith)

  pub placed_length : length (placed q at r) ≡ length q
  unfolding placed
  placed_length = simp (length-append, length-drop, front) (omega arith)

  pub placed_below : (x : ℕ) → x < at → get_or (placed q at r) x 0 ≡ get_or q x 0
  unfolding placed
  placed_below x h =
      let l : x < length (take at q) = rw front (h) in
      get_or-append (take at q) (r ++ drop (at + length r) q) 0 x l ∙ get_or-take at q x 0 h

  pub placed_at : (x : ℕ) → x < length r → get_or (placed q at r) (at + x) 0 ≡ get_or r x 0
  unfolding placed
  placed_at x h =
      let s : get_or (take at q ++ (r ++ drop (at + length r) q)) (length (take at q) + x) 0 ≡ get_or (r ++ drop (at + length r) q) x 0
      = get_or-append-add (take at q) (r ++ drop (at + length r) q) x 0 in
      rw front at s ∙ get_or-append r (drop (at + length r) q) 0 x h

  pub placed_above : (x : ℕ) → at + length r ≤ x → get_or (placed q at r) x 0 ≡ get_or q x 0
  unfolding placed
  placed_above x h =
      let n : ℕ = x - (at + length r) in
      let s :
      get_or (take at q ++ (r ++ drop (at + length r) q)) (length (take at q) + (length r + n)) 0
      ≡ get_or (r ++ drop (at + length r) q) (length r + n) 0
      = get_or-append-add (take at q) (r ++ drop (at + length r) q) (length r + n) 0 in
      let t = get_or-append-add r (drop (at + length r) q) n 0 in
      let u = get_or-drop (at + length r) q n 0 in
      let e : length (take at q) + (length r + n) ≡ x = omega (arith, front) in
      let f : at + length r + n ≡ x = omega arith in
      rw e at s ∙ t ∙ rw f at u

  pub placed_then : (s : List ℕ) (b : ℕ) → b ≡ at + length r → placed (placed q at r) b s ≡ placed q at (r ++ s)
  unfolding placed
  placed_then s b e =
      let both : List ℕ = take at q ++ r in
      let whole : take at q ++ (r ++ drop (at + length r) q) ≡ both ++ drop (at + length r) q = sym (append_assoc (take at q) r _) in
      let n : length both ≡ b = simp (length-append, front) (omega arith) in
      let t : take b (both ++ drop (at + length r) q) ≡ both = take_at both _ b n in
      let d : drop b (both ++ drop (at + length r) q) ≡ drop (at + length r) q = drop_at both _ b n in
      let c : drop (b + length s) (both ++ drop (at + length r) q) ≡ drop (length s) (drop (at + length r) q)
      = sym (drop-drop (length s) b _) ∙ ap (drop (length s)) d in
      let g : at + length r + length s ≡ at + (length r + length s) = omega arith in
      rw (whole, t, c, drop-drop, g, length-append, append_assoc, append_assoc)

pub placed_none : (q : List ℕ) (at : ℕ) → placed q at [] ≡ q
unfolding placed
placed_none q at = rw add-zero (take-append-drop at q)

pub set_placed : (q : List ℕ) (at b : ℕ) → at < length q → set q at b ≡ placed q at (b ∷ [])
unfolding placed
set_placed q at b h = sets-eq (b ∷ []) q at (omega arith) ∙ append_assoc (take at q) (b ∷ []) (drop (at + 1) q)

pub placed_whole : (q r : List ℕ) → length r ≡ length q → placed q 0 r ≡ r
unfolding placed
placed_whole q r same = rw (drop_of_length-le q {i = 0 + length r} (omega arith)) (append-nil r)

zeros : ℕ → List ℕ
zeros n = replicate n 0

pub placed_zeros : (r : List ℕ) (m : ℕ) → placed (replicate (length r + m) 0) 0 r ≡ r ++ replicate m 0
unfolding placed zeros
placed_zeros r m =
    let n : length (zeros (length r)) ≡ 0 + length r = length-replicate {A = ℕ} (length r) 0 ∙ sym (zero-add (length r)) in
    rw (← replicate-append-replicate {A = ℕ} (length r) m 0, drop_at (zeros (length r)) (zeros m) (0 + length r) n)
