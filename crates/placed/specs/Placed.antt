-- A list with another put into it: what a lent buffer holds once something was written.
--     placed    start here
--     Left      what is still to be put, in the middle of a loop
-- Assumes: nothing.
use Rattle.std.specs.Prelude.{ℕ, ◌+◌, ◌≤◌, ◌≡◌, List, ◌++◌, length, take, drop}

-- q with r in it, from the place at on
unfoldable pub placed : List ℕ → ℕ → List ℕ → List ℕ
placed q at r = take at q ++ (r ++ drop (at + length r) q)

-- with what is left put at its place, there is all that was to be put
pub record Left (q : List ℕ) (at : ℕ) (all now : List ℕ) (to : ℕ) (left : List ℕ) : Type 0 where
  pub same : placed now to left ≡ placed q at all
  pub ends : to + length left ≡ at + length all
  pub long : length now ≡ length q
  pub fits : at + length all ≤ length q
