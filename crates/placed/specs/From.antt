-- So many places from one on: their values as a list, and a test of each.
--     values_from    m values of a function, from i on
--     tab            the first n values of a function
--     from           m values of a list, from i on, and 0 past its end
--     all_from       a test holds of m places from i on
-- Assumes: nothing.
use Rattle.std.specs.Prelude.{ℕ, zero, suc, ◌+◌, Bool, true, ◌&&◌, List, [], ◌∷◌, get_or}

unfoldable pub values_from : {A : Type 0} → (ℕ → A) → ℕ → ℕ → List A
values_from f zero i = []
values_from f (suc m) i = f i ∷ values_from f m (i + 1)

-- the first n values of f
abbrev pub tab : {A : Type 0} → ℕ → (ℕ → A) → List A
tab n f = values_from f n 0

abbrev pub from : List ℕ → ℕ → ℕ → List ℕ
from l m i = values_from (λ j. get_or l j 0) m i

unfoldable pub all_from : (ℕ → Bool) → ℕ → ℕ → Bool
all_from test zero i = true
all_from test (suc m) i = test i && all_from test m (i + 1)
