-- A rule that is run with its list in an answer's words, which are lent from stage to stage.
--     Walks     what a function that walks by a rule gives, and leaves in the words: start here
--     run_in    what a rule gives, and the words as the list in them grows
--     Reads     what the one step of a walk gives that fetches a descriptor, and leaves in the words
-- Assumes: nothing.
use Rattle.std.specs.Prelude.{ℕ, ◌-◌, ◌*◌, ◌≡◌, List, if◌then◌else◌}
use Rattle.memory_image.specs.Extent.{extent_of, end_of, fetched, fetch_rule}
use Rattle.memory_image.specs.declared.Extent.{Extent}
use Rattle.memory_image.specs.Words.{bytes}
use Rattle.memory_image.specs.Rule.{Rule, done, fetch, descriptor, words_at}
use Rattle.memory_image.specs.declared.Fetched.{Fetched}
use Rattle.memory_image.specs.declared.Fetched.TheVariants.{At, Outside}
use Rattle.answers.specs.Pieces.{push_piece}

pub record RanIn (A : Type 0) : Type 0 where
  pub answer : A
  pub words : List ℕ

unfoldable pub run_in : {A : Type 0} → Extent → ℕ → (ℕ → ℕ) → Rule A → List ℕ → RanIn A
run_in e limit f (done x) ws = record { answer = x; words = ws }
run_in e limit f (fetch address n fault rest) ws =
    if fetched e limit address (8 * n)
    then run_in e limit f (rest (words_at f (address - e.base) n)) (push_piece ws (descriptor address n))
    else run_in e limit f fault ws

-- on all of a lent memory
abbrev pub walked : {A : Type 0} → ℕ → List ℕ → Rule A → List ℕ → RanIn A
walked base memory rule ws = run_in (extent_of base memory) (end_of (extent_of base memory)) (bytes memory) rule ws

pub record Walks {A : Type 0} (base : ℕ) (memory : List ℕ) (rule : Rule A) (before : List ℕ) (r : A) (after : List ℕ) : Type 0 where
  pub result : r ≡ (walked base memory rule before).answer
  pub words : after ≡ (walked base memory rule before).words

-- a descriptor that is had is listed
unfoldable pub read_put : List ℕ → ℕ → ℕ → Fetched → List ℕ
read_put ws address size (At place) = push_piece ws (record { address = address; length = size })
read_put ws address size (Outside wanted) = ws

pub record Reads (base : ℕ) (memory : List ℕ) (address size : ℕ) (before : List ℕ) (r : Fetched) (after : List ℕ) : Type 0 where
  pub result : r ≡ fetch_rule (extent_of base memory) (end_of (extent_of base memory)) address size
  pub words : after ≡ read_put before address size r
