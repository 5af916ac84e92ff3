-- What is claimed of every rule that reads descriptors. proofs/Claims.antt proves each, once for every tree
-- and for whatever type of answers.
--     DependsOnList       two memories of one extent that agree on the listed bytes give the same answer and list
--     ListedLies          each listed piece lies in the memory and ends at or below the limit
--     FaultNotListed      a fetch that fails is not in the list: what is given and listed is what its fault branch gives and lists
--     FetchedIsListed     a fetch that succeeds stands in the list, in front of all that is fetched after it, and the rule goes on with its words
--     ThenGivesAndLists   one rule and then another: the second one's answer, and both lists in order
--     ListedFew           a rule of at most so many fetches lists at most so many pieces
-- Assumes: nothing.
use Rattle.std.specs.Prelude.{ℕ, ◌-◌, ◌*◌, ◌≤◌, ◌≡◌, true, false, ◌++◌, length}
use Rattle.memory_image.specs.Extent.{fetched}
use Rattle.memory_image.specs.declared.Extent.{Extent}
use Rattle.memory_image.specs.Rule.{Rule, fetch, descriptor, words_at, listed, run, and_then, Fetches, Each, Lies, Agree}

abbrev pub DependsOnList : Type 0 → Type 0
DependsOnList A =
    (e : Extent) (limit : ℕ) (f g : ℕ → ℕ) (rule : Rule A)
    → Each (Agree e f g) (run e limit f rule).list → run e limit g rule ≡ run e limit f rule

abbrev pub ListedLies : Type 0 → Type 0
ListedLies A =
    (e : Extent) (limit : ℕ) (f : ℕ → ℕ) (rule : Rule A) → Each (Lies e limit) (run e limit f rule).list

abbrev pub FaultNotListed : Type 0 → Type 0
FaultNotListed A =
    (e : Extent) (limit : ℕ) (f : ℕ → ℕ) (address n : ℕ) (fault : Rule A) (rest : (ℕ → ℕ) → Rule A)
    → fetched e limit address (8 * n) ≡ false → run e limit f (fetch address n fault rest) ≡ run e limit f fault

abbrev pub FetchedIsListed : Type 0 → Type 0
FetchedIsListed A =
    (e : Extent) (limit : ℕ) (f : ℕ → ℕ) (address n : ℕ) (fault : Rule A) (rest : (ℕ → ℕ) → Rule A)
    → fetched e limit address (8 * n) ≡ true
    → run e limit f (fetch address n fault rest) ≡ listed (descriptor address n) (run e limit f (rest (words_at f (address - e.base) n)))

abbrev pub ThenGivesAndLists : Type 0 → Type 0 → Type 0
ThenGivesAndLists A B =
    (e : Extent) (limit : ℕ) (f : ℕ → ℕ) (next : A → Rule B) (rule : Rule A)
    → ((run e limit f (and_then rule next)).answer ≡ (run e limit f (next (run e limit f rule).answer)).answer)
    × ((run e limit f (and_then rule next)).list
    ≡ (run e limit f rule).list ++ (run e limit f (next (run e limit f rule).answer)).list)

abbrev pub ListedFew : Type 0 → Type 0
ListedFew A =
    (e : Extent) (limit : ℕ) (f : ℕ → ℕ) (most : ℕ) (rule : Rule A)
    → Fetches most rule → length (run e limit f rule).list ≤ most
