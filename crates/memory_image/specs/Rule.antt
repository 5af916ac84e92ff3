-- A rule that reads descriptors is a tree: it is done, or it fetches a descriptor and goes on with its words.
--     Rule        the trees
--     descriptor  the piece of memory that a descriptor of so many words takes up
--     run         what a rule gives on the bytes of an extent, and the list of the descriptors that it fetched
--     and_then    one rule, and then another from what it gives
--     Fetches     at most so many fetches, whichever way a rule goes
--     Every       something holds of the length of whatever is fetched, whichever way a rule goes
--     Gives       something holds of whatever a rule can give, whichever way it goes
--     Each        something holds of each piece of a list
--     Lies        a piece lies in the memory and ends at or below the limit
--     Agree       two memories have the same bytes in a piece
-- Assumes: nothing.
use Rattle.std.specs.Prelude.{ℕ, zero, suc, ◌+◌, ◌-◌, ◌*◌, ◌≤◌, ◌<◌, ◌≡◌, List, [], ◌∷◌, ltb, if◌then◌else◌}
use Rattle.memory_image.specs.Extent.{fetched}
use Rattle.memory_image.specs.declared.Extent.{Extent}
use Rattle.memory_image.specs.Words.{word}
use Rattle.memory_image.specs.declared.Piece.{Piece}

-- a fetch has an address, a number of words of eight bytes, what is done where it fails, and how to go on from its words
pub data Rule (A : Type 0) : Type 0 where
  done : A → Rule A
  fetch : ℕ → ℕ → Rule A → ((ℕ → ℕ) → Rule A) → Rule A

abbrev pub descriptor : ℕ → ℕ → Piece
descriptor address words = record { address = address; length = 8 * words }

-- the words of a descriptor at an offset, and 0 past its last
abbrev pub words_at : (ℕ → ℕ) → ℕ → ℕ → ℕ → ℕ
words_at f offset n k = if ltb k n then word f (offset + 8 * k) else 0

pub record Ran (A : Type 0) : Type 0 where
  pub answer : A
  pub list : List Piece

-- what was fetched stands in front of what is fetched after it
abbrev pub listed : {A : Type 0} → Piece → Ran A → Ran A
listed p r = record { answer = r.answer; list = p ∷ r.list }

unfoldable pub run : {A : Type 0} → Extent → ℕ → (ℕ → ℕ) → Rule A → Ran A
run e limit f (done x) = record { answer = x; list = [] }
run e limit f (fetch address n fault rest) =
    if fetched e limit address (8 * n) then listed (descriptor address n) (run e limit f (rest (words_at f (address - e.base) n)))
    else run e limit f fault

unfoldable pub and_then : {A B : Type 0} → Rule A → (A → Rule B) → Rule B
and_then (done x) next = next x
and_then (fetch address n fault rest) next = fetch address n (and_then fault next) (λ w. and_then (rest w) next)

abbrev pub Fetches : {A : Type 0} → ℕ → Rule A → Type 0
Fetches most (done x) = Unit {0}
Fetches zero (fetch address n fault rest) = ⊥
Fetches (suc most) (fetch address n fault rest) = Fetches (suc most) fault × ((w : ℕ → ℕ) → Fetches most (rest w))

abbrev pub Every : {A : Type 0} → (ℕ → Type 0) → Rule A → Type 0
Every P (done x) = Unit {0}
Every P (fetch address n fault rest) = P (8 * n) × (Every P fault × ((w : ℕ → ℕ) → Every P (rest w)))

abbrev pub Gives : {A : Type 0} → (A → Type 0) → Rule A → Type 0
Gives P (done x) = P x
Gives P (fetch address n fault rest) = Gives P fault × ((w : ℕ → ℕ) → Gives P (rest w))

abbrev pub Each : (Piece → Type 0) → List Piece → Type 0
Each P [] = Unit {0}
Each P (p ∷ ps) = P p × Each P ps

pub record Lies (e : Extent) (limit : ℕ) (p : Piece) : Type 0 where
  pub from : e.base ≤ p.address
  pub inside : p.address + p.length ≤ e.base + e.length
  pub below : p.address + p.length ≤ limit

abbrev pub Agree : Extent → (ℕ → ℕ) → (ℕ → ℕ) → Piece → Type 0
Agree e f g p = (a : ℕ) → p.address ≤ a → a < p.address + p.length → f (a - e.base) ≡ g (a - e.base)
