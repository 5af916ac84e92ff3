-- What holds of every rule that reads descriptors: proved once, for every tree.
--     run_done, run_had, run_fault  a step of a run; a fetch that fails is not in the list
--     run_lies      each listed piece lies in the memory and ends at or below the limit
--     words_agree   a descriptor's words are those of any memory that agrees on its bytes
--     depends       two memories that agree on the listed bytes give the same answer and list
--     run_then      what one rule and then another gives, and lists
--     run_few       a rule of at most n fetches lists at most n pieces
--     run_every     what holds of the length of whatever a rule fetches holds of each listed piece; every_then: of a chain
--     run_gives     what holds of whatever a rule can give holds of its answer; gives_then: of a chain
--     fetches_more, fetches_then  at most so many fetches is at most more; one rule and then another
-- Assumes: nothing.
use Prim.Native.Nat.{ℕ, zero, suc, ◌+◌, ◌-◌, ◌*◌, ◌≤◌, ◌<◌}
use native.Mathlib.Omega.{arith}
use mathlib.Core.Path.{◌≡◌, refl, ap, fun_ext}
use mathlib.Core.Bool.{Bool, true, false}
use mathlib.Core.List.{List, [], ◌++◌}
use borrow.Author.Tests.{ltb-true}
use lib.Dec.{ltb}
use lib.ListN.{length}
use Rattle.std.specs.Prelude.{if◌then◌else◌}
use Rattle.memory_image.specs.Extent.{fetched}
use Rattle.memory_image.specs.declared.Extent.{Extent}
use Rattle.memory_image.specs.Words.{word}
use Rattle.memory_image.specs.Rule.{Rule, done, fetch, Ran, descriptor, words_at, listed, run, and_then, Fetches, Every, Gives, Each, Lies, Agree}
use Rattle.memory_image.specs.declared.Piece.{Piece}
use Rattle.memory_image.proofs.ExtentLaws.{fetched_lies}
use Rattle.memory_image.proofs.WordsLaws.{word_agree}

module _ {A : Type 0} (e : Extent) (limit : ℕ) (f : ℕ → ℕ) where
  pub run_done : (x : A) → run e limit f (done x) ≡ record { answer = x; list = [] }
  unfolding run
  run_done x = refl

  module _ (address n : ℕ) (fault : Rule A) (rest : (ℕ → ℕ) → Rule A) where
    pub run_had :
        fetched e limit address (8 * n) ≡ true
        → run e limit f (fetch address n fault rest) ≡ listed (descriptor address n) (run e limit f (rest (words_at f (address - e.base) n)))
    unfolding run
    run_had test = rw test

    pub run_fault : fetched e limit address (8 * n) ≡ false → run e limit f (fetch address n fault rest) ≡ run e limit f fault
    unfolding run
    run_fault test = rw test

  pub run_lies : (t : Rule A) → Each (Lies e limit) (run e limit f t).list
  run_lies (done x) = rw (run_done x) tt
  run_lies (fetch address n fault rest) =
      go (fetched e limit address (8 * n)) refl (run_lies (rest (words_at f (address - e.base) n))) (run_lies fault)
    where
      go :
          (b : Bool) → fetched e limit address (8 * n) ≡ b
          → Each (Lies e limit) (run e limit f (rest (words_at f (address - e.base) n))).list
          → Each (Lies e limit) (run e limit f fault).list
          → Each (Lies e limit) (run e limit f (fetch address n fault rest)).list
      go true test on out = rw (run_had address n fault rest test) (fetched_lies e limit (descriptor address n) test, on)
      go false test on out = rw (run_fault address n fault rest test) out

  pub run_few : (most : ℕ) (t : Rule A) → Fetches most t → length (run e limit f t).list ≤ most
  run_few most (done x) few = rw (run_done x) (omega arith)
  run_few zero (fetch address n fault rest) few = absurd few
  run_few (suc most) (fetch address n fault rest) few =
      go (fetched e limit address (8 * n)) refl
      (run_few most (rest (words_at f (address - e.base) n)) (few.1 (words_at f (address - e.base) n)))
      (run_few (suc most) fault few.0)
    where
      go :
          (b : Bool) → fetched e limit address (8 * n) ≡ b
          → length (run e limit f (rest (words_at f (address - e.base) n))).list ≤ most
          → length (run e limit f fault).list ≤ suc most
          → length (run e limit f (fetch address n fault rest)).list ≤ suc most
      go true test on out = rw (run_had address n fault rest test) (omega arith)
      go false test on out = rw (run_fault address n fault rest test) out

  pub run_every : (P : ℕ → Type 0) (t : Rule A) → Every P t → Each (λ p. P p.length) (run e limit f t).list
  run_every P (done x) all = rw (run_done x) tt
  run_every P (fetch address n fault rest) all =
      go (fetched e limit address (8 * n)) refl
      (run_every P (rest (words_at f (address - e.base) n)) (all.1.1 (words_at f (address - e.base) n)))
      (run_every P fault all.1.0)
    where
      go :
          (b : Bool) → fetched e limit address (8 * n) ≡ b
          → Each (λ p. P p.length) (run e limit f (rest (words_at f (address - e.base) n))).list
          → Each (λ p. P p.length) (run e limit f fault).list
          → Each (λ p. P p.length) (run e limit f (fetch address n fault rest)).list
      go true test on out = rw (run_had address n fault rest test) (all.0, on)
      go false test on out = rw (run_fault address n fault rest test) out

  pub run_gives : (P : A → Type 0) (t : Rule A) → Gives P t → P (run e limit f t).answer
  run_gives P (done x) all = rw (run_done x) all
  run_gives P (fetch address n fault rest) all =
      go (fetched e limit address (8 * n)) refl
      (run_gives P (rest (words_at f (address - e.base) n)) (all.1 (words_at f (address - e.base) n)))
      (run_gives P fault all.0)
    where
      go :
          (b : Bool) → fetched e limit address (8 * n) ≡ b
          → P (run e limit f (rest (words_at f (address - e.base) n))).answer → P (run e limit f fault).answer
          → P (run e limit f (fetch address n fault rest)).answer
      go true test on out = rw (run_had address n fault rest test) on
      go false test on out = rw (run_fault address n fault rest test) out

-- the words of a descriptor are those of any memory that agrees on its piece
pub words_agree :
    (e : Extent) (f g : ℕ → ℕ) (address n : ℕ) → e.base ≤ address → Agree e f g (descriptor address n)
    → words_at f (address - e.base) n ≡ words_at g (address - e.base) n
words_agree e f g address n from agree = fun_ext (λ k. go k (ltb k n) refl)
  where
    start : ℕ
    start = address - e.base

    same : (i : ℕ) → start ≤ i → i < start + 8 * n → f i ≡ g i
    same i low high =
        let back : i + e.base - e.base ≡ i = omega arith in
        rw back at (agree (i + e.base) (omega arith) (omega arith))

    go : (k : ℕ) (b : Bool) → ltb k n ≡ b → (if b then word f (start + 8 * k) else 0) ≡ (if b then word g (start + 8 * k) else 0)
    go k true test =
        let small : k < n = ltb-true k n test in
        word_agree f g start (start + 8 * n) (start + 8 * k) same (omega arith) (omega arith)
    go k false test = refl

module _ {A : Type 0} (e : Extent) (limit : ℕ) (f g : ℕ → ℕ) where
  pub depends : (t : Rule A) → Each (Agree e f g) (run e limit f t).list → run e limit g t ≡ run e limit f t
  depends (done x) agree = rw (run_done e limit f x, run_done e limit g x)
  depends (fetch address n fault rest) agree =
      go (fetched e limit address (8 * n)) refl (depends (rest (words_at f (address - e.base) n))) (depends fault)
    where
      F : Rule A
      F = rest (words_at f (address - e.base) n)

      go :
          (b : Bool) → fetched e limit address (8 * n) ≡ b
          → (Each (Agree e f g) (run e limit f F).list → run e limit g F ≡ run e limit f F)
          → (Each (Agree e f g) (run e limit f fault).list → run e limit g fault ≡ run e limit f fault)
          → run e limit g (fetch address n fault rest) ≡ run e limit f (fetch address n fault rest)
      go true test on out =
          let parts = rw (run_had e limit f address n fault rest test) at agree in
          let from = (fetched_lies e limit (descriptor address n) test).from in
          let same = words_agree e f g address n from parts.0 in
          rw (run_had e limit f address n fault rest test, run_had e limit g address n fault rest test, ← same, on parts.1)
      go false test on out =
          let part = rw (run_fault e limit f address n fault rest test) at agree in
          rw (run_fault e limit f address n fault rest test, run_fault e limit g address n fault rest test) (out part)

-- a list in front of what a run gives
abbrev pub after : {A : Type 0} → List Piece → Ran A → Ran A
after l r = record { answer = r.answer; list = l ++ r.list }

module _ {A B : Type 0} (e : Extent) (limit : ℕ) (f : ℕ → ℕ) (next : A → Rule B) where
  pub run_then :
      (t : Rule A) → run e limit f (and_then t next) ≡ after (run e limit f t).list (run e limit f (next (run e limit f t).answer))
  unfolding and_then
  run_then (done x) = rw (run_done e limit f x)
  run_then (fetch address n fault rest) =
      go (fetched e limit address (8 * n)) refl (run_then (rest (words_at f (address - e.base) n))) (run_then fault)
    where
      F : Rule A
      F = rest (words_at f (address - e.base) n)

      both_ways : Rule A → Type 0
      both_ways t = run e limit f (and_then t next) ≡ after (run e limit f t).list (run e limit f (next (run e limit f t).answer))

      go : (b : Bool) → fetched e limit address (8 * n) ≡ b → both_ways F → both_ways fault → both_ways (fetch address n fault rest)
      go true test on out =
          rw (run_had e limit f address n fault rest test, run_had e limit f address n (and_then fault next) (λ w. and_then (rest w) next) test)
          (ap (listed (descriptor address n)) on)
      go false test on out =
          rw (run_fault e limit f address n fault rest test, run_fault e limit f address n (and_then fault next) (λ w. and_then (rest w) next) test) out

-- how many fetches a rule may make, and one rule and then another
pub fetches_more : {A : Type 0} (t : Rule A) (m n : ℕ) → m ≤ n → Fetches m t → Fetches n t
fetches_more (done x) m n less few = tt
fetches_more (fetch address k fault rest) zero n less few = absurd few
fetches_more (fetch address k fault rest) (suc m) zero less few = absurd (omega arith)
fetches_more (fetch address k fault rest) (suc m) (suc n) less few =
    (fetches_more fault (suc m) (suc n) less few.0, λ w. fetches_more (rest w) m n (omega arith) (few.1 w))

module _ {A B : Type 0} (n : ℕ) (next : A → Rule B) (more : (x : A) → Fetches n (next x)) where
  pub fetches_then : (t : Rule A) (m total : ℕ) → m + n ≤ total → Fetches m t → Fetches total (and_then t next)
  unfolding and_then
  fetches_then (done x) m total less few = fetches_more (next x) n total (omega arith) (more x)
  fetches_then (fetch address k fault rest) zero total less few = absurd few
  fetches_then (fetch address k fault rest) (suc m) zero less few = absurd (omega arith)
  fetches_then (fetch address k fault rest) (suc m) (suc total) less few =
      (fetches_then fault (suc m) (suc total) less few.0, λ w. fetches_then (rest w) m total (omega arith) (few.1 w))

pub every_then :
    {A B : Type 0} (P : ℕ → Type 0) (next : A → Rule B) → ((x : A) → Every P (next x))
    → (t : Rule A) → Every P t → Every P (and_then t next)
unfolding and_then
every_then P next more (done x) all = more x
every_then P next more (fetch address n fault rest) all =
    (all.0, (every_then P next more fault all.1.0, λ w. every_then P next more (rest w) (all.1.1 w)))

pub gives_then :
    {A B : Type 0} (P : A → Type 0) (Q : B → Type 0) (next : A → Rule B) → ((x : A) → P x → Gives Q (next x))
    → (t : Rule A) → Gives P t → Gives Q (and_then t next)
unfolding and_then
gives_then P Q next more (done x) all = more x all
gives_then P Q next more (fetch address n fault rest) all =
    (gives_then P Q next more fault all.0, λ w. gives_then P Q next more (rest w) (all.1 w))
