-- A rule run with its list in an answer's words, for every rule.
--     walk_done               a rule that is done leaves the words
--     walk_fault              a descriptor that could not be fetched ends the rule, by the address that was wanted
--     read_one, read_all      one that was read is listed, and the rule goes on with its words: its first word ends the rule; all of eight
--     walk_then               one rule and then another
--     walk_run                from no list on, the words have the list that `run` gives
-- Assumes: nothing.
use Prim.Native.Nat.{ℕ, ◌+◌, ◌-◌, ◌*◌, ◌≤◌, ◌<◌}
use native.Mathlib.Nat.{zero-add}
use native.Mathlib.Omega.{arith}
use mathlib.Core.Path.{◌≡◌, refl, sym, ap, ◌∙◌}
use mathlib.Core.Bool.{Bool, true, false}
use mathlib.Core.List.{List, [], ◌∷◌, ◌++◌, append_assoc, append-nil}
use lib.ListN.{length, replicate, length-append}
use Rattle.memory_image.specs.Extent.{extent_of, end_of, fetched, fetch_rule, wanted}
use Rattle.memory_image.specs.declared.Extent.{Extent}
use Rattle.memory_image.specs.Words.{bytes, word_of}
use Rattle.memory_image.specs.Rule.{Rule, done, fetch, Ran, descriptor, words_at, run, and_then}
use Rattle.memory_image.specs.declared.Piece.{Piece}
use Rattle.memory_image.specs.declared.Fetched.{Fetched}
use Rattle.memory_image.specs.declared.Fetched.TheVariants.{At, Outside}
use Rattle.memory_image.proofs.ExtentLaws.{outside, wanted_is}
use Rattle.memory_image.proofs.DescriptorLaws.{had_at, read_word, read_words}
use Rattle.memory_image.proofs.Claims.{fault_not_listed, fetched_is_listed}
use Rattle.memory_image.proofs.RunLaws.{run_done}
use Rattle.answers.specs.Layout.{pieces_most, answer_words}
use Rattle.answers.specs.Pieces.{pieces_of, only_list, push_piece}
use Rattle.answers.specs.Walk.{RanIn, run_in, walked, Walks, read_put, Reads}
use Rattle.answers.proofs.PiecesLaws.{only_none, only_more}

-- a step of a run
module _ {A : Type 0} (e : Extent) (limit : ℕ) (f : ℕ → ℕ) where
  in_done : (x : A) (ws : List ℕ) → run_in e limit f (done x) ws ≡ record { answer = x; words = ws }
  unfolding run_in
  in_done x ws = refl

  module _ (address n : ℕ) (fault : Rule A) (rest : (ℕ → ℕ) → Rule A) (ws : List ℕ) where
    in_had :
        fetched e limit address (8 * n) ≡ true
        → run_in e limit f (fetch address n fault rest) ws
        ≡ run_in e limit f (rest (words_at f (address - e.base) n)) (push_piece ws (descriptor address n))
    unfolding run_in
    in_had test = rw test

    in_fault :
        fetched e limit address (8 * n) ≡ false → run_in e limit f (fetch address n fault rest) ws ≡ run_in e limit f fault ws
    unfolding run_in
    in_fault test = rw test

module _ {A B : Type 0} (e : Extent) (limit : ℕ) (f : ℕ → ℕ) (next : A → Rule B) where
  Chained : Rule A → List ℕ → Type 0
  Chained t ws =
      run_in e limit f (and_then t next) ws ≡ run_in e limit f (next (run_in e limit f t ws).answer) (run_in e limit f t ws).words

  in_then :
      (t : Rule A) (ws : List ℕ)
      → run_in e limit f (and_then t next) ws ≡ run_in e limit f (next (run_in e limit f t ws).answer) (run_in e limit f t ws).words
  unfolding and_then Chained
  in_then (done x) ws = rw (in_done e limit f x ws)
  in_then (fetch address n fault rest) ws =
      go (fetched e limit address (8 * n)) refl
      (in_then (rest (words_at f (address - e.base) n)) (push_piece ws (descriptor address n))) (in_then fault ws)
    where
      go :
          (b : Bool) → fetched e limit address (8 * n) ≡ b
          → Chained (rest (words_at f (address - e.base) n)) (push_piece ws (descriptor address n)) → Chained fault ws
          → Chained (fetch address n fault rest) ws
      go true test on out =
          rw (
            in_had e limit f address n fault rest ws test,
            in_had e limit f address n (and_then fault next) (λ w. and_then (rest w) next) ws test,
          ) on
      go false test on out =
          rw (
            in_fault e limit f address n fault rest ws test,
            in_fault e limit f address n (and_then fault next) (λ w. and_then (rest w) next) ws test,
          ) out

-- the words grow by the list that `run` gives, while there is room
abbrev pub grown : {A : Type 0} → List Piece → Ran A → RanIn A
grown l r = record { answer = r.answer; words = only_list (pieces_of (l ++ r.list)) }

module _ {A : Type 0} (e : Extent) (limit : ℕ) (f : ℕ → ℕ) where
  Grows : Rule A → List Piece → Type 0
  Grows t l =
      length l + length (run e limit f t).list ≤ pieces_most → run_in e limit f t (only_list (pieces_of l)) ≡ grown l (run e limit f t)

  in_run :
      (t : Rule A) (l : List Piece) → length l + length (run e limit f t).list ≤ pieces_most
      → run_in e limit f t (only_list (pieces_of l)) ≡ grown l (run e limit f t)
  unfolding Grows
  in_run (done x) l room = rw (in_done e limit f x, run_done e limit f x, append-nil)
  in_run (fetch address n fault rest) l room =
      go (fetched e limit address (8 * n)) refl
      (in_run (rest (words_at f (address - e.base) n)) (l ++ (descriptor address n ∷ []))) (in_run fault l) room
    where
      go :
          (b : Bool) → fetched e limit address (8 * n) ≡ b
          → Grows (rest (words_at f (address - e.base) n)) (l ++ (descriptor address n ∷ [])) → Grows fault l
          → Grows (fetch address n fault rest) l
      go true test on out room =
          let room' = rw (fetched_is_listed A e limit f address n fault rest test) at room in
          rw (
            in_had e limit f address n fault rest (only_list (pieces_of l)) test,
            fetched_is_listed A e limit f address n fault rest test,
            only_more l (descriptor address n) (omega arith),
          ) (on (rw length-append (omega arith)) ∙ rw append_assoc)
      go false test on out room =
          rw (in_fault e limit f address n fault rest (only_list (pieces_of l)) test, fault_not_listed A e limit f address n fault rest test)
          (out (rw (fault_not_listed A e limit f address n fault rest test) at room))

-- a descriptor that was read lies at a place, and is listed
record Had (base : ℕ) (memory : List ℕ) (address n : ℕ) (ws : List ℕ) (place : ℕ) (longer : List ℕ) : Type 0 where
  at : At place ≡ fetch_rule (extent_of base memory) (end_of (extent_of base memory)) address (8 * n)
  pushed : longer ≡ push_piece ws (record { address = address; length = 8 * n })

had :
    (base : ℕ) (memory : List ℕ) (address n : ℕ) {ws : List ℕ} {said : Fetched} {longer : List ℕ}
    → Reads base memory address (8 * n) ws said longer → {place : ℕ} → said ≡ At place → Had base memory address n ws place longer
unfolding read_put
had base memory address n reads is = record { at = rw (← is) reads.result; pushed = reads.words ∙ rw is }

-- the same of a function that walks
module _ (base : ℕ) (memory : List ℕ) {A : Type 0} where
  -- two rules of which one goes on as the other
  goes_on :
      {s t : Rule A} {ws longer : List ℕ} → walked base memory s ws ≡ walked base memory t longer → {r : A} {after : List ℕ}
      → Walks base memory t longer r after → Walks base memory s ws r after
  goes_on same walk =
      record {
        result = walk.result ∙ ap (λ (ran : RanIn A). ran.answer) (sym same);
        words = walk.words ∙ ap (λ (ran : RanIn A). ran.words) (sym same);
      }

  pub walk_done : {x r : A} → r ≡ x → (ws : List ℕ) → Walks base memory (done x) ws r ws
  walk_done {x} is ws =
      let ends = in_done (extent_of base memory) (end_of (extent_of base memory)) (bytes memory) x ws in
      record {
        result = is ∙ ap (λ (ran : RanIn A). ran.answer) (sym ends);
        words = ap (λ (ran : RanIn A). ran.words) (sym ends);
      }

  module _ (address n : ℕ) {ws : List ℕ} {said : Fetched} {longer : List ℕ} (reads : Reads base memory address (8 * n) ws said longer) where
    -- what fails ends the rule, by the address that was wanted
    pub walk_fault :
        (fault : ℕ → A) (rest : (ℕ → ℕ) → Rule A) {a got : ℕ} → said ≡ Outside a → got ≡ wanted said
        → Walks base memory (fetch address n (done (fault address)) rest) ws (fault got) longer
    unfolding read_put
    walk_fault fault rest out told =
        rw (reads.words, out)
        (goes_on
        (in_fault (extent_of base memory) (end_of (extent_of base memory)) (bytes memory) address n (done (fault address)) rest ws
        (outside (extent_of base memory) (end_of (extent_of base memory)) address (8 * n) reads.result out))
        (walk_done (ap fault (wanted_is (extent_of base memory) (end_of (extent_of base memory)) address (8 * n) reads.result out told)) ws))

    -- what is had is listed, and the rule goes on with its words
    module _ (fault : Rule A) (rest : (ℕ → ℕ) → Rule A) {place : ℕ} (at : said ≡ At place) where
      walk_read :
          {r : A} {after : List ℕ} → Walks base memory (rest (words_at (bytes memory) (address - base) n)) longer r after
          → Walks base memory (fetch address n fault rest) ws r after
      walk_read walk =
          goes_on
          (in_had (extent_of base memory) (end_of (extent_of base memory)) (bytes memory) address n fault rest ws
          (had_at base memory (end_of (extent_of base memory)) address n (had base memory address n reads at).at refl).test)
          (rw (had base memory address n reads at).pushed at walk)

    -- a descriptor of one word, which ends the rule
    module _ (fault : Rule A) (next : ℕ → A) where
      pub read_one :
          0 < n → {place word : ℕ} → said ≡ At place → word ≡ word_of memory place 0 → {r : A} → r ≡ next word
          → Walks base memory (fetch address n fault (λ w. done (next (w 0)))) ws r longer
      read_one some at read says =
          walk_read fault (λ w. done (next (w 0))) at
          (walk_done
          (says
          ∙ ap next (read ∙ read_word base memory (end_of (extent_of base memory)) address n (had base memory address n reads at).at refl 0 some (omega arith)))
          longer)

  -- a descriptor of eight words, read at its place
  pub read_all :
      (address : ℕ) {ws : List ℕ} {said : Fetched} {longer : List ℕ} → Reads base memory address 64 ws said longer → (fault : Rule A)
      (rest : (ℕ → ℕ) → Rule A) {place : ℕ} → said ≡ At place → {r : A} {after : List ℕ}
      → Walks base memory (rest (word_of memory place)) longer r after → Walks base memory (fetch address 8 fault rest) ws r after
  read_all address reads fault rest at walk =
      walk_read address 8 reads fault rest at
      (rw (read_words base memory (end_of (extent_of base memory)) address (had base memory address 8 reads at).at refl) at walk)

  pub walk_run :
      (t : Rule A) {r : A} {after : List ℕ} → Walks base memory t (replicate answer_words 0) r after
      → length (run (extent_of base memory) (end_of (extent_of base memory)) (bytes memory) t).list ≤ pieces_most
      → (r ≡ (run (extent_of base memory) (end_of (extent_of base memory)) (bytes memory) t).answer)
      × (after ≡ only_list (pieces_of (run (extent_of base memory) (end_of (extent_of base memory)) (bytes memory) t).list))
  walk_run t walk few =
      let grew = in_run (extent_of base memory) (end_of (extent_of base memory)) (bytes memory) t [] (rw zero-add few) in
      let from = rw only_none at walk in
      (from.result ∙ rw grew, from.words ∙ rw grew)

pub walk_then :
    (base : ℕ) (memory : List ℕ) {A B : Type 0} (t : Rule A) (next : A → Rule B) (ws : List ℕ) {x : A} {mid : List ℕ}
    → Walks base memory t ws x mid → {r : B} {after : List ℕ} → Walks base memory (next x) mid r after
    → Walks base memory (and_then t next) ws r after
walk_then base memory t next ws first second =
    goes_on base memory
    (in_then (extent_of base memory) (end_of (extent_of base memory)) (bytes memory) next t ws)
    (rw (first.result, first.words) at second)
