-- A descriptor that was fetched, as the code reads it and as a rule is handed it.
--     had_at              what a fetch that found it says
--     read_word           a word of it, as it is read at its place, is the one that the rule's rest is handed
--     read_words          and so are all the words of one of eight
-- Assumes: nothing.
use Prim.Native.Nat.{ℕ, ◌+◌, ◌-◌, ◌*◌, ◌≤◌, ◌<◌}
use native.Mathlib.Omega.{arith}
use mathlib.Core.Path.{◌≡◌, refl, sym, fun_ext, ◌∙◌}
use mathlib.Core.Bool.{Bool, true, false}
use mathlib.Core.List.{List}
use borrow.Author.Tests.{lt-ltb, ltb-true, ltb-false}
use lib.Dec.{ltb}
use lib.ListN.{length}
use Rattle.memory_image.specs.Extent.{extent_of, fetch_rule}
use Rattle.memory_image.specs.Words.{bytes, word_of}
use Rattle.memory_image.specs.Rule.{words_at}
use Rattle.memory_image.specs.declared.Fetched.{Fetched}
use Rattle.memory_image.specs.declared.Fetched.TheVariants.{At}
use Rattle.memory_image.proofs.ExtentLaws.{Had, at_place}
use Rattle.memory_image.proofs.WordsLaws.{word_in_lem, of_some, of_none}

module _ (base : ℕ) (memory : List ℕ) (limit address n : ℕ) {said : Fetched}
    (is : said ≡ fetch_rule (extent_of base memory) limit address (8 * n)) {place : ℕ} (at : said ≡ At place) where
  pub had_at : Had (extent_of base memory) limit address (8 * n) place
  had_at = at_place (extent_of base memory) limit address (8 * n) is at

  pub read_word : (k : ℕ) → k < n → k < 8 → word_of memory place k ≡ words_at (bytes memory) (address - base) n k
  read_word k few small =
      let inside = had_at.inside in
      let fits : place + 8 * k + 8 ≤ length memory = omega arith in
      sym (of_some memory place k small) ∙ simp (word_in_lem memory (place + 8 * k) fits, lt-ltb _ _ few, ← had_at.place_is)

module _ (base : ℕ) (memory : List ℕ) (limit address : ℕ) {said : Fetched} {place : ℕ}
    (is : said ≡ fetch_rule (extent_of base memory) limit address 64) (at : said ≡ At place) where
  pub read_words : word_of memory place ≡ words_at (bytes memory) (address - base) 8
  read_words = fun_ext (λ k. go k (ltb k 8) refl)
    where
      go : (k : ℕ) (b : Bool) → ltb k 8 ≡ b → word_of memory place k ≡ words_at (bytes memory) (address - base) 8 k
      go k true few = read_word base memory limit address 8 is at k (ltb-true k 8 few) (ltb-true k 8 few)
      go k false past = sym (of_none memory place k (ltb-false k 8 past)) ∙ simp past
