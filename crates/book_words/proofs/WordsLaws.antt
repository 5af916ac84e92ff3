-- The header written, and read as the code reads it.
--     other_is, same_extent  refusal 6's test; one that is not given
--     registers_is      the registers from their words
--     block_is          a block from its words
--     Opening, opening_starts, opening_more, opening_ends  every word of a book that is opened
-- Assumes: nothing.
use Prim.Native.Nat.{ℕ, ◌+◌, ◌-◌, ◌*◌, ◌≤◌, ◌<◌}
use native.Mathlib.Omega.{arith}
use mathlib.Core.Path.{◌≡◌, refl, ◌∙◌}
use mathlib.Core.Bool.{Bool, false, not, ◌&&◌}
use mathlib.Core.List.{List, [], ◌∷◌, ◌++◌}
use borrow.Author.Tests.{eqb-true, not-false}
use lib.Dec.{eqb}
use lib.ListN.{get_or, set, replicate}
use Rattle.number_laws.proofs.Tests.{both}
use Rattle.placed.specs.From.{values_from, from}
use Rattle.placed.specs.Placed.{Left}
use Rattle.placed.proofs.PlacedLaws.{placed_zeros}
use Rattle.placed.proofs.LeftLaws.{left_all, left_one, left_placed}
use Rattle.placed.proofs.FilledLaws.{Filled, filled_all, value_put, values_put}
use Rattle.registers.specs.Words.{register_words, registers_from, words_of_registers}
use Rattle.registers.specs.declared.Registers.{Registers}
use Rattle.memory_image.specs.declared.Extent.{Extent}
use Rattle.answers.specs.Layout.{answer_words}
use Rattle.book_words.specs.Layout.{
  slots_most,
  book_words,
  block_from,
  block_at,
  registers_at,
  strtab_base_at,
  base_at,
  length_at,
  low_word,
  registers_of,
  base_of,
  length_of,
  extent_held,
  header_with,
  opened_with,
  other_extent,
}

module _ (ws : List ℕ) where
  pub other_is :
      (e : Extent) {held : Extent} → held ≡ extent_held ws → {other : Bool} → other ≡ not (eqb e.base held.base && eqb e.length held.length)
      → other ≡ other_extent ws e.base e.length
  other_is e is_held is = is ∙ rw is_held

  pub same_extent : (base size : ℕ) → other_extent ws base size ≡ false → record { base = base; length = size } ≡ extent_held ws
  same_extent base size is =
      let same = both (eqb base (base_of ws)) (eqb size (length_of ws)) (not-false _ is) in
      rw (eqb-true base (base_of ws) same.0, eqb-true size (length_of ws) same.1)

  pub registers_is :
      {words : List ℕ} {j : ℕ} → Filled (λ k. low_word (get_or ws (registers_at + k) 0)) register_words words j → register_words ≤ j
      → {r : Registers} → r ≡ registers_from words (get_or ws strtab_base_at 0) → r ≡ registers_of ws
  unfolding registers_of
  registers_is filled past from_words = rw (from_words, filled_all _ register_words filled past)

  pub block_is :
      (i : ℕ) {words : List ℕ} {j : ℕ} → Filled (λ k. get_or ws (block_from i + k) 0) answer_words words j → answer_words ≤ j → words ≡ block_at ws i
  unfolding block_at
  block_is i filled past = filled_all _ answer_words filled past

-- a book that is opened: the words put one after the other into zeros, until none of the header's is left
module _ (r : Registers) (e : Extent) (slots : ℕ) where
  -- the number of slots was put, and j registers
  abbrev pub Opening : List ℕ → ℕ → Type 0
  Opening now j =
      Left (replicate book_words 0) 0 (header_with r e slots) now (registers_at + j)
      (from (words_of_registers r) (register_words - j) j ++ (r.strtab_base ∷ (e.base ∷ (e.length ∷ []))))

  pub opening_starts : Opening (set (replicate book_words 0) 0 slots) 0
  unfolding values_from
  opening_starts = left_one (left_all (replicate book_words 0) 0 (header_with r e slots) (omega arith)) slots _ refl refl

  module _ {now : List ℕ} {j : ℕ} (so_far : Opening now j) where
    pub opening_more :
        j < register_words → {words : List ℕ} → words ≡ words_of_registers r → Opening (set now (registers_at + j) (get_or words j 0)) (j + 1)
    opening_more more is = value_put _ register_words j _ so_far more (rw is) (omega arith)

    pub opening_ends :
        j ≤ register_words → register_words ≤ j
        → set (set (set now strtab_base_at r.strtab_base) base_at e.base) length_at e.length ≡ opened_with r e slots
    unfolding opened_with
    opening_ends most least =
        let all : j ≡ register_words = omega arith in
        let left = values_put _ register_words j _ so_far least in
        left_placed
        (left_one (left_one (left_one (rw all at left) r.strtab_base _ refl refl) e.base _ refl refl) e.length [] refl refl)
        refl
        ∙ placed_zeros (header_with r e slots) (slots_most + slots_most * answer_words)
