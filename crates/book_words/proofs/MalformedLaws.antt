-- Refusal 7, by the tests that the code makes.
--     slot_empty, slot_past, slot_none, slot_twice, slot_answer     one slot
--     few_slots, slot_below                                         a book that is not refused has at most slots_most slots
--     bad_none, bad_many, bad_word, bad_registers, bad_extent, bad_slots  the row
-- Assumes: nothing.
use Rattle.std.specs.Prelude.{None, Option, Some}
use Prim.Native.Nat.{ℕ, ◌-◌, ◌≤◌, ◌<◌}
use native.Mathlib.Omega.{arith}
use mathlib.Core.Path.{◌≡◌, sym, ◌∙◌}
use mathlib.Core.Bool.{Bool, true, false, not}
use mathlib.Core.List.{List}
use borrow.Author.Tests.{eq-eqb, ne_eqb, lt-ltb, le-ltb, le-leb, lt-leb, ltb-false, not-true, not-false}
use lib.Dec.{eqb, ltb}
use Rattle.number_laws.proofs.Tests.{not_both}
use Rattle.bit_fields.proofs.ChoiceLaws.{either, by_test}
use Rattle.ids.specs.Packing.{unpacked}
use Rattle.ids.specs.declared.Request.{Request}
use Rattle.registers.specs.Sizes.{refusal1}
use Rattle.registers.specs.declared.Registers.{Registers}
use Rattle.memory_image.specs.Extent.{refusal2}
use Rattle.memory_image.specs.declared.Extent.{Extent}
use Rattle.answer_words.specs.AnswerWords.{stands}
use Rattle.book_words.specs.Layout.{slots_most, slots_of, registers_of, extent_held, key_at, block_at}
use Rattle.book_words.specs.Malformed.{first_from, slot_well, well_from, registers_fit, refusal7}

module _ (ws : List ℕ) (i : ℕ) where
  pub slot_empty : key_at ws i ≡ 0 → true ≡ slot_well ws i
  unfolding slot_well
  slot_empty none = simp (eq-eqb _ _ none)

  module _ (held : key_at ws i ≡ 0 → ⊥) where
    pub slot_past : slots_of ws ≤ i → false ≡ slot_well ws i
    unfolding slot_well
    slot_past past = simp (ne_eqb _ _ held, le-leb _ _ past)

    module _ (inside : i < slots_of ws) {said : Option Request} (is : said ≡ unpacked (key_at ws i - 1)) where
      pub slot_none : said ≡ None → false ≡ slot_well ws i
      unfolding slot_well
      slot_none none = simp (ne_eqb _ _ held, lt-leb _ _ inside, ← is, none)

      module _ {request : Request} (some : said ≡ Some request) {first : ℕ} (found : first ≡ first_from ws (key_at ws i) slots_most 0) where
        pub slot_twice : (first ≡ i → ⊥) → false ≡ slot_well ws i
        unfolding slot_well
        slot_twice other = simp (ne_eqb _ _ held, lt-leb _ _ inside, ← is, some, ← found, ne_eqb _ _ other)

        pub slot_answer :
            first ≡ i → {block : List ℕ} → block ≡ block_at ws i → {answer : Bool} → answer ≡ stands block → answer ≡ slot_well ws i
        unfolding slot_well
        slot_answer same is_block stood =
            rw (stood, is_block) (simp (ne_eqb _ _ held, lt-leb _ _ inside, ← is, some, ← found, eq-eqb _ _ same))

module _ (ws : List ℕ) where
  pub bad_none : slots_of ws ≡ 0 → true ≡ refusal7 ws
  unfolding refusal7
  bad_none none = simp (eq-eqb _ _ none)

  module _ (some : slots_of ws ≡ 0 → ⊥) where
    pub bad_many : slots_most < slots_of ws → true ≡ refusal7 ws
    unfolding refusal7
    bad_many many = simp (ne_eqb _ _ some, lt-ltb _ _ many)

    module _ (few : slots_of ws ≤ slots_most) {fit : Bool} (is_fit : fit ≡ registers_fit ws) where
      pub bad_word : not fit ≡ true → true ≡ refusal7 ws
      unfolding refusal7
      bad_word bad = simp (ne_eqb _ _ some, le-ltb _ _ few, ← is_fit, not-true fit bad)

      module _ (fits : not fit ≡ false) {r : Registers} (is_r : r ≡ registers_of ws) {first : Bool} (is_first : first ≡ refusal1 r) where
        pub bad_registers : first ≡ true → true ≡ refusal7 ws
        unfolding refusal7
        bad_registers bad = simp (ne_eqb _ _ some, le-ltb _ _ few, ← is_fit, not-false fit fits, ← is_r, ← is_first, bad)

        module _ (passed : first ≡ false) {e : Extent} (is_e : e ≡ extent_held ws) {second : Bool} (is_second : second ≡ refusal2 e) where
          pub bad_extent : second ≡ true → true ≡ refusal7 ws
          unfolding refusal7
          bad_extent bad =
              simp (ne_eqb _ _ some, le-ltb _ _ few, ← is_fit, not-false fit fits, ← is_r, ← is_first, passed, ← is_e, ← is_second, bad)

          pub bad_slots : second ≡ false → {well : Bool} → well ≡ well_from ws slots_most 0 → not well ≡ refusal7 ws
          unfolding refusal7
          bad_slots good is =
              rw is
              (simp (ne_eqb _ _ some, le-ltb _ _ few, ← is_fit, not-false fit fits, ← is_r, ← is_first, passed, ← is_e, ← is_second, good))

few_at_most : (ws : List ℕ) → refusal7 ws ≡ false → slots_of ws ≤ slots_most
unfolding refusal7
few_at_most ws =
    either Few (eqb (slots_of ws) 0) not_both
    (by_test Few (ltb slots_most (slots_of ws)) (λ many. not_both) (λ few rest. ltb-false slots_most (slots_of ws) few))
  where
    Few : Bool → Type 0
    Few refused = refused ≡ false → slots_of ws ≤ slots_most

pub few_slots : (ws : List ℕ) {bad : Bool} → bad ≡ refusal7 ws → bad ≡ false → slots_of ws ≤ slots_most
few_slots ws is good = few_at_most ws (sym is ∙ good)

pub slot_below : (ws : List ℕ) (slot : ℕ) {bad : Bool} → bad ≡ refusal7 ws → bad ≡ false → slot < slots_of ws → slot < slots_most
slot_below ws slot is good held = omega (arith, few_slots ws is good)
