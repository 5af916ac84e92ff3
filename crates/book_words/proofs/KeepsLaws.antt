-- A book that is opened isn't malformed, and filling a slot leaves it so.
--     registers_same, header_same     the header's words say all of the header
--     opened_empty, opened_length, opened_registers, open_well  a book just opened
--     kept_well                       a slot filled
-- Assumes: nothing.
use Rattle.std.specs.Prelude.{Some}
use Prim.Native.Nat.{ℕ, ◌+◌, ◌-◌, ◌*◌, ◌≤◌, ◌<◌, ◌^◌}
use native.Mathlib.Omega.{arith}
use native.Mathlib.Nat.{mod-eq_of_lt}
use mathlib.Core.Path.{◌≡◌, refl, sym, ap, ◌∙◌}
use mathlib.Core.Bool.{Bool, true, false}
use mathlib.Core.List.{List, [], ◌∷◌, ◌++◌}
use borrow.Author.Tests.{eqb-true, eqb-false, lt-ltb}
use lib.Dec.{eqb}
use lib.ListN.{length, get_or, replicate, get_or-replicate, get_or-append}
use lib.Seq.{get_or-append-add}
use Rattle.placed.proofs.FromLaws.{values_same, values_list, all_same, all_every}
use Rattle.bit_fields.specs.Bits.{in_bits}
use Rattle.ids.specs.Packing.{unpacked}
use Rattle.ids.specs.declared.Request.{Request}
use Rattle.registers.specs.Sizes.{refusal1}
use Rattle.registers.specs.Words.{register_words, registers_from, words_of_registers}
use Rattle.registers.specs.declared.Registers.{Registers}
use Rattle.memory_image.specs.Extent.{refusal2}
use Rattle.memory_image.specs.declared.Extent.{Extent}
use Rattle.answers.specs.Layout.{answer_words}
use Rattle.answer_words.specs.AnswerWords.{stands}
use Rattle.book_words.specs.Layout.{
  slots_most,
  book_words,
  registers_at,
  strtab_base_at,
  base_at,
  length_at,
  keys_from,
  slots_of,
  low_word,
  registers_of,
  key_at,
  kept_at,
  header_with,
  opened_with,
}
use Rattle.book_words.specs.Malformed.{slot_well, register_fits, registers_fit}
use Rattle.book_words.proofs.KeptLaws.{kept_before_lem, kept_key, kept_key_other, kept_block, kept_block_other}
use Rattle.book_words.proofs.WellLaws.{Held, held_to, held_from, Well}

-- two books with the same header
module _ (ws ws' : List ℕ) (same : (x : ℕ) → x < keys_from → get_or ws' x 0 ≡ get_or ws x 0) where
  pub registers_same : registers_of ws' ≡ registers_of ws
  unfolding registers_of
  registers_same =
      rw (
        values_same (λ j. low_word (get_or ws' (registers_at + j) 0)) (λ j. low_word (get_or ws (registers_at + j) 0)) register_words 0
            (λ j low high. ap low_word (same (registers_at + j) (omega arith))),
        same strtab_base_at (omega arith),
      )

  fit_same : registers_fit ws' ≡ registers_fit ws
  fit_same =
      all_same (register_fits ws') (register_fits ws) register_words 0
      (λ j low high. ap (λ (x : ℕ). in_bits x 32) (same (registers_at + j) (omega arith)))

  pub header_same : Well ws → ((i : ℕ) → i < slots_most → slot_well ws' i ≡ true) → Well ws'
  header_same well slots =
      record {
        some = λ none. well.some (sym (same 0 (omega arith)) ∙ none);
        few = rw (same 0 (omega arith)) well.few;
        fit = fit_same ∙ well.fit;
        registers = rw registers_same well.registers;
        extent = rw (same base_at (omega arith), same length_at (omega arith)) well.extent;
        slots = slots;
      }

-- a slot filled
module _ (ws : List ℕ) (j key : ℕ) (block : List ℕ) (full : length ws ≡ book_words) (well : Well ws) (room : j < slots_of ws)
    (new : (i : ℕ) → i < slots_most → key_at ws i ≡ key → ⊥) {request : Request} (is_request : unpacked (key - 1) ≡ Some request)
    (long : length block ≡ answer_words) (answer : stands block ≡ true) where
  small_slot : j < slots_most
  small_slot = omega (arith, well.few)

  kept : List ℕ
  kept = kept_at ws j key block

  kept_header : (x : ℕ) → x < keys_from → get_or kept x 0 ≡ get_or ws x 0
  unfolding kept
  kept_header x small = kept_before_lem ws j key block full small_slot x (omega arith) (λ e. omega arith)

  pub kept_well : Well (kept_at ws j key block)
  unfolding kept
  kept_well = header_same ws kept kept_header well (λ i small. held_from kept i small (slot i small (eqb i j) refl))
    where
      other_key : (i : ℕ) → i < slots_most → (i ≡ j → ⊥) → key_at kept i ≡ key_at ws i
      other_key i small other = kept_key_other ws j key block full small_slot i small other

      this_key : key_at kept j ≡ key
      this_key = kept_key ws j key block full small_slot

      slot : (i : ℕ) → i < slots_most → (t : Bool) → eqb i j ≡ t → (key_at kept i ≡ 0 → ⊥) → Held kept i
      slot i small true e held =
          let is : i ≡ j = eqb-true i j e in
          rw is
          (record {
            inside = rw (kept_header 0 (omega arith)) room;
            request = request;
            is_request = rw this_key is_request;
            alone = λ k less same. new k (omega arith) (sym (other_key k (omega arith) (λ q. omega arith)) ∙ same ∙ this_key);
            answer = rw (kept_block ws j key block full small_slot long) answer;
          })
      slot i small false e held =
          let other : i ≡ j → ⊥ = eqb-false i j e in
          let same_key = other_key i small other in
          let was = held_to ws i small (well.slots i small) (λ none. held (same_key ∙ none)) in
          record {
            inside = rw (kept_header 0 (omega arith)) was.inside;
            request = was.request;
            is_request = ap (λ (k : ℕ). unpacked (k - 1)) same_key ∙ was.is_request;
            alone = λ k less same. before i small other same_key was k less same (eqb k j) refl;
            answer = rw (kept_block_other ws j key block full small_slot i other) was.answer;
          }
        where
          before :
              (i : ℕ) → i < slots_most → (i ≡ j → ⊥) → key_at kept i ≡ key_at ws i → Held ws i → (k : ℕ) → k < i → key_at kept k ≡ key_at kept i
              → (t : Bool) → eqb k j ≡ t → ⊥
          before i small other same_key was k less same true e =
              let is : k ≡ j = eqb-true k j e in
              new i small (sym same_key ∙ sym same ∙ rw is this_key)
          before i small other same_key was k less same false e =
              was.alone k less (sym (other_key k (omega arith) (eqb-false k j e)) ∙ same ∙ same_key)

-- a book just opened: every slot is empty
module _ (r : Registers) (e : Extent) (slots : ℕ) where
  empty : List ℕ
  empty = replicate (slots_most + slots_most * answer_words) 0

  after_registers : List ℕ
  after_registers = r.strtab_base ∷ (e.base ∷ (e.length ∷ empty))

  opened_register : (j : ℕ) → j < register_words → get_or (opened_with r e slots) (registers_at + j) 0 ≡ get_or (words_of_registers r) j 0
  unfolding opened_with empty after_registers
  opened_register j few =
      get_or-append-add (slots ∷ []) (words_of_registers r ++ after_registers) j 0
      ∙ get_or-append (words_of_registers r) after_registers 0 j few

  pub opened_empty : (i : ℕ) → i < slots_most → key_at (opened_with r e slots) i ≡ 0
  unfolding opened_with empty
  opened_empty i small =
      get_or-append-add (header_with r e slots) empty i 0
      ∙ get_or-replicate (slots_most + slots_most * answer_words) i 0 0 (omega arith)

  pub opened_length : length (opened_with r e slots) ≡ book_words
  unfolding opened_with
  opened_length = refl

  module _ (narrow : (j : ℕ) → j < register_words → get_or (words_of_registers r) j 0 < 2 ^ 32) where
    pub opened_registers : registers_of (opened_with r e slots) ≡ r
    unfolding registers_of opened_with
    opened_registers =
        ap (λ (words : List ℕ). registers_from words r.strtab_base)
        (values_same (λ j. low_word (get_or (opened_with r e slots) (registers_at + j) 0)) (λ j. get_or (words_of_registers r) j 0) register_words 0
        (λ j low high. rw (opened_register j (omega arith)) (mod-eq_of_lt (narrow j (omega arith))))
        ∙ values_list (words_of_registers r))

    pub open_well : refusal1 r ≡ false → refusal2 e ≡ false → (slots ≡ 0 → ⊥) → slots ≤ slots_most → Well (opened_with r e slots)
    unfolding opened_with
    open_well first second some few =
        record {
          some = some;
          few = few;
          fit =
              all_every (register_fits (opened_with r e slots)) register_words 0
              (λ j low high. rw (opened_register j (omega arith)) (lt-ltb _ _ (narrow j (omega arith))));
          registers = rw opened_registers first;
          extent = second;
          slots = λ i small. held_from (opened_with r e slots) i small (λ held. absurd (held (opened_empty i small)));
        }
