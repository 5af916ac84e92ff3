-- Each way out of open and ask, on plain values.
--     open_first, open_second, open_none, open_many, open_done     open
--     keep_kept, keep_full                                         an answer's words
--     anew_refused, anew_kept                                      a new lookup, by the book's registers
--     ask_malformed, ask_other, ask_third, ask_held, ask_new       ask, into an answer's words
--     key_fits                                                     a key does not wrap
--     ask_told                                                     a reply is read back from what was said and its words
-- Assumes: nothing.
use Rattle.answers.specs.declared.refusals.Refusal.TheVariants as refusal
use Rattle.std.specs.Prelude.{Err, Ok, Result}
use Rattle.answers.specs.declared.refusals.Refusal.{Refusal}
use Prim.Native.Nat.{ℕ, ◌+◌, ◌^◌, ◌≤◌, ◌<◌}
use native.Mathlib.Omega.{arith}
use mathlib.Core.Path.{◌≡◌, refl, ap, ◌∙◌}
use mathlib.Core.Bool.{Bool, true, false}
use mathlib.Core.List.{List}
use borrow.Author.Tests.{eq-eqb, ne_eqb, lt-ltb, le-ltb}
use lib.Dec.{ltb}
use lib.ListN.{length, replicate}
use Rattle.bit_fields.proofs.ChoiceLaws.{either}
use Rattle.ids.specs.Ids.{refusal3}
use Rattle.ids.specs.Packing.{packed}
use Rattle.ids.specs.declared.Request.{Request}
use Rattle.ids.proofs.PackingLaws.{packed_small}
use Rattle.registers.specs.Sizes.{refusal1}
use Rattle.registers.specs.declared.Registers.{Registers}
use Rattle.memory_image.specs.Extent.{extent_of, refusal2}
use Rattle.memory_image.specs.declared.Extent.{Extent}
use Rattle.answers.specs.Layout.{pieces_most, answer_words}
use Rattle.answers.specs.Pieces.{none}
use Rattle.answers.specs.declared.Outcome.{Outcome}
use Rattle.answers.specs.declared.Pieces.{Pieces}
use Rattle.answer_words.specs.AnswerWords.{words_of, outcome_of, list_of}
use Rattle.answer_words.proofs.AnswerWordsLaws.{outcome_back, outcome_again, proper_own, list_back}
use Rattle.answer_words.proofs.ListLaws.{list_length, zeros_none}
use Rattle.lookup.specs.Lookup.{looked_up, answer_told, answer_put, LooksInto}
use Rattle.lookup.specs.declared.Looked.{Looked}
use Rattle.lookup.proofs.RuledLaws.{Shaped, shaped}
use Rattle.book_words.specs.Layout.{slots_most, slots_of, registers_of, block_at, kept_at, opened_with, other_extent}
use Rattle.book_words.specs.Malformed.{first_from, refusal7}
use Rattle.book.specs.Book.{open_says, Opened, ask_result, ask_book, Asks, newly, new_lookup, slot_of, empty_slot}
use Rattle.book.specs.Into.{ask_kept, ask_put, asked, AsksInto, has_room, KeepsNew, KeepsWords, asked_of}
use Rattle.book.specs.declared.into.Kept.{Kept}
use Rattle.book.specs.declared.into.Kept.TheVariants as kept
use Rattle.book.specs.declared.Asked.{Asked}
use Rattle.book.specs.declared.Reply.{Reply}
use Rattle.book.specs.declared.Reply.TheVariants as reply

module _ (r : Registers) (e : Extent) (slots : ℕ) (ws : List ℕ) {first : Bool} (is_first : first ≡ refusal1 r) where
  pub open_first : first ≡ true → Opened r e slots ws (Err refusal.Registers) ws
  unfolding open_says
  open_first so = record { result = simp (← is_first, so); book = simp (← is_first, so) }

  module _ (passed : first ≡ false) {second : Bool} (is_second : second ≡ refusal2 e) where
    pub open_second : second ≡ true → Opened r e slots ws (Err refusal.Memory) ws
    unfolding open_says
    open_second so = record { result = simp (← is_first, passed, ← is_second, so); book = simp (← is_first, passed, ← is_second, so) }

    module _ (passed' : second ≡ false) where
      pub open_none : slots ≡ 0 → Opened r e slots ws (Err refusal.Slots) ws
      unfolding open_says
      open_none none =
          record {
            result = simp (← is_first, passed, ← is_second, passed', eq-eqb _ _ none);
            book = simp (← is_first, passed, ← is_second, passed', eq-eqb _ _ none);
          }

      module _ (some : slots ≡ 0 → ⊥) where
        pub open_many : slots_most < slots → Opened r e slots ws (Err refusal.Slots) ws
        unfolding open_says
        open_many many =
            record {
              result = simp (← is_first, passed, ← is_second, passed', ne_eqb _ _ some, lt-ltb _ _ many);
              book = simp (← is_first, passed, ← is_second, passed', ne_eqb _ _ some, lt-ltb _ _ many);
            }

        pub open_done : slots ≤ slots_most → {after : List ℕ} → after ≡ opened_with r e slots → Opened r e slots ws (Ok tt) after
        unfolding open_says
        open_done few is =
            record {
              result = simp (← is_first, passed, ← is_second, passed', ne_eqb _ _ some, le-ltb _ _ few);
              book = is ∙ simp (← is_first, passed, ← is_second, passed', ne_eqb _ _ some, le-ltb _ _ few);
            }

-- what is done with an answer's words
module _ (ws : List ℕ) (key slots : ℕ) (answer : List ℕ) {slot : ℕ} (found : slot ≡ first_from ws 0 slots 0) where
  pub keep_kept : slot < slots → {after : List ℕ} → after ≡ kept_at ws slot key answer → KeepsWords ws key slots answer kept.Newly after
  keep_kept room put =
      record { result = rw (← found) (simp (lt-ltb _ _ room)); book = rw (put, ← found) (simp (lt-ltb _ _ room)) }

  pub keep_full : slots ≤ slot → KeepsWords ws key slots answer kept.Not ws
  keep_full full = record { result = rw (← found) (simp (le-ltb _ _ full)); book = rw (← found) (simp (le-ltb _ _ full)) }

-- and with a new lookup
module _ (ws : List ℕ) (key slots : ℕ) (before : List ℕ) where
  new_refused :
      (new : Looked) {n : Refusal} {after : List ℕ} → LooksInto new before (Err n) after → KeepsNew ws key slots new before (Err n) ws after
  unfolding answer_told answer_put ask_kept ask_put
  new_refused new {n} {after} is = go new.answer refl
    where
      go : (a : Result Outcome Refusal) → new.answer ≡ a → KeepsNew ws key slots new before (Err n) ws after
      go (Err m) so =
          let told = rw so at is.result in
          let same : n ≡ m = cc in
          record { result = rw so (ap Err same); words = is.words ∙ rw so; book = rw so }
      go (Ok outcome) so = let told = rw so at is.result in let z : ◌≡◌ {A = ℕ} 0 1 = cc in absurd (omega arith)

  new_kept :
      (new : Looked) {after : List ℕ} → LooksInto new before (Ok tt) after
      → {says : Kept} {ws' : List ℕ} → KeepsWords ws key slots after says ws' → KeepsNew ws key slots new before (Ok says) ws' after
  unfolding answer_told answer_put ask_kept ask_put
  new_kept new {after} is {says} {ws'} keeps = go new.answer refl (has_room ws slots) refl
    where
      go : (a : Result Outcome Refusal) → new.answer ≡ a → (room : Bool) → has_room ws slots ≡ room → KeepsNew ws key slots new before (Ok says) ws' after
      go (Err n) so room has = let told = rw so at is.result in let z : ◌≡◌ {A = ℕ} 0 1 = cc in absurd (omega arith)
      go (Ok outcome) so true has =
          record {
            result = ap Ok keeps.result ∙ rw (so, has);
            words = is.words ∙ rw (so, has);
            book = keeps.book ∙ rw (is.words, so, has);
          }
      go (Ok outcome) so false has =
          record { result = ap Ok keeps.result ∙ rw (so, has); words = is.words ∙ rw (so, has); book = keeps.book ∙ rw (so, has) }

  module _ (base : ℕ) (memory : List ℕ) (request : Request) {r : Registers} (is_r : r ≡ registers_of ws) {after : List ℕ} where
    pub anew_refused :
        {n : Refusal} → LooksInto (looked_up r base memory request) before (Err n) after
        → KeepsNew ws key slots (new_lookup ws base memory request) before (Err n) ws after
    anew_refused is = new_refused (new_lookup ws base memory request) (rw is_r at is)

    pub anew_kept :
        LooksInto (looked_up r base memory request) before (Ok tt) after → {says : Kept} {ws' : List ℕ} → KeepsWords ws key slots after says ws'
        → KeepsNew ws key slots (new_lookup ws base memory request) before (Ok says) ws' after
    anew_kept is keeps = new_kept (new_lookup ws base memory request) (rw is_r at is) keeps

module _ (ws : List ℕ) (base : ℕ) (memory : List ℕ) (request : Request) (before : List ℕ) {bad : Bool}
    (is_bad : bad ≡ refusal7 ws) where
  pub ask_malformed : bad ≡ true → AsksInto ws base memory request before (Err refusal.Malformed) ws before
  unfolding ask_result ask_book ask_kept ask_put
  ask_malformed so = record { result = simp (← is_bad, so); words = simp (← is_bad, so); book = simp (← is_bad, so) }

  module _ (good : bad ≡ false) {e : Extent} (is_e : e ≡ extent_of base memory) {other : Bool}
      (is_other : other ≡ other_extent ws e.base e.length) where
    is_other_memory : other ≡ other_extent ws base (length memory)
    is_other_memory = is_other ∙ rw is_e

    pub ask_other : other ≡ true → AsksInto ws base memory request before (Err refusal.OtherMemory) ws before
    unfolding ask_result ask_book ask_kept ask_put
    ask_other so =
        record {
          result = simp (← is_bad, good, ← is_other_memory, so);
          words = simp (← is_bad, good, ← is_other_memory, so);
          book = simp (← is_bad, good, ← is_other_memory, so);
        }

    module _ (same : other ≡ false) {third : Bool} (is_third : third ≡ refusal3 request) where
      pub ask_third : third ≡ true → AsksInto ws base memory request before (Err refusal.Substream) ws before
      unfolding ask_result ask_book ask_kept ask_put
      ask_third so =
          record {
            result = simp (← is_bad, good, ← is_other_memory, same, ← is_third, so);
            words = simp (← is_bad, good, ← is_other_memory, same, ← is_third, so);
            book = simp (← is_bad, good, ← is_other_memory, same, ← is_third, so);
          }

      module _ (passed : third ≡ false) {word slot : ℕ} (is_word : word ≡ packed request)
          (found : slot ≡ first_from ws (word + 1) (slots_of ws) 0) where
        pub ask_held :
            slot < slots_of ws → {block : List ℕ} → block ≡ block_at ws slot → {after : List ℕ} → after ≡ words_of (outcome_of block) (list_of block)
            → AsksInto ws base memory request before (Ok kept.Before) ws after
        unfolding ask_result ask_book ask_kept ask_put
        ask_held held is_block put =
            record {
              result = simp (← is_bad, good, ← is_other_memory, same, ← is_third, passed, ← is_word, ← found, lt-ltb _ _ held);
              words =
                  put
                  ∙ rw is_block (simp (← is_bad, good, ← is_other_memory, same, ← is_third, passed, ← is_word, ← found, lt-ltb _ _ held));
              book = simp (← is_bad, good, ← is_other_memory, same, ← is_third, passed, ← is_word, ← found, lt-ltb _ _ held);
            }

        pub ask_new :
            slots_of ws ≤ slot → {says : Result Kept Refusal} {ws' after : List ℕ}
            → KeepsNew ws (word + 1) (slots_of ws) (new_lookup ws base memory request) before says ws' after
            → AsksInto ws base memory request before says ws' after
        unfolding ask_result ask_book
        ask_new past keeps =
            record {
              result =
                  keeps.result ∙ simp (← is_bad, good, ← is_other_memory, same, ← is_third, passed, ← is_word, ← found, le-ltb _ _ past);
              words =
                  keeps.words ∙ simp (← is_bad, good, ← is_other_memory, same, ← is_third, passed, ← is_word, ← found, le-ltb _ _ past);
              book =
                  keeps.book ∙ simp (← is_bad, good, ← is_other_memory, same, ← is_third, passed, ← is_word, ← found, le-ltb _ _ past);
            }

-- a request's word has 53 bits
pub key_fits : (request : Request) {word : ℕ} → word ≡ packed request → request.stream.number < 2 ^ 32 → word + 1 < 2 ^ 64
key_fits request is narrow = let small = packed_small request narrow in omega arith

-- an answer is read back from its words, and its list has a whole array
abbrev Tells : Outcome → Pieces → Type 0
Tells outcome l = (outcome_of (words_of outcome l) ≡ outcome) × (length l.piece ≡ pieces_most)

-- a reply with an answer tells it; a refusal has no list
FitsBoth : Result Reply Refusal → Pieces → Type 0
FitsBoth (Err n) l = l ≡ none
FitsBoth (Ok (reply.KeptBefore outcome)) l = Tells outcome l
FitsBoth (Ok (reply.NewlyKept outcome)) l = Tells outcome l
FitsBoth (Ok (reply.NotKept outcome)) l = Tells outcome l

abbrev Fits : Asked → Type 0
Fits asked = FitsBoth asked.reply asked.list

newly_fits : (room : Bool) (a : Result Outcome Refusal) (l : Pieces) → Shaped a l → Fits (newly room a l)
unfolding FitsBoth
newly_fits room (Err n) l shape = refl
newly_fits true (Ok outcome) l shape = (outcome_back outcome l (proper_own outcome shape.0), shape.1)
newly_fits false (Ok outcome) l shape = (outcome_back outcome l (proper_own outcome shape.0), shape.1)

module _ (ws : List ℕ) (base : ℕ) (memory : List ℕ) (request : Request) where
  asked_fits : Fits (asked ws base memory request)
  unfolding FitsBoth ask_result
  asked_fits =
      either Fits (refusal7 ws) refl
      (either Fits (other_extent ws base (length memory)) refl
      (either Fits (refusal3 request) refl
      (either Fits (ltb (slot_of ws request) (slots_of ws))
      (outcome_again (block_at ws (slot_of ws request)) (list_of (block_at ws (slot_of ws request))), list_length (block_at ws (slot_of ws request)))
      (newly_fits (ltb (empty_slot ws) (slots_of ws)) (new_lookup ws base memory request).answer (new_lookup ws base memory request).list
      (shaped (registers_of ws) base memory request)))))

  -- a reply is read back from what was said and its words
  pub ask_told :
      {said : Result Kept Refusal} {ws' after : List ℕ} → AsksInto ws base memory request (replicate answer_words 0) said ws' after
      → {outcome : Outcome} → outcome ≡ outcome_of after → {list : Pieces} → list ≡ list_of after
      → {told : Asked} → told ≡ asked_of said outcome list → Asks ws base memory request told ws'
  unfolding FitsBoth ask_kept ask_put asked_of
  ask_told {said} {ws'} {after} into {outcome} is_outcome {list} is_list {told} says =
      record {
        result =
            says
            ∙ go (asked ws base memory request).reply (asked ws base memory request).list refl asked_fits into.result into.words;
        book = into.book;
      }
    where
      back : (o : Outcome) (l : Pieces) → after ≡ words_of o l → Tells o l → (outcome ≡ o) × (list ≡ l)
      back o l words tells = (is_outcome ∙ rw words tells.0, is_list ∙ rw words (list_back o l tells.1))

      go :
          (rep : Result Reply Refusal) (l : Pieces) → record { reply = rep; list = l } ≡ asked ws base memory request → FitsBoth rep l
          → said ≡ ask_kept rep → after ≡ ask_put rep l (replicate answer_words 0)
          → asked_of said outcome list ≡ asked ws base memory request
      go (Err n) l same fits is_said words = rw (is_said, is_list, words, zeros_none, ← fits) same
      go (Ok (reply.KeptBefore o)) l same fits is_said words =
          let both = back o l words fits in rw (is_said, both.0, both.1) same
      go (Ok (reply.NewlyKept o)) l same fits is_said words =
          let both = back o l words fits in rw (is_said, both.0, both.1) same
      go (Ok (reply.NotKept o)) l same fits is_said words =
          let both = back o l words fits in rw (is_said, both.0, both.1) same
