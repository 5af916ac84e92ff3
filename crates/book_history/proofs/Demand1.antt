-- Demand 1: specs/Demand1.antt, each sentence under its own name.
-- Assumes: nothing.
use Rattle.std.specs.Prelude.{Err, Ok, Result, ⊤}
use Rattle.answers.specs.declared.refusals.Refusal.TheVariants as refusal
use Rattle.answers.specs.Refusals.{refusal_number}
use Rattle.answers.specs.declared.refusals.Refusal.{Refusal}
use Rattle.answers.specs.declared.Outcome.{Outcome}
use Prim.Native.Nat.{ℕ, ◌+◌}
use native.Mathlib.Omega.{arith}
use mathlib.Core.Path.{◌≡◌, refl, sym, ap, ◌∙◌}
use mathlib.Core.Bool.{Bool, true, false, ◌||◌}
use mathlib.Core.List.{List}
use mathlib.Core.Logic.{◌⊎◌, inl, inr}
use lib.Dec.{eqb, ltb}
use lib.ListN.{length}
use Rattle.bit_fields.proofs.ChoiceLaws.{alike, either}
use Rattle.ids.specs.Ids.{refusal3}
use Rattle.ids.specs.declared.Request.{Request}
use Rattle.registers.specs.Sizes.{refusal1}
use Rattle.registers.specs.declared.Registers.{Registers}
use Rattle.memory_image.specs.Extent.{extent_of, refusal2, address_top}
use Rattle.memory_image.specs.declared.Extent.{Extent}
use Rattle.lookup.specs.Lookup.{looked_up, answer_put, answer_told}
use Rattle.lookup.specs.declared.Looked.{Looked}
use Rattle.book_words.specs.Layout.{slots_most, slots_of, key_of, other_extent}
use Rattle.book_words.specs.Malformed.{refusal7}
use Rattle.book.specs.Book.{Asks, open_says, slot_of, empty_slot, newly, now_holding, ask_result, ask_book, new_lookup, notice_says}
use Rattle.book.specs.Into.{asked, ask_kept, ask_put}
use Rattle.book.specs.declared.Asked.{Asked}
use Rattle.book.specs.declared.Reply.TheVariants as reply
use Rattle.book.specs.declared.Reply.{Reply}
use Rattle.report.specs.Report.{report_says, report_text}
use Rattle.book_history.proofs.AskedLaws.{refused_why}
use Rattle.book_history.specs.Demand1.{OneOf2, OneOf3, AnswerOrNumber, HoldsWhatItHeld}

module _ (n : Refusal) where
  open_number : (r : Registers) (e : Extent) (slots : ℕ) → Err n ≡ open_says r e slots → OneOf3 1 2 4 (refusal_number n)
  unfolding open_says
  open_number r e slots =
      either Number (refusal1 r) (λ is. inl cc)
      (either Number (refusal2 e) (λ is. inr (inl cc))
      (either Number (eqb slots 0 || ltb slots_most slots) (λ is. inr (inr cc)) (λ is. let z : ◌≡◌ {A = ℕ} 0 1 = cc in absurd (omega arith))))
    where
      Number : Result ⊤ Refusal → Type 0
      Number says = Err n ≡ says → OneOf3 1 2 4 (refusal_number n)

  look_number :
      (r : Registers) (base : ℕ) (memory : List ℕ) (request : Request)
      → (looked_up r base memory request).answer ≡ Err n → OneOf3 1 2 3 (refusal_number n)
  unfolding looked_up
  look_number r base memory request =
      either Number (refusal1 r) (λ is. inl cc)
      (either Number (refusal2 (extent_of base memory)) (λ is. inr (inl cc))
      (either Number (refusal3 request) (λ is. inr (inr cc)) (λ is. let z : ◌≡◌ {A = ℕ} 0 1 = cc in absurd (omega arith))))
    where
      Number : Looked → Type 0
      Number told = told.answer ≡ Err n → OneOf3 1 2 3 (refusal_number n)

  notice_number : (ws : List ℕ) (start size : ℕ) → Err n ≡ notice_says ws start size → OneOf2 7 5 (refusal_number n)
  unfolding notice_says
  notice_number ws start size =
      either Number (refusal7 ws) (λ is. inl cc)
      (either Number (ltb address_top (start + size)) (λ is. inr cc) (λ is. let z : ◌≡◌ {A = ℕ} 0 1 = cc in absurd (omega arith)))
    where
      Number : Result ⊤ Refusal → Type 0
      Number says = Err n ≡ says → OneOf2 7 5 (refusal_number n)

  report_number : (ws : List ℕ) (room : ℕ) → Err n ≡ report_says ws room → OneOf2 7 8 (refusal_number n)
  unfolding report_says
  report_number ws room =
      either Number (refusal7 ws) (λ is. inl cc)
      (either Number (ltb room (length (report_text ws))) (λ is. inr cc) (λ is. let z : ◌≡◌ {A = ℕ} 0 1 = cc in absurd (omega arith)))
    where
      Number : Result ℕ Refusal → Type 0
      Number says = Err n ≡ says → OneOf2 7 8 (refusal_number n)

  ask_number :
      (ws : List ℕ) (base : ℕ) (memory : List ℕ) (request : Request) (told : Asked) (after : List ℕ)
      → Asks ws base memory request told after → told.reply ≡ Err n → OneOf3 7 6 3 (refusal_number n)
  ask_number ws base memory request told after promise is = go (refused_why ws base memory request told after n promise is)
    where
      go : ((n ≡ refusal.Malformed) × (refusal7 ws ≡ true)) ⊎ (((n ≡ refusal.OtherMemory) × (other_extent ws base (length memory) ≡ true)) ⊎ ((n ≡ refusal.Substream) × (refusal3 request ≡ true))) → OneOf3 7 6 3 (refusal_number n)
      go (inl why) = inl (ap refusal_number why.0)
      go (inr (inl why)) = inr (inl (ap refusal_number why.0))
      go (inr (inr why)) = inr (inr (ap refusal_number why.0))

  ask_refused :
      (ws : List ℕ) (base size : ℕ) (request : Request) (new : Looked) → (ask_result ws base size request new).reply ≡ Err n
      → ask_book ws base size request new ≡ ws
  unfolding ask_result ask_book
  ask_refused ws base size request new =
      alike Leaves (refusal7 ws) (λ is. refl)
      (alike Leaves (other_extent ws base size) (λ is. refl)
      (alike Leaves (refusal3 request) (λ is. refl)
      (alike Leaves (ltb (slot_of ws request) (slots_of ws)) (λ is. refl) (anew (ltb (empty_slot ws) (slots_of ws)) new.answer))))
    where
      Leaves : Asked → List ℕ → Type 0
      Leaves told after = told.reply ≡ Err n → after ≡ ws

      anew :
          (room : Bool) (answer : Result Outcome Refusal)
          → Leaves (newly room answer new.list) (now_holding room ws (empty_slot ws) (key_of request) answer new.list)
      anew room (Err m) is = refl
      anew true (Ok outcome) is = let z : ◌≡◌ {A = ℕ} 0 1 = cc in absurd (omega arith)
      anew false (Ok outcome) is = refl

  -- a call into an answer's words refuses where the call by value does
  refused_told : (a : Result Outcome Refusal) → Err n ≡ answer_told a → a ≡ Err n
  unfolding answer_told
  refused_told (Err m) is = cc
  refused_told (Ok outcome) is = let z : ◌≡◌ {A = ℕ} 0 1 = cc in absurd (omega arith)

  refused_kept : (a : Result Reply Refusal) → Err n ≡ ask_kept a → a ≡ Err n
  unfolding ask_kept
  refused_kept (Err m) is = cc
  refused_kept (Ok (reply.KeptBefore outcome)) is = let z : ◌≡◌ {A = ℕ} 0 1 = cc in absurd (omega arith)
  refused_kept (Ok (reply.NewlyKept outcome)) is = let z : ◌≡◌ {A = ℕ} 0 1 = cc in absurd (omega arith)
  refused_kept (Ok (reply.NotKept outcome)) is = let z : ◌≡◌ {A = ℕ} 0 1 = cc in absurd (omega arith)

pub answer_or_number : (n : Refusal) → AnswerOrNumber n
answer_or_number n =
    record {
      by_lookup = look_number n;
      opened = λ r e slots before after promise. open_number n r e slots promise.result;
      asked_for = ask_number n;
      noticed = λ ws start size after promise. notice_number n ws start size promise.result;
      reported = λ ws before after promise. report_number n ws (length before) promise.result;
      looks_into = λ r base memory request before after promise.
          look_number n r base memory request (refused_told n (looked_up r base memory request).answer promise.result);
      asks_into = λ ws base memory request before book after promise.
          ask_number n ws base memory request (asked ws base memory request) book (record { result = refl; book = promise.book })
          (refused_kept n (asked ws base memory request).reply promise.result);
    }

pub holds_what_it_held : (n : Refusal) → HoldsWhatItHeld n
unfolding answer_put ask_put
holds_what_it_held n =
    record {
      by_lookup = λ r base memory request before says after promise is. promise.words ∙ rw is;
      looks_into = λ r base memory request before after promise.
          promise.words ∙ rw (refused_told n (looked_up r base memory request).answer promise.result);
      opened = λ r e slots before after promise. rw (← promise.result) at promise.book;
      asked_for = λ ws base memory request told after promise is.
          promise.book
          ∙ ask_refused n ws base (length memory) request (new_lookup ws base memory request)
          (sym (ap (λ (a : Asked). a.reply) promise.result) ∙ is);
      asked_into = λ ws base memory request before says book after promise is.
          (promise.book ∙ ask_refused n ws base (length memory) request (new_lookup ws base memory request) is, promise.words ∙ rw is);
      asks_into = λ ws base memory request before book after promise.
          let is = refused_kept n (asked ws base memory request).reply promise.result in
          (promise.book ∙ ask_refused n ws base (length memory) request (new_lookup ws base memory request) is, promise.words ∙ rw is);
      noticed = λ ws start size after promise. rw (← promise.result) at promise.book;
      reported = λ ws before after promise. rw (← promise.result) at promise.buffer;
    }
