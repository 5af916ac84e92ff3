-- The claims of specs/Claims.antt, each under its own name.
-- Assumes: nothing.
use Rattle.std.specs.Prelude.{Err, None, Ok, Option, Result, Some, ⊤}
use Rattle.answers.specs.Refusals.{refusal_number}
use Rattle.answers.specs.declared.refusals.Refusal.{Refusal}
use Rattle.answers.specs.declared.Outcome.{Outcome}
use Prim.Native.Nat.{ℕ, ◌+◌, ◌≤◌}
use native.Mathlib.Omega.{arith}
use mathlib.Core.Path.{◌≡◌, refl, sym, ◌∙◌}
use mathlib.Core.List.{List}
use mathlib.Core.Logic.{◌⊎◌, inl, inr}
use lib.ListN.{length}
use Rattle.ids.specs.declared.Request.{Request}
use Rattle.registers.specs.declared.Registers.{Registers}
use Rattle.memory_image.specs.declared.Extent.{Extent}
use Rattle.lookup.specs.Lookup.{looked_up, answer_says}
use Rattle.lookup.specs.Part.{ste_at}
use Rattle.lookup.proofs.PartLaws.{ste_inside}
use Rattle.book.specs.Book.{open_says, notice_says}
use Rattle.book.specs.Into.{asked, ask_says}
use Rattle.book.specs.declared.Reply.{Reply}
use Rattle.book.specs.declared.Reply.TheVariants as reply
use Rattle.placed.specs.Placed.{placed}
use Rattle.report.specs.Report.{if_written, report_says, report_text}
use Rattle.book_history.specs.Demand1.{OneOf2, OneOf3}
use Rattle.book_history.proofs.Demand1.{answer_or_number}
use Rattle.llobatelh.specs.Calls.{no_part, part_says, said_says, written_says, OpensBook, NoticesBook}
use Rattle.c_claims.specs.Claims.{AsInRattle, NumbersInC, PartLies, PartIsThatVery}

pub as_in_rattle : AsInRattle
as_in_rattle =
    record {
      by_lookup = λ r base memory request told is before says after promise. rw is (promise.result, promise.words);
      opened = λ r e slots before told left is says after promise. (promise.result ∙ rw is.result, promise.book ∙ sym is.book);
      asked_for = λ ws base memory request told left is before says book after promise.
          (promise.result ∙ rw is.result, promise.book ∙ sym is.book, promise.words ∙ rw is.result);
      noticed = λ ws start size told left is says after promise. (promise.result ∙ rw is.result, promise.book ∙ sym is.book);
      reported = λ ws before told left is length_before says after length_after promise.
          (promise.result ∙ rw is.result, promise.text ∙ sym is.buffer, promise.size ∙ rw is.result);
    }

-- no refusal of theirs has the number 0
not_zero2 : (a b n : ℕ) → (a ≡ 0 → ⊥) → (b ≡ 0 → ⊥) → 0 ≡ n → OneOf2 a b n → ⊥
not_zero2 a b n not_a not_b is (inl one) = not_a (omega arith)
not_zero2 a b n not_a not_b is (inr other) = not_b (omega arith)

not_zero3 : (a b c n : ℕ) → (a ≡ 0 → ⊥) → (b ≡ 0 → ⊥) → (c ≡ 0 → ⊥) → 0 ≡ n → OneOf3 a b c n → ⊥
not_zero3 a b c n not_a not_b not_c is (inl one) = not_a (omega arith)
not_zero3 a b c n not_a not_b not_c is (inr others) = not_zero2 b c n not_b not_c is others

-- a refusal's number, and what isn't one's
module _ (r : Registers) (base : ℕ) (memory : List ℕ) (request : Request) (says : ℕ) where
  look_says : says ≡ answer_says (looked_up r base memory request).answer → (says ≡ 0) ⊎ OneOf3 1 2 3 says
  unfolding answer_says
  look_says is = go (looked_up r base memory request).answer refl is
    where
      go : (a : Result Outcome Refusal) → (looked_up r base memory request).answer ≡ a → says ≡ answer_says a → (says ≡ 0) ⊎ OneOf3 1 2 3 says
      go (Err n) told is = inr (rw is ((answer_or_number n).by_lookup r base memory request told))
      go (Ok outcome) told is = inl is

module _ (r : Registers) (e : Extent) (slots : ℕ) (before after : List ℕ) where
  open_says_lem : (says : ℕ) → OpensBook r e slots before says after → (says ≡ 0) ⊎ OneOf3 1 2 4 says
  unfolding said_says
  open_says_lem says promise = go (open_says r e slots) refl promise.result
    where
      go : (told : Result ⊤ Refusal) → open_says r e slots ≡ told → says ≡ said_says told → (says ≡ 0) ⊎ OneOf3 1 2 4 says
      go (Err n) told is = inr (rw is ((answer_or_number n).opened r e slots before after (record { result = sym told; book = promise.book })))
      go (Ok done) told is = inl is

  open_zero : OpensBook r e slots before 0 after → open_says r e slots ≡ Ok tt
  unfolding said_says
  open_zero promise = go (open_says r e slots) refl promise.result
    where
      none : (n : ℕ) → 0 ≡ n → OneOf3 1 2 4 n → ⊥
      none n is one = not_zero3 1 2 4 n (λ e. omega arith) (λ e. omega arith) (λ e. omega arith) is one

      go : (told : Result ⊤ Refusal) → open_says r e slots ≡ told → 0 ≡ said_says told → told ≡ Ok tt
      go (Err n) told is = absurd (none (refusal_number n) is ((answer_or_number n).opened r e slots before after (record { result = sym told; book = promise.book })))
      go (Ok done) told is = refl

module _ (ws : List ℕ) (begin size : ℕ) (after : List ℕ) where
  notice_says_lem : (says : ℕ) → NoticesBook ws begin size says after → (says ≡ 0) ⊎ OneOf2 7 5 says
  unfolding said_says
  notice_says_lem says promise = go (notice_says ws begin size) refl promise.result
    where
      go : (told : Result ⊤ Refusal) → notice_says ws begin size ≡ told → says ≡ said_says told → (says ≡ 0) ⊎ OneOf2 7 5 says
      go (Err n) told is = inr (rw is ((answer_or_number n).noticed ws begin size after (record { result = sym told; book = promise.book })))
      go (Ok done) told is = inl is

  notice_zero : NoticesBook ws begin size 0 after → notice_says ws begin size ≡ Ok tt
  unfolding said_says
  notice_zero promise = go (notice_says ws begin size) refl promise.result
    where
      none : (n : ℕ) → 0 ≡ n → OneOf2 7 5 n → ⊥
      none n is one = not_zero2 7 5 n (λ e. omega arith) (λ e. omega arith) is one

      go : (told : Result ⊤ Refusal) → notice_says ws begin size ≡ told → 0 ≡ said_says told → told ≡ Ok tt
      go (Err n) told is = absurd (none (refusal_number n) is ((answer_or_number n).noticed ws begin size after (record { result = sym told; book = promise.book })))
      go (Ok done) told is = refl

module _ (ws : List ℕ) (base : ℕ) (memory : List ℕ) (request : Request) (says : ℕ) where
  ask_says_lem : says ≡ ask_says (asked ws base memory request).reply → OneOf3 100 101 102 says ⊎ OneOf3 7 6 3 says
  unfolding ask_says
  ask_says_lem is = go (asked ws base memory request).reply refl is
    where
      go : (told : Result Reply Refusal) → (asked ws base memory request).reply ≡ told → says ≡ ask_says told → OneOf3 100 101 102 says ⊎ OneOf3 7 6 3 says
      go (Err n) told is =
          inr (rw is ((answer_or_number n).asked_for ws base memory request (asked ws base memory request) _ (record { result = refl; book = refl }) told))
      go (Ok (reply.KeptBefore outcome)) told is = inl (inl is)
      go (Ok (reply.NewlyKept outcome)) told is = inl (inr (inl is))
      go (Ok (reply.NotKept outcome)) told is = inl (inr (inr is))

report_says_lem :
    (ws before after : List ℕ) (says : ℕ) → says ≡ written_says (report_says ws (length before))
    → after ≡ if_written (report_says ws (length before)) before (placed before 0 (report_text ws)) → (says ≡ 0) ⊎ OneOf2 7 8 says
unfolding written_says
report_says_lem ws before after says result buffer = go (report_says ws (length before)) refl result
  where
    go : (told : Result ℕ Refusal) → report_says ws (length before) ≡ told → says ≡ written_says told → (says ≡ 0) ⊎ OneOf2 7 8 says
    go (Err n) told is = inr (rw is ((answer_or_number n).reported ws before after (record { result = sym told; buffer = buffer })))
    go (Ok n) told is = inl is

pub numbers_in_c : NumbersInC
unfolding written_says answer_says
numbers_in_c =
    record {
      by_lookup = λ r base memory request before says after promise. look_says r base memory request says promise.result;
      opened = λ r e slots before says after promise. open_says_lem r e slots before after says promise;
      asked_for = λ ws base memory request before says book after promise. ask_says_lem ws base memory request says promise.result;
      noticed = λ ws begin size says after promise. notice_says_lem ws begin size after says promise;
      reported = λ ws before length_before says after length_after promise. report_says_lem ws before after says promise.result promise.text;
      zero_opened = λ r e slots before after promise.
          record { result = sym (open_zero r e slots before after promise); book = promise.book };
      zero_noticed = λ ws begin size after promise.
          record { result = sym (notice_zero ws begin size after promise); book = promise.book };
      zero_reported = λ ws before length_before after length_after promise n refused.
          not_zero2 7 8 (refusal_number n) (λ e. omega arith) (λ e. omega arith) (promise.result ∙ rw (← refused.result))
          ((answer_or_number n).reported ws before after refused);
      zero_looked_up = λ r base memory request before after promise n refused.
          not_zero3 1 2 3 (refusal_number n) (λ e. omega arith) (λ e. omega arith) (λ e. omega arith) (promise.result ∙ rw refused)
          ((answer_or_number n).by_lookup r base memory request refused);
    }

-- the STE
pub part_lies : PartLies
unfolding part_says
part_lies r base memory request some = go (ste_at r base memory request) refl some
  where
    go : (at : Option ℕ) → ste_at r base memory request ≡ at → (part_says at ≡ no_part → ⊥) → part_says (ste_at r base memory request) + 64 ≤ length memory
    go (Some place) is some = rw is (ste_inside r base memory request refl is)
    go None is some = absurd (some refl)

pub part_is_that_very : PartIsThatVery
unfolding part_says
part_is_that_very memory part (Some place) handed some = (handed.contents, handed.block, handed.offset)
part_is_that_very memory part None handed some = absurd (some refl)
