-- Each way out of each call, on plain values.
--     looks_up                                       a lookup
--     ask_refused, ask_answered                      an ask
--     part_at, part_none                             the STE's place
--     opened_is, noticed_is                          opening and a notice
--     report_refused, report_written                 the report
--     recorded_so, recorded_not                      whether an event is recorded
-- Assumes: nothing.
use Rattle.std.specs.Prelude.{Err, None, Ok, Option, Result, Some, ⊤}
use Rattle.answers.specs.declared.refusals.Refusal.{Refusal}
use Prim.Native.Nat.{ℕ, ◌-◌, ◌^◌}
use native.Mathlib.Omega.{arith}
use mathlib.Core.Path.{◌≡◌, refl, ap, ◌∙◌}
use mathlib.Core.Bool.{Bool, true, false}
use mathlib.Core.List.{List, [], ◌∷◌}
use Rattle.ids.specs.declared.Request.{Request}
use Rattle.registers.specs.declared.Registers.{Registers}
use Rattle.memory_image.specs.declared.Extent.{Extent}
use Rattle.answers.specs.Outcome.{recorded}
use Rattle.answers.specs.Refusals.{refusal_number}
use Rattle.answers.specs.declared.Outcome.{Outcome}
use Rattle.lookup.specs.declared.Looked.{Looked}
use Rattle.lookup.specs.Lookup.{answer_says, answer_told, LooksUp, LooksInto}
use Rattle.lookup.specs.Part.{ste_at}
use Rattle.book.specs.Book.{Opened, Noticed}
use Rattle.book.specs.Into.{asked, ask_kept, ask_says, kept_number, AsksBook, AsksInto}
use Rattle.book.specs.declared.Reply.{Reply}
use Rattle.book.specs.declared.Reply.TheVariants as reply
use Rattle.book.specs.declared.into.Kept.{Kept}
use Rattle.book.specs.declared.into.Kept.TheVariants as kept
use Rattle.report.specs.Report.{Reported}
use Rattle.llobatelh.specs.Calls.{part_says, said_says, OpensBook, NoticesBook, written_says, length_put, ReportsBook, recorded_says}

-- a lookup by its number, and an ask
looks : (a : Result Outcome Refusal) → said_says (answer_told a) ≡ answer_says a
unfolding said_says answer_told answer_says
looks (Err n) = refl
looks (Ok outcome) = refl

pub looks_up :
    (looked : Looked) (before : List ℕ) {said : Result ⊤ Refusal} {after : List ℕ} → LooksInto looked before said after
    → {says : ℕ} → says ≡ said_says said → LooksUp looked before says after
looks_up looked before into is = record { result = is ∙ rw into.result (looks looked.answer); words = into.words }

module _ {q q' : Request} (is_q : q' ≡ q) (ws : List ℕ) (base : ℕ) (memory before : List ℕ) {ws' after : List ℕ} where
  pub ask_refused :
      {n : Refusal} → AsksInto ws base memory q' before (Err n) ws' after → {says : ℕ} → says ≡ refusal_number n
      → AsksBook ws base memory q before says ws' after
  unfolding ask_kept ask_says
  ask_refused {n} into {says} is =
      let told = rw is_q at into in
      record { result = is ∙ go (asked ws base memory q).reply told.result; words = told.words; book = told.book }
    where
      go : (rep : Result Reply Refusal) → Err n ≡ ask_kept rep → refusal_number n ≡ ask_says rep
      go (Err m) same = let alike : n ≡ m = cc in ap refusal_number alike
      go (Ok (reply.KeptBefore o)) same = let z : ◌≡◌ {A = ℕ} 0 1 = cc in absurd (omega arith)
      go (Ok (reply.NewlyKept o)) same = let z : ◌≡◌ {A = ℕ} 0 1 = cc in absurd (omega arith)
      go (Ok (reply.NotKept o)) same = let z : ◌≡◌ {A = ℕ} 0 1 = cc in absurd (omega arith)

  pub ask_answered :
      {k : Kept} → AsksInto ws base memory q' before (Ok k) ws' after → {says : ℕ} → says ≡ kept_number k
      → AsksBook ws base memory q before says ws' after
  unfolding ask_kept ask_says
  ask_answered {k} into {says} is =
      let told = rw is_q at into in
      record { result = is ∙ go (asked ws base memory q).reply told.result; words = told.words; book = told.book }
    where
      go : (rep : Result Reply Refusal) → Ok k ≡ ask_kept rep → kept_number k ≡ ask_says rep
      go (Err m) same = let z : ◌≡◌ {A = ℕ} 0 1 = cc in absurd (omega arith)
      go (Ok (reply.KeptBefore o)) same = let alike : k ≡ kept.Before = cc in ap kept_number alike
      go (Ok (reply.NewlyKept o)) same = let alike : k ≡ kept.Newly = cc in ap kept_number alike
      go (Ok (reply.NotKept o)) same = let alike : k ≡ kept.Not = cc in ap kept_number alike

-- the STE's place
module _ {r r' : Registers} (is_r : r ≡ r') {q q' : Request} (is_q : q ≡ q') (base : ℕ) (memory : List ℕ) {at : Option ℕ}
    (is : at ≡ ste_at r base memory q) where
  pub part_at : {place : ℕ} → at ≡ Some place → place ≡ part_says (ste_at r' base memory q')
  unfolding part_says
  part_at so = rw (← is_r, ← is_q, ← is, so)

  pub part_none : at ≡ None → 2 ^ 64 - 1 ≡ part_says (ste_at r' base memory q')
  unfolding part_says
  part_none so = rw (← is_r, ← is_q, ← is, so)

-- what is said, as a number
module _ {s : Result ⊤ Refusal} where
  module _ {before after : List ℕ} {says : ℕ} (is : says ≡ said_says s) where
    pub opened_is :
        {r r' : Registers} → r ≡ r' → {e : Extent} {slots : ℕ} → Opened r e slots before s after → OpensBook r' e slots before says after
    opened_is is_r opened = rw (← is_r) (record { result = is ∙ ap said_says opened.result; book = opened.book })

    pub noticed_is : {start size : ℕ} → Noticed before start size s after → NoticesBook before start size says after
    noticed_is noticed = record { result = is ∙ ap said_says noticed.result; book = noticed.book }

-- the report
module _ {ws before : List ℕ} (length_before : List ℕ) {says : Result ℕ Refusal} {after : List ℕ} (reported : Reported ws before says after) where
  pub report_refused :
      {n : Refusal} → says ≡ Err n → {number : ℕ} → number ≡ refusal_number n → ReportsBook ws before length_before number after length_before
  unfolding written_says length_put
  report_refused so told =
      record { result = told ∙ rw (← reported.result, so); text = reported.buffer; size = rw (← reported.result, so) }

  pub report_written : {n : ℕ} → says ≡ Ok n → ReportsBook ws before length_before 0 after (n ∷ [])
  unfolding written_says length_put
  report_written so =
      record { result = rw (← reported.result, so); text = reported.buffer; size = rw (← reported.result, so) }

module _ {r r' : Registers} (is_r : r ≡ r') (event : ℕ) {so : Bool} (is : so ≡ recorded r event) where
  pub recorded_so : so ≡ true → 1 ≡ recorded_says r' event
  unfolding recorded_says
  recorded_so kept = simp (← is_r, ← is, kept)

  pub recorded_not : so ≡ false → 0 ≡ recorded_says r' event
  unfolding recorded_says
  recorded_not lost = simp (← is_r, ← is, lost)
