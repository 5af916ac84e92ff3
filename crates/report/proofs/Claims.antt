-- The claims of specs/Claims.antt, each under its own name.
-- Assumes: nothing.
use Rattle.answers.specs.declared.refusals.Refusal.TheVariants as refusal
use Rattle.std.specs.Prelude.{Err, Ok, Result}
use Rattle.answers.specs.declared.refusals.Refusal.{Refusal}
use Prim.Native.Nat.{ℕ, ◌+◌, ◌≤◌}
use native.Mathlib.Omega.{arith}
use native.Mathlib.Nat.{zero-add}
use mathlib.Core.Path.{◌≡◌, sym, ap, ◌∙◌}
use mathlib.Core.List.{List}
use borrow.Author.Tests.{ltb-true, ltb-false}
use lib.Dec.{ltb}
use lib.ListN.{get_or, length}
use Rattle.bit_fields.proofs.ChoiceLaws.{either, by_test}
use Rattle.book_words.specs.Malformed.{refusal7}
use Rattle.book_words.proofs.WellLaws.{well_to}
use Rattle.placed.specs.Placed.{placed}
use Rattle.placed.proofs.PlacedLaws.{placed_at, placed_above}
use Rattle.report.specs.Report.{Reported, if_written, report_says, report_text}
use Rattle.report.specs.Claims.{OneReport, LaterBytesStay, TextIsThere, ReportFits}
use Rattle.report.proofs.LengthLaws.{report_short}

pub one_report : OneReport
one_report ws before x y after other a b = (a.result ∙ sym b.result, a.buffer ∙ sym b.buffer)

-- a report that was written: its length, that it fits, and what the buffer holds
record Wrote (ws before after : List ℕ) (n : ℕ) : Type 0 where
  long : n ≡ length (report_text ws)
  fits : 0 + length (report_text ws) ≤ length before
  holds : after ≡ placed before 0 (report_text ws)

wrote : (ws before after : List ℕ) (n : ℕ) → Reported ws before (Ok n) after → Wrote ws before after n
unfolding report_says
wrote ws before after n said =
    either Says (refusal7 ws) (λ result buffer. let z : ◌≡◌ {A = ℕ} 0 1 = cc in absurd (omega arith))
    (by_test Says (ltb (length before) (length (report_text ws))) (λ over result buffer. let z : ◌≡◌ {A = ℕ} 0 1 = cc in absurd (omega arith))
    (λ under result buffer.
    let room : length (report_text ws) ≤ length before = ltb-false _ _ under in
    record { long = cc; fits = omega arith; holds = buffer })) said.result said.buffer
  where
    Says : Result ℕ Refusal → Type 0
    Says says = Ok n ≡ says → after ≡ if_written says before (placed before 0 (report_text ws)) → Wrote ws before after n

pub later_bytes_stay : LaterBytesStay
later_bytes_stay ws before after n x said past =
    let w = wrote ws before after n said in
    let l = w.long in
    ap (λ (q : List ℕ). get_or q x 0) w.holds ∙ placed_above before 0 (report_text ws) w.fits x (omega arith)

pub text_is_there : TextIsThere
text_is_there ws before after n said =
    let w = wrote ws before after n said in
    let l = w.long in (
      l,
      λ x inside.
          let p = placed_at before 0 (report_text ws) w.fits x (omega arith) in
          ap (λ (q : List ℕ). get_or q x 0) w.holds ∙ rw (zero-add x) at p,
    )

pub report_fits : ReportFits
unfolding report_says
report_fits ws before after enough promise =
    by_test Fits (refusal7 ws) (λ bad is. let same : ◌≡◌ {A = ℕ} 7 8 = cc in omega arith)
    (λ good. by_test Fits (ltb (length before) (length (report_text ws)))
    (λ over is.
    let short = report_short ws (well_to ws good).few in
    let long = ltb-true (length before) (length (report_text ws)) over in
    omega arith)
    (λ under is. let z : ◌≡◌ {A = ℕ} 0 1 = cc in omega arith)) promise.result
  where
    Fits : Result ℕ Refusal → Type 0
    Fits says = Err refusal.Room ≡ says → ⊥
