-- What follows from the claims: specs/Uses.antt, each from the claims that it names.
-- Assumes: nothing.
use Rattle.std.specs.Prelude.{None, Some}
use Prim.Native.Nat.{ℕ}
use native.Mathlib.Omega.{arith}
use mathlib.Core.Path.{◌≡◌, refl, sym, ap, ◌∙◌}
use lib.ListN.{length, take, drop, length-take, length-drop}
use Rattle.answer_words.specs.AnswerWords.{words_of, own_event, outcome_of}
use Rattle.answers.specs.Outcome.{fetch_event}
use Rattle.answers.specs.declared.Outcome.TheVariants.{Abort, Bypass}
use Rattle.answers.specs.declared.Pieces.{Pieces}
use Rattle.lookup_claims.specs.Claims.{small_registers, small_memory, stream_zero}
use Rattle.lookup.specs.Lookup.{looked_up, answer_says, answer_put, LooksUp}
use Rattle.lookup.specs.Part.{ste_at}
use Rattle.lookup_claims.proofs.Claims.{one_answer, one_part, none_is_not_zero, kept_is_read_back}
use Rattle.book.specs.Book.{open_says, notice_says, Opened, Asks, Noticed}
use Rattle.book.specs.Into.{asked}
use Rattle.report.specs.Report.{Reported, report_says}
use Rattle.report.proofs.Claims.{one_report}
use Rattle.book_history.proofs.Claims.{one_opening, one_ask, one_notice, starts_empty}
use Rattle.book_history.proofs.Uses.{empty_notice_strikes_nothing}
use Rattle.llobatelh.specs.Calls.{part_says}
use Rattle.c_claims.specs.Uses.{OneInC, OpenedInC, StruckInC, PartOfEach, GivenCounts}
use Rattle.c_claims.proofs.Claims.{as_in_rattle, numbers_in_c, part_lies, part_is_that_very}

pub opened_in_c : OpenedInC
opened_in_c r e slots before after promise = starts_empty r e slots before after (numbers_in_c.zero_opened r e slots before after promise)

pub struck_in_c : StruckInC
struck_in_c ws begin after promise = empty_notice_strikes_nothing ws begin after (numbers_in_c.zero_noticed ws begin 0 after promise)

pub part_of_each : PartOfEach
part_of_each r base memory x y request first second some =
    let at = ste_at r base memory.now request in
    let one = one_part memory x y at first second in
    let lies = part_lies r base memory.now request some in
    let very = part_is_that_very memory x at first some in
    let size : length (take 64 (drop (part_says at) memory.now)) ≡ 64 = length-take 64 (drop (part_says at) memory.now) ∙ rw (length-drop (part_says at) memory.now) (omega arith) in
    (ap length very.0 ∙ size, one.0, one.2)

pub one_in_c : OneInC
one_in_c =
    record {
      by_lookup = λ r base memory request told also is also_is before x y after other a b.
          let same : told ≡ also = one_answer r base memory request told also is also_is in
          let here : LooksUp (looked_up r base memory request) before x after = rw is at a in
          let there : LooksUp (looked_up r base memory request) before y other = rw (← same, is) at b in
          let one = as_in_rattle.by_lookup r base memory request _ refl before x after here in
          let two = as_in_rattle.by_lookup r base memory request _ refl before y other there in
          (one.0 ∙ sym two.0, one.1 ∙ sym two.1);
      opened = λ r e slots before x y after other a b.
          let here : Opened r e slots before (open_says r e slots) after = record { result = refl; book = a.book } in
          let there : Opened r e slots before (open_says r e slots) other = record { result = refl; book = b.book } in
          let one = as_in_rattle.opened r e slots before _ after here x after a in
          let two = as_in_rattle.opened r e slots before _ other there y other b in
          (one.0 ∙ sym two.0, (one_opening r e slots before _ _ after other here there).1);
      asked_for = λ ws base memory request before x y book books after other a b.
          let here : Asks ws base memory request (asked ws base memory request) book = record { result = refl; book = a.book } in
          let there : Asks ws base memory request (asked ws base memory request) books = record { result = refl; book = b.book } in
          let one = as_in_rattle.asked_for ws base memory request _ book here before x book after a in
          let two = as_in_rattle.asked_for ws base memory request _ books there before y books other b in
          (one.0 ∙ sym two.0, (one_ask ws base memory request _ _ book books here there).1, one.2 ∙ sym two.2);
      noticed = λ ws begin size x y after other a b.
          let here : Noticed ws begin size (notice_says ws begin size) after = record { result = refl; book = a.book } in
          let there : Noticed ws begin size (notice_says ws begin size) other = record { result = refl; book = b.book } in
          let one = as_in_rattle.noticed ws begin size _ after here x after a in
          let two = as_in_rattle.noticed ws begin size _ other there y other b in
          (one.0 ∙ sym two.0, (one_notice ws begin size _ _ after other here there).1);
      reported = λ ws before length_before x y after other size sizes a b.
          let here : Reported ws before (report_says ws (length before)) after = record { result = refl; buffer = a.text } in
          let there : Reported ws before (report_says ws (length before)) other = record { result = refl; buffer = b.text } in
          let one = as_in_rattle.reported ws before _ after here length_before x after size a in
          let two = as_in_rattle.reported ws before _ other there length_before y other sizes b in
          (one.0 ∙ sym two.0, (one_report ws before _ _ after other here there).1, one.2 ∙ sym two.2);
    }

-- what was put is read back, so that different answers have different words
apart : (l m : Pieces) → words_of (Bypass 0) l ≡ words_of (Abort 8) m → ⊥
unfolding own_event fetch_event
apart l m is =
    let same : Bypass 0 ≡ Abort 8
    = sym ((kept_is_read_back (Bypass 0) l).same_outcome refl) ∙ ap outcome_of is ∙ (kept_is_read_back (Abort 8) m).same_outcome refl in
    let z : ◌≡◌ {A = ℕ} 0 1 = cc in
    omega arith

pub given_counts : GivenCounts
unfolding answer_says answer_put
given_counts before x y after other a b =
    let first = none_is_not_zero.0 in
    let second = none_is_not_zero.1 in
    let one : after ≡ words_of (Bypass 0) (looked_up small_registers 0 small_memory (stream_zero None)).list = a.words ∙ rw first in
    let two : other ≡ words_of (Abort 8) (looked_up small_registers 0 small_memory (stream_zero (Some (record { number = 0 })))).list = b.words ∙ rw second in
    (a.result ∙ rw first, b.result ∙ rw second, λ same. apart _ _ (sym one ∙ same ∙ two))
