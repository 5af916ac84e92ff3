-- What each call of the C interface promises: its number, and every lent byte and word at exit.
--     LooksUp (specs/Lookup.antt of lookup), part_says, OpensBook, AsksBook (specs/Into.antt of book), NoticesBook, ReportsBook, recorded_says
--                                one for each call: start here
--     said_says, written_says    a call's number: 0, or the refusal's
--     length_put                 the word that a length is put into; as it was where there is none
-- A refused call leaves every word.
-- Ours: 2^64 - 1 where there is no part.
-- Assumes: nothing.
use Rattle.std.specs.Prelude.{ℕ, ◌-◌, ◌^◌, ◌≡◌, List, [], ◌∷◌, length, if◌then◌else◌, Err, None, Ok, Option, Result, Some, ⊤}
use Rattle.answers.specs.declared.refusals.Refusal.{Refusal}
use Rattle.registers.specs.declared.Registers.{Registers}
use Rattle.memory_image.specs.declared.Extent.{Extent}
use Rattle.answers.specs.Outcome.{recorded}
use Rattle.answers.specs.Refusals.{refusal_number}
use Rattle.book_words.specs.Layout.{slots_most, opened_with}
use Rattle.book.specs.Book.{open_says, if_done, notice_says, struck_from}
use Rattle.placed.specs.Placed.{placed}
use Rattle.report.specs.Report.{report_says, report_text, if_written}

-- llobatelh_ste_part: where in the memory the STE starts
abbrev pub no_part : ℕ
no_part = 2 ^ 64 - 1

unfoldable pub part_says : Option ℕ → ℕ
part_says (Some place) = place
part_says None = no_part

-- llobatelh_open, llobatelh_notice
unfoldable pub said_says : Result ⊤ Refusal → ℕ
said_says (Err n) = refusal_number n
said_says (Ok done) = 0

pub record OpensBook (r : Registers) (e : Extent) (slots : ℕ) (before : List ℕ) (says : ℕ) (after : List ℕ) : Type 0 where
  pub result : says ≡ said_says (open_says r e slots)
  pub book : after ≡ if_done (open_says r e slots) before (opened_with r e slots)

pub record NoticesBook (ws : List ℕ) (start size says : ℕ) (after : List ℕ) : Type 0 where
  pub result : says ≡ said_says (notice_says ws start size)
  pub book : after ≡ if_done (notice_says ws start size) ws (struck_from ws start size slots_most 0)

-- llobatelh_report: the text's length goes into the one word of `length`
unfoldable pub written_says : Result ℕ Refusal → ℕ
written_says (Err n) = refusal_number n
written_says (Ok n) = 0

unfoldable pub length_put : Result ℕ Refusal → List ℕ → List ℕ
length_put (Err n) before = before
length_put (Ok n) before = n ∷ []

pub record ReportsBook (ws before length_before : List ℕ) (says : ℕ) (after length_after : List ℕ) : Type 0 where
  pub result : says ≡ written_says (report_says ws (length before))
  pub text : after ≡ if_written (report_says ws (length before)) before (placed before 0 (report_text ws))
  pub size : length_after ≡ length_put (report_says ws (length before)) length_before

-- llobatelh_is_recorded
unfoldable pub recorded_says : Registers → ℕ → ℕ
recorded_says r event = if recorded r event then 1 else 0
