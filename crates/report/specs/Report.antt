-- The report: the book as text (RULES, "The book", "When the bench says no").
--     Reported         what is promised of `report`: start here
--     report_text      the text: a header, then the held slots in rising order
--     line_at          a slot's line
-- Assumes: nothing.
use Rattle.answers.specs.declared.refusals.Refusal.TheVariants as refusal
use Rattle.std.specs.Prelude.{ℕ, zero, suc, ◌+◌, ◌-◌, ◌≡◌, List, [], ◌++◌, eqb, ltb, length, if◌then◌else◌, Err, None, Ok, Option, Result, Some}
use Rattle.ids.specs.declared.Request.{Request}
use Rattle.answers.specs.declared.refusals.Refusal.{Refusal}
use Rattle.ids.specs.Packing.{unpacked}
use Rattle.answer_words.specs.AnswerWords.{outcome_of}
use Rattle.book_words.specs.Layout.{slots_of, registers_of, key_at, block_at}
use Rattle.book_words.specs.Malformed.{refusal7}
use Rattle.placed.specs.Placed.{placed}
use Rattle.report_cells.specs.Cells.{line_text}
use Rattle.report_cells.specs.declared.Line.{Line}
use Rattle.report_cells.specs.declared.Line.TheVariants as line

-- the line of a slot that holds what its key stands for; a key that stands for no request, which refusal 7 shuts out, has none
unfoldable pub line_for : List ℕ → ℕ → Option Request → Line
line_for ws i (Some asked) =
    line.Kept (record { slot = i; registers = registers_of ws; request = asked; outcome = outcome_of (block_at ws i) })
line_for ws i None = line.Nothing

unfoldable pub line_at : List ℕ → ℕ → Line
line_at ws i =
    if eqb (key_at ws i) 0 then line.Nothing
    else line_for ws i (unpacked (key_at ws i - 1))

-- the lines of m slots from slot i on
unfoldable pub lines_from : List ℕ → ℕ → ℕ → List ℕ
lines_from ws zero i = []
lines_from ws (suc m) i = line_text (line_at ws i) ++ lines_from ws m (i + 1)

unfoldable pub report_text : List ℕ → List ℕ
report_text ws = line_text line.Header ++ lines_from ws (slots_of ws) 0

-- report: refusals 7, 8
unfoldable pub report_says : List ℕ → ℕ → Result ℕ Refusal
report_says ws room =
    if refusal7 ws then Err refusal.Malformed
    else if ltb room (length (report_text ws)) then Err refusal.Room
    else Ok (length (report_text ws))

-- a refused call leaves every byte
abbrev pub if_written : Result ℕ Refusal → List ℕ → List ℕ → List ℕ
if_written (Err n) before after = before
if_written (Ok n) before after = after

pub record Reported (ws before : List ℕ) (says : Result ℕ Refusal) (after : List ℕ) : Type 0 where
  pub result : says ≡ report_says ws (length before)
  pub buffer : after ≡ if_written (report_says ws (length before)) before (placed before 0 (report_text ws))

-- what a writer of a text promises: the text from its place on, and where it ends
pub record Put (text before : List ℕ) (at to : ℕ) (after : List ℕ) : Type 0 where
  pub place : to ≡ at + length text
  pub buffer : after ≡ placed before at text
