-- What is claimed of the report beyond its contract. proofs/Claims.antt proves each under its own name.
--     OneReport         any two results that the promise allows for one input are equal, and so are the buffers
--     LaterBytesStay    the bytes after the text are as they were
--     TextIsThere       the length is the text's, and the first bytes are the text
--     ReportFits        a report is never refused with 8 where its buffer has report_most bytes: 2,860
-- Assumes: nothing.
use Rattle.answers.specs.declared.refusals.Refusal.TheVariants as refusal
use Rattle.std.specs.Prelude.{ℕ, ◌≤◌, ◌<◌, ◌≡◌, List, get_or, length, Err, Ok, Result}
use Rattle.answers.specs.declared.refusals.Refusal.{Refusal}
use Rattle.report.specs.Length.{report_most}
use Rattle.report.specs.Report.{Reported, report_text}

abbrev pub OneReport : Type 0
OneReport =
    (ws before : List ℕ) (x y : Result ℕ Refusal) (after other : List ℕ)
    → Reported ws before x after → Reported ws before y other → (x ≡ y) × (after ≡ other)

abbrev pub LaterBytesStay : Type 0
LaterBytesStay =
    (ws before after : List ℕ) (n x : ℕ) → Reported ws before (Ok n) after → n ≤ x → get_or after x 0 ≡ get_or before x 0

abbrev pub TextIsThere : Type 0
TextIsThere =
    (ws before after : List ℕ) (n : ℕ) → Reported ws before (Ok n) after
    → (n ≡ length (report_text ws)) × ((x : ℕ) → x < n → get_or after x 0 ≡ get_or (report_text ws) x 0)

abbrev pub ReportFits : Type 0
ReportFits = (ws before after : List ℕ) → report_most ≤ length before → Reported ws before (Err refusal.Room) after → ⊥
