-- How long a report can be.
--     report_short     the header, and at most line_most bytes for each slot
-- Assumes: nothing.
use Prim.Native.Nat.{ℕ, zero, suc, ◌+◌, ◌-◌, ◌*◌, ◌≤◌, ◌<◌}
use Rattle.ids.specs.declared.SubstreamId.{SubstreamId}
use Rattle.ids.specs.declared.Request.{Request}
use native.Mathlib.Omega.{arith}
use mathlib.Core.Path.{◌≡◌, refl}
use mathlib.Core.Bool.{Bool, true, false}
use mathlib.Core.List.{List, [], ◌∷◌, ◌++◌}
use borrow.Author.Tests.{leb-true}
use lib.Dec.{eqb, leb, ltb}
use lib.ListN.{length, length-append}
use Rattle.placed.specs.From.{all_from}
use Rattle.placed.proofs.FromLaws.{all_each}
use Rattle.std.specs.Prelude.{if◌then◌else◌, None, Option, Some}
use Rattle.ids.specs.Packing.{unpacked}
use Rattle.registers.specs.declared.Registers.{Registers}
use Rattle.answers.specs.Outcome.{recorded}
use Rattle.answers.specs.declared.Outcome.{Outcome}
use Rattle.answers.specs.declared.Outcome.TheVariants.{
  Translate,
  Bypass,
  BypassGlobal,
  Abort,
  Fault,
  Quiet,
  Unserved,
}
use Rattle.book_words.specs.Layout.{slots_most, slots_of, key_at}
use Rattle.report_cells.specs.Text.{bytes, digits, decimal_text, slot_text}
use Rattle.report_cells.specs.Cells.{
  substream_digits,
  event_digits,
  header_text,
  stream_text,
  substream_in,
  substream_text,
  abort_text,
  address_text,
  outcome_text,
  event_text,
  kept_text,
  cell_text,
  columns_of,
  cells_from,
  line_text,
}
use Rattle.report_cells.specs.declared.Entry.{Entry}
use Rattle.report_cells.specs.declared.Line.TheVariants as line
use Rattle.report.specs.Length.{slot_digits, outcome_and_address_most, line_most, report_most}
use Rattle.report.specs.Report.{line_for, line_at, lines_from, report_text}

-- the cells
slot_fits : ℕ → Bool
slot_fits i = leb (length (slot_text i)) slot_digits

-- a test computed for each slot
slot_short : (i : ℕ) → i < slots_most → length (slot_text i) ≤ slot_digits
unfolding slot_fits slot_text decimal_text digits all_from
slot_short i few = leb-true (length (slot_text i)) slot_digits (all_each slot_fits slots_most 0 i refl (omega arith) (omega arith))

decimal_short : (n : ℕ) → length (decimal_text n) ≤ event_digits
unfolding decimal_text digits
decimal_short n = go (ltb n 10)
  where
    go : (b : Bool) → length (if b then digits (bytes "0123456789") 10 1 n else digits (bytes "0123456789") 10 2 n) ≤ event_digits
    go true = omega arith
    go false = omega arith

substream_short : (s : Option SubstreamId) → length (substream_in s) ≤ substream_digits
unfolding digits
substream_short None = omega arith
substream_short (Some s) = omega arith

-- an outcome's word, and its address
abbrev together : Registers → Outcome → ℕ
together r o = length (outcome_text r o) + length (address_text o)

abort_short : (b : Bool) → length (abort_text b) + length (bytes "-") ≤ outcome_and_address_most
unfolding abort_text
abort_short true = omega arith
abort_short false = omega arith

outcome_short : (r : Registers) (o : Outcome) → together r o ≤ outcome_and_address_most
unfolding outcome_text address_text digits
outcome_short r (Translate t) = omega arith
outcome_short r (Bypass ste) = omega arith
outcome_short r BypassGlobal = omega arith
outcome_short r (Abort event) = abort_short (recorded r event)
outcome_short r (Fault event address) = omega arith
outcome_short r Quiet = omega arith
outcome_short r (Unserved n) = omega arith

event_short : (o : Outcome) → length (event_text o) ≤ event_digits
unfolding event_text digits
event_short (Translate t) = omega arith
event_short (Bypass ste) = omega arith
event_short BypassGlobal = omega arith
event_short (Abort event) = omega arith
event_short (Fault event address) = omega arith
event_short Quiet = omega arith
event_short (Unserved n) = decimal_short n

-- a cell and what follows it
cell_long : (t u : List ℕ) (b : ℕ) → length ((t ++ (b ∷ [])) ++ u) ≡ length t + 1 + length u
cell_long t u b = rw (length-append, length-append)

-- the lines
kept_short : (e : Entry) → e.slot < slots_most → length (line_text (line.Kept e)) ≤ line_most
unfolding line_text columns_of cells_from cell_text kept_text stream_text substream_text digits
kept_short e few =
    let slot = slot_short e.slot few in
    let substream = substream_short e.request.substream in
    let outcome = outcome_short e.registers e.outcome in
    let event = event_short e.outcome in
    rw (cell_long, cell_long, cell_long, cell_long, cell_long, cell_long) (omega arith)

-- an empty slot has no line
nothing_short : length (line_text line.Nothing) ≤ line_most
unfolding line_text columns_of cells_from
nothing_short = omega arith

line_short : (ws : List ℕ) (i : ℕ) → i < slots_most → length (line_text (line_at ws i)) ≤ line_most
unfolding line_at line_for
line_short ws i few = go (eqb (key_at ws i) 0) (unpacked (key_at ws i - 1))
  where
    go : (b : Bool) (u : Option Request) → length (line_text (if b then line.Nothing else line_for ws i u)) ≤ line_most
    go true u = nothing_short
    go false (Some asked) = kept_short _ few
    go false None = nothing_short

lines_short : (ws : List ℕ) (m i : ℕ) → i + m ≤ slots_most → length (lines_from ws m i) ≤ m * line_most
unfolding lines_from
lines_short ws zero i few = omega arith
lines_short ws (suc m) i few =
    let one = line_short ws i (omega arith) in
    let more = lines_short ws m (i + 1) (omega arith) in
    rw length-append (omega arith)

pub report_short : (ws : List ℕ) → slots_of ws ≤ slots_most → length (report_text ws) ≤ report_most
unfolding report_text line_text columns_of cells_from cell_text header_text
report_short ws few = let lines = lines_short ws (slots_of ws) 0 (omega arith) in rw length-append (omega arith)
