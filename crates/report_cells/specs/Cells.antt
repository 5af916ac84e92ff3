-- The report's cells and lines (RULES, "The book": the report).
--     line_text       a line: its cells parted by one tab, and a line feed: start here
--     cell_text       a line's cell in a column: 0 slot, 1 stream, 2 substream, 3 outcome, 4 event, 5 address
-- Assumes: nothing.
use Rattle.std.specs.Prelude.{ℕ, zero, suc, ◌+◌, ◌-◌, Bool, true, false, List, [], ◌∷◌, ◌++◌, eqb, if◌then◌else◌, None, Option, Some}
use Rattle.ids.specs.declared.SubstreamId.{SubstreamId}
use Rattle.ids.specs.declared.Request.{Request}
use Rattle.registers.specs.declared.Registers.{Registers}
use Rattle.answers.specs.Outcome.{recorded}
use Rattle.answers.specs.declared.Outcome.{Outcome}
use Rattle.answers.specs.declared.Outcome.TheVariants.{Translate, Bypass, BypassGlobal, Abort, Fault, Quiet, Unserved}
use Rattle.report_cells.specs.Text.{bytes, decimal_text, slot_text, hex_lower, hex_upper}
use Rattle.report_cells.specs.declared.Entry.{Entry}
use Rattle.report_cells.specs.declared.Line.{Line}
use Rattle.report_cells.specs.declared.Line.TheVariants.{Nothing, Header, Kept}

-- the digits of a StreamID, a SubstreamID, an event and an address
abbrev pub stream_digits : ℕ
stream_digits = 8

abbrev pub substream_digits : ℕ
substream_digits = 5

abbrev pub event_digits : ℕ
event_digits = 2

abbrev pub address_digits : ℕ
address_digits = 16

-- how many cells a line has
abbrev pub columns : ℕ
columns = 6

unfoldable pub header_text : ℕ → List ℕ
header_text column =
    if eqb column 0 then bytes "slot"
    else if eqb column 1 then bytes "stream"
    else if eqb column 2 then bytes "substream"
    else if eqb column 3 then bytes "outcome"
    else if eqb column 4 then bytes "event"
    else bytes "address"

unfoldable pub stream_text : Request → List ℕ
stream_text request = hex_lower stream_digits request.stream.number

abbrev pub substream_in : Option SubstreamId → List ℕ
substream_in None = bytes "-"
substream_in (Some s) = hex_lower substream_digits s.number

unfoldable pub substream_text : Request → List ℕ
substream_text request = substream_in request.substream

unfoldable pub abort_text : Bool → List ℕ
abort_text true = bytes "abort"
abort_text false = bytes "unrecorded"

-- the event of a failed fetch is always recorded
unfoldable pub outcome_text : Registers → Outcome → List ℕ
outcome_text r (Translate t) = bytes "translate"
outcome_text r (Bypass ste) = bytes "bypass"
outcome_text r BypassGlobal = bytes "bypass"
outcome_text r (Abort event) = abort_text (recorded r event)
outcome_text r (Fault event address) = bytes "abort"
outcome_text r Quiet = bytes "quiet"
outcome_text r (Unserved n) = bytes "unserved"

unfoldable pub event_text : Outcome → List ℕ
event_text (Translate t) = bytes "-"
event_text (Bypass ste) = bytes "-"
event_text BypassGlobal = bytes "-"
event_text (Abort event) = hex_upper event_digits event
event_text (Fault event address) = hex_upper event_digits event
event_text Quiet = bytes "-"
event_text (Unserved n) = decimal_text n

-- the address that a failed fetch wanted
unfoldable pub address_text : Outcome → List ℕ
address_text (Translate t) = bytes "-"
address_text (Bypass ste) = bytes "-"
address_text BypassGlobal = bytes "-"
address_text (Abort event) = bytes "-"
address_text (Fault event address) = hex_lower address_digits address
address_text Quiet = bytes "-"
address_text (Unserved n) = bytes "-"

unfoldable pub kept_text : Entry → ℕ → List ℕ
kept_text e column =
    if eqb column 0 then slot_text e.slot
    else if eqb column 1 then stream_text e.request
    else if eqb column 2 then substream_text e.request
    else if eqb column 3 then outcome_text e.registers e.outcome
    else if eqb column 4 then event_text e.outcome
    else address_text e.outcome

unfoldable pub cell_text : Line → ℕ → List ℕ
cell_text Nothing column = []
cell_text Header column = header_text column
cell_text (Kept e) column = kept_text e column

-- an empty slot has no line
unfoldable pub columns_of : Line → ℕ
columns_of Nothing = 0
columns_of Header = columns
columns_of (Kept e) = columns

abbrev pub tab_stop : ℕ
tab_stop = 9

abbrev pub line_feed : ℕ
line_feed = 10

-- what follows the cell in a column: a line feed after the last, a tab after the others
unfoldable pub ending_of : ℕ → ℕ
ending_of column =
    if eqb column (columns - 1) then line_feed
    else tab_stop

-- m cells from a column on, each with what follows it
unfoldable pub cells_from : Line → ℕ → ℕ → List ℕ
cells_from line zero column = []
cells_from line (suc m) column = (cell_text line column ++ (ending_of column ∷ [])) ++ cells_from line m (column + 1)

unfoldable pub line_text : Line → List ℕ
line_text line = cells_from line (columns_of line) 0
