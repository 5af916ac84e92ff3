-- How long a report can be.
--     report_most      a buffer of so many bytes is long enough for every book: start here
--     line_most        the longest line of a slot
--     slot_digits      the digits of the last slot
--     header_length    the header's line
-- Ours: all of it.
-- Assumes: nothing.
use Rattle.std.specs.Prelude.{ℕ, ◌+◌, ◌*◌, leb, length, if◌then◌else◌}
use Rattle.book_words.specs.Layout.{slots_most}
use Rattle.report_cells.specs.Text.{bytes}
use Rattle.report_cells.specs.Cells.{columns, stream_digits, substream_digits, event_digits, address_digits}

abbrev pub slot_digits : ℕ
slot_digits = if leb slots_most 10 then 1 else if leb slots_most 100 then 2 else 3

-- the most that an outcome's word and its address have together: those of a failed fetch, which is always recorded
abbrev pub outcome_and_address_most : ℕ
outcome_and_address_most = length (bytes "abort") + address_digits

-- a byte follows each cell
abbrev pub line_most : ℕ
line_most = slot_digits + stream_digits + substream_digits + outcome_and_address_most + event_digits + columns

abbrev pub header_length : ℕ
header_length = length (bytes "slot\tstream\tsubstream\toutcome\tevent\taddress\n")

abbrev pub report_most : ℕ
report_most = header_length + slots_most * line_most
