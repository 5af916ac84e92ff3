-- Text in a lent buffer.
--     filled_of    the text so far
--     room_of      how many bytes more there is room for
-- Assumes: nothing.
use Rattle.std.specs.Prelude.{ℕ, ◌-◌, List, length, take}
use Rattle.lines.specs.declared.text.Text.{Text}

abbrev pub filled_of : Text → List ℕ
filled_of text = take text.filled text.buffer.now

abbrev pub room_of : Text → ℕ
room_of text = length text.buffer.now - text.filled
