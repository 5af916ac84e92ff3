-- Proof of `book_words::well::is_malformed`: the row, item by item.
-- Assumes: nothing.
use Rattle.book_words.proofs.MalformedLaws.{bad_none, bad_many, bad_word, bad_registers, bad_extent, bad_slots}
use Rattle.book_words.proofs.well.is_malformed.Goals as goal

pub returns-then-slots-eq0 : goal.returns-then-slots-eq0
returns-then-slots-eq0 c = search bad_none

pub returns-then-slots : goal.returns-then-slots
returns-then-slots c = search bad_many

pub returns-then-not-registers_fit : goal.returns-then-not-registers_fit
returns-then-not-registers_fit c = search bad_word

pub returns-then-refused : goal.returns-then-refused
returns-then-refused c = search bad_registers

pub returns-then-refused-2 : goal.returns-then-refused-2
returns-then-refused-2 c = search bad_extent

pub returns : goal.returns
returns c = search bad_slots
