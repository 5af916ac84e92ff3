-- Proof of `book::open`: the refusals in their order, and every word.
-- Assumes: nothing.
use Rattle.book.proofs.AskLaws.{open_first, open_second, open_none, open_many, open_done}
use Rattle.book.proofs.open.Goals as goal

pub returns-then-refused : goal.returns-then-refused
returns-then-refused c = search open_first

pub returns-then-refused-2 : goal.returns-then-refused-2
returns-then-refused-2 c = search open_second

pub returns-then-slots-eq0 : goal.returns-then-slots-eq0
returns-then-slots-eq0 c = search open_none

pub returns-then-slots : goal.returns-then-slots
returns-then-slots c = search open_many

pub returns : goal.returns
returns c = search open_done
