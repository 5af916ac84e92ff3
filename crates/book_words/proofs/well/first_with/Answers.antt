-- Proof of `book_words::well::first_with`: a key without a mark; the check finds the search by itself.
-- Assumes: nothing.
use Rattle.book_words.proofs.MarksLaws.{first_unmarked}
use Rattle.book_words.proofs.well.first_with.Goals as goal

pub returns-then-marks-place-eq0 : goal.returns-then-marks-place-eq0
returns-then-marks-place-eq0 c = search first_unmarked
