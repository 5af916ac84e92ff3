-- Proof of `book::ask`: the reply read back from its number and its words.
-- Assumes: nothing.
use Rattle.book.proofs.AskLaws.{ask_told}
use Rattle.book.proofs.ask.Goals as goal

pub returns : goal.returns
returns c = search ask_told
