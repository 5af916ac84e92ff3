-- Proof of `book_words::registers_of`: a register from its word.
-- Assumes: nothing.
use Rattle.placed.proofs.FilledLaws.{filled_none, filled_more}
use Rattle.registers.specs.Words.{register_words}
use Rattle.book_words.proofs.WordsLaws.{registers_is}
use Rattle.book_words.proofs.registers_of.Goals as goal

pub loop-j-init : goal.loop-j-init
loop-j-init c = filled_none _ register_words

pub loop-j-preserved : goal.loop-j-preserved
loop-j-preserved c = search filled_more

pub returns : goal.returns
returns c = search registers_is
