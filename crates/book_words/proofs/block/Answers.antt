-- Proof of `book_words::block`: the words one by one.
-- Assumes: nothing.
use Rattle.placed.proofs.FilledLaws.{filled_none, filled_more}
use Rattle.answers.specs.Layout.{answer_words}
use Rattle.book_words.proofs.WordsLaws.{block_is}
use Rattle.book_words.proofs.block.Goals as goal

pub loop-j-init : goal.loop-j-init
loop-j-init c = filled_none _ answer_words

pub loop-j-preserved : goal.loop-j-preserved
loop-j-preserved c = search filled_more

pub returns : goal.returns
returns c = search block_is
