-- Proof of `book_words::keep_at`: what is left to copy is the whole of it.
-- Assumes: nothing.
use Rattle.book_words.proofs.ScanLaws.{copy_more, copy_end}
use Rattle.book_words.proofs.keep_at.Goals as goal

pub loop-k-preserved : goal.loop-k-preserved
loop-k-preserved c = search copy_more

pub returns : goal.returns
returns c = search copy_end
