-- Proof of `book::strike::strike_all`: what is left to strike is the whole of it.
-- Assumes: nothing.
use Rattle.book.proofs.ScanLaws.{all_struck, more_struck}
use Rattle.book.proofs.strike.strike_all.Goals as goal

pub loop-i-preserved : goal.loop-i-preserved
loop-i-preserved c = search more_struck

pub returns : goal.returns
returns c = search all_struck
