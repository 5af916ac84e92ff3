-- Proof of `book_words::fill`: what is left of the header, after the registers put so far.
-- Assumes: nothing.
use native.Mathlib.Omega.{arith}
use Rattle.book_words.proofs.WordsLaws.{opening_starts, opening_more, opening_ends}
use Rattle.book_words.proofs.fill.Goals as goal

pub loop-k-init : goal.loop-k-init
loop-k-init c = opening_starts _ _ _

pub loop-k-preserved : goal.loop-k-preserved
loop-k-preserved c = search opening_more

pub returns : goal.returns
returns c = opening_ends _ _ _ c.loop-k.invariant (omega arith) (omega arith)
