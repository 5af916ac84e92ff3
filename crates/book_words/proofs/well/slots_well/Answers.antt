-- Proof of `book_words::well::slots_well`: what is left of the slots is all of them, and each key passed has its mark.
-- Assumes: nothing.
use Rattle.placed.proofs.FromLaws.{all_hold, one_fails, one_holds}
use Rattle.book_words.proofs.MarksLaws.{marked_more}
use Rattle.book_words.proofs.well.slots_well.Goals as goal

pub returns-then-not-slot_well : goal.returns-then-not-slot_well
returns-then-not-slot_well c = search one_fails

pub loop-i-preserved : goal.loop-i-preserved
loop-i-preserved c = (search one_holds, search marked_more)

pub returns : goal.returns
returns c = search all_hold
