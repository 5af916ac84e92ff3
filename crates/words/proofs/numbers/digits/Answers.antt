-- Proof of `words::numbers::digits`: the loop takes a digit at a time.
-- Assumes: nothing.
use Rattle.std.proofs.Common.{rules}
use Rattle.words.proofs.NumbersLaws.{digits_none, digits_begin, digits_end, digits_not, digits_more}
use Rattle.words.proofs.numbers.digits.Goals as goal

pub returns-then-is_empty : goal.returns-then-is_empty
returns-then-is_empty c = search (rules, digits_none)

pub loop-byte-init : goal.loop-byte-init
loop-byte-init c = search (rules, digits_begin)

pub returns-in_err-digit : goal.returns-in_err-digit
returns-in_err-digit c = search (rules, digits_not)

pub loop-byte-preserved : goal.loop-byte-preserved
loop-byte-preserved c = search (rules, digits_more)

pub returns : goal.returns
returns c = search digits_end
