-- Proof of `words::numbers::digits`: the loop takes a digit at a time.
-- Assumes: nothing.
use mathlib.Core.Path.{◌≡◌}
use lib.ListN.{drop}
use Rattle.words.specs.Numbers.{digits_rule, digits_from}
use Rattle.words.proofs.numbers.digits.Given as goal

abbrev pub invariant-loop-byte : goal.invariant-loop-byte
invariant-loop-byte l = digits_rule l.base l.word ≡ digits_from l.base l.value (drop l.byte-index l.word)
