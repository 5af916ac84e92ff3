-- Proof of `words::numbers::are_digits`: the bytes are asked in turn.
-- Assumes: nothing.
use Rattle.std.proofs.Common.{rules}
use borrow.Author.Tests.{tests}
use Rattle.std.proofs.lemmas.Iterator.{YieldsList-from_slice}
use Rattle.std.proofs.lemmas.Iterator.Search.{all_from_yields_List}
use Rattle.std.specs.Char.{is_ascii_hexdigit}
use Rattle.words.proofs.NumbersLaws.{are_digits_is}
use Rattle.words.proofs.numbers.are_digits.Goals as goal

pub returns : goal.returns
returns c =
    rw (← are_digits_is c.args.word.now)
    (all_from_yields_List is_ascii_hexdigit _ _ _ c.all.ensures.ran (YieldsList-from_slice c.args.word.now cc)
    (λ x b q k. search (rules, tests)))
