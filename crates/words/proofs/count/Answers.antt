-- Proof of `words::count`: the words are the parts between blanks.
-- Assumes: nothing.
use Rattle.std.proofs.Common.{rules}
use borrow.Author.Tests.{tests}
use Rattle.std.proofs.lemmas.Iterator.Consumers.{count_from_yields_List, YieldsList-from_filter}
use Rattle.std.proofs.lemmas.Iterator.Splits.{YieldsList-from_slice_split}
use Rattle.std.specs.List.{slice_split}
use Rattle.words.specs.Words.{is_blank}
use Rattle.words.proofs.WordsLaws.{words_are, is_word}
use Rattle.words.proofs.count.Goals as goal

pub returns : goal.returns
returns c =
    rw (← words_are c.args.line.now)
    (count_from_yields_List _ _ c.count.ensures.ran
    (YieldsList-from_filter {ys = slice_split is_blank c.args.line.now} _ is_word
    (YieldsList-from_slice_split _ is_blank c.args.line.now (cc) (cc) (cc) (λ x b q k. search (rules, tests)))
    c.filter.ensures.closure (λ x b q k. search (rules, tests))))
