-- Proof of `answer_words::proper::is_list`: a list that is too long; else each piece that is counted.
-- Assumes: nothing.
use Rattle.std.proofs.Common.{rules, tests, arith}
use Rattle.std.proofs.lemmas.Iterator.{YieldsList-from_slice}
use Rattle.std.proofs.lemmas.Iterator.Search.{all_from_yields_List}
use Rattle.answers.specs.Proper.{ends_below}
use Rattle.answer_words.proofs.ProperTests.{list_long, list_is}
use Rattle.answer_words.proofs.proper.is_list.Goals as goal

pub returns-then-count-gt-PIECES_MOST : goal.returns-then-count-gt-PIECES_MOST
returns-then-count-gt-PIECES_MOST c = search list_long

pub returns : goal.returns
returns c =
    list_is c.args.list (omega arith) (omega arith)
    (all_from_yields_List ends_below _ _ _ c.all.ensures.ran (YieldsList-from_slice _ c.iter.ensures.rest) (λ x b q k. search (rules, tests)))
