-- Proof of `book_words::first_from`: where the key stands among the slots' keys.
-- Assumes: nothing.
use Rattle.std.proofs.Common.{rules, tests}
use Rattle.std.proofs.lemmas.Iterator.{YieldsList-from_slice}
use Rattle.std.proofs.lemmas.Iterator.Search.{position_from_yields_List}
use Rattle.book_words.proofs.ScanLaws.{first_position}
use Rattle.book_words.proofs.first_from.Goals as goal

pub returns : goal.returns
returns c =
    first_position c.args.book.now c.args.key c.args.n c.requires c.told-book
    (position_from_yields_List _ _ _ _ c.position.ensures.ran (YieldsList-from_slice _ c.iter.ensures.rest) (λ x b q k. search (rules, tests)))
    c.unwrap_or.ensures
