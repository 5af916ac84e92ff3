-- Proof of `book::strike::Edited::shares_any`: those of the list that are counted.
-- Assumes: nothing.
use Rattle.std.proofs.Common.{rules, tests, arith}
use Rattle.std.proofs.lemmas.Iterator.{YieldsList-from_slice}
use Rattle.std.proofs.lemmas.Iterator.Search.{any_from_yields_List}
use Rattle.book.proofs.ScanLaws.{any_counted}
use Rattle.book.proofs.strike.Edited.shares_any.Goals as goal

pub returns : goal.returns
returns c =
    any_counted c.args.self.start c.args.self.size c.args.list.piece c.args.list.count (omega arith) c.min-n.ensures
    (any_from_yields_List _ _ _ _ c.any.ensures.ran (YieldsList-from_slice _ c.iter.ensures.rest) (λ x b q k. search (rules, tests)))
