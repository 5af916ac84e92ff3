-- Proof of `book_words::well::registers_fit`: each word's test.
-- Assumes: nothing.
use Rattle.std.proofs.Common.{rules, tests, ◌∙◌, arith}
use Rattle.std.proofs.lemmas.Iterator.{YieldsList-from_slice}
use Rattle.std.proofs.lemmas.Iterator.Search.{all_from_yields_List}
use Rattle.bit_fields.specs.Bits.{in_bits}
use Rattle.registers.specs.Words.{register_words}
use Rattle.book_words.specs.Layout.{registers_at}
use Rattle.book_words.proofs.ScanLaws.{part_all}
use Rattle.book_words.proofs.well.registers_fit.Goals as goal

pub returns : goal.returns
returns c =
    all_from_yields_List _ _ _ _ c.all.ensures.ran (YieldsList-from_slice _ c.iter.ensures.rest) (λ x b q k. search (rules, tests))
    ∙ part_all (λ word. in_bits word 32) c.args.book.now registers_at register_words (omega arith)
