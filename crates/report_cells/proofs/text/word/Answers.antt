-- Proof of `report_cells::text::word`: the text is put at the start.
-- Assumes: nothing.
use Rattle.report_cells.proofs.TextLaws.{word_whole}
use Rattle.report_cells.proofs.text.word.Goals as goal

pub returns : goal.returns
returns c = word_whole c.args.text.now _ c.requires c.copy_from_slice.ensures.after
