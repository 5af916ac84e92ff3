-- Proof of `report::put::Writer::put_cell`: the text, and its ending.
-- Assumes: nothing.
use Rattle.report.proofs.PutLaws.{text_put}
use Rattle.report.proofs.put.Writer.put_cell.Goals as goal

pub returns-clause-put : goal.returns-clause-put
returns-clause-put c = text_put c.args.self.now.out.now c.args.text.now c.args.self.now.at c.args.ending c.requires c.copy_from_slice.ensures.after
