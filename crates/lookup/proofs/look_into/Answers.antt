-- Proof of `lookup::look_into`: the values are read back from their numbers.
-- Assumes: nothing.
use Rattle.lookup.proofs.RuledLaws.{into_back}
use Rattle.lookup.proofs.look_into.Goals as goal

pub returns : goal.returns
returns c =
    into_back c.args.registers c.args.memory.base c.args.memory.bytes.now c.args.request c.words-narrow.ensures c.given.ensures c.number.ensures
    c.look_by_numbers.ensures
