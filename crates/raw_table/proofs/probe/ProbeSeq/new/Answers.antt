-- The closed form before the first group is the key's start.
use Rattle.raw_table.proofs.SeqLaws.{seq_start}
use Rattle.raw_table.proofs.probe.ProbeSeq.new.Goals as goal

pub returns : goal.returns
returns c = let a = c.args in seq_start a.h1 a.slots.n c.wrap-start.result c.wrap-start.ensures
