-- A mask of the slot count less one is the remainder: the law `mask_mod`. Assumes nothing.
use Rattle.rules.proofs.LayoutLaws.{mask_mod}
use Rattle.memory_layout.proofs.kinds.SlotCount.wrap.Goals as goal

pub returns : goal.returns
returns c = mask_mod c.args.self.n c.args.self.is_count c.args.x
