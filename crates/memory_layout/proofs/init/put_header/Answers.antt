-- The fields follow each other, so their stores are one store of the whole header. Assumes nothing.
use lib.Seq.{sets-eq}
use Rattle.rules.specs.Bytes.{le_bytes}
use Rattle.rules.specs.Layout.{header}
use Rattle.memory_layout.proofs.init.put_header.Goals as goal

pub returns : goal.returns
unfolding header le_bytes
returns c =
    let a = c.args in
    rw (c.put-5.ensures, c.put-4.ensures, c.put-3.ensures, c.put-2.ensures, c.put.ensures, c.put_sizes.ensures)
    (sets-eq (header a.sizes.k a.sizes.v a.slots.n a.items a.load) a.book.now 0 c.requires)
