-- A step from the closed form before group j gives the one before the next, by the half of the pair that j is.
use Rattle.raw_table.proofs.SeqLaws.{next_pair, next_half}
use Rattle.raw_table.proofs.probe.ProbeSeq.advance.Goals as goal

pub returns-then-chunk-eq16 : goal.returns-then-chunk-eq16
returns-then-chunk-eq16 c =
    λ b j e.
    let a = c.args in
    next_pair b a.slots.n j a.self e c.wrap.result c.if-chunk-eq16.true c.wrap.ensures

pub returns-else-chunk-eq16 : goal.returns-else-chunk-eq16
returns-else-chunk-eq16 c =
    λ b j e.
    let a = c.args in
    next_half b a.slots.n j a.self e c.wrap-else-chunk-eq16.result c.if-chunk-eq16.false c.wrap-else-chunk-eq16.ensures
