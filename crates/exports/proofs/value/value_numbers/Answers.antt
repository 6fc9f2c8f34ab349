-- A search that found a slot had the sizes of a book, and the slot lies in it. Assumes nothing.
use mathlib.Core.Path.{◌≡◌, sym, ap, ◌∙◌}
use Prim.Native.Nat.{◌<◌}
use native.Mathlib.Omega.{arith}
use Rattle.std.specs.Prelude.{Ok}
use Rattle.rules.specs.Bounds.{Passed}
use Rattle.rules.specs.Layout.{slot_count}
use Rattle.rules.proofs.CallLaws.{at_passed}
use Rattle.raw_table.specs.Said.{said_found}
use Rattle.exports.proofs.value.value_numbers.Goals as goal
use Rattle.exports.proofs.value.value_numbers.Goals.{In-At}

at : (c : In-At) → Passed c.args.book.now c.args.k c.args.v (slot_count c.args.book.now) × (c.in-At.slot.0 < slot_count c.args.book.now)
at c =
    let a = c.args in
    at_passed a.book.now a.k a.v a.key.now c.in-At.slot.0 c.in-At.n
    (sym c.find-found.ensures ∙ ap said_found (c.in-Ok.is ∙ ap Ok c.in-At.is))

pub invariant_of-sizes : goal.invariant_of-sizes
invariant_of-sizes c = record { in_range = (at c).0.sizes }

pub offset_of-offset-requires : goal.offset_of-offset-requires
offset_of-offset-requires c = let p = at (goal.at.offset_of-offset-requires c).In-At in omega (arith, p.1, p.0.slots.most)
