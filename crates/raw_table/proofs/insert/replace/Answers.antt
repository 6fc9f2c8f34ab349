-- The slot's value bytes are read as a part of the book, and make the whole of the third buffer. Assumes nothing.
use mathlib.Core.Path.{◌≡◌, sym, ap, ap₂, ◌∙◌}
use Prim.Native.Nat.{ℕ, ◌+◌, ◌-◌}
use native.Mathlib.Omega.{arith}
use lib.ListN.{take, drop}
use lib.Seq.{sets}
use Rattle.rules.specs.Bounds.{Passed}
use Rattle.rules.specs.Layout.{value_at}
use Rattle.rules.proofs.BytesLaws.{length_part}
use Rattle.rules.proofs.RowLaws.{inside}
use Rattle.raw_table.proofs.WriteLaws.{sets_whole}
use Rattle.raw_table.proofs.insert.replace.Goals as goal

pub returns-clause-old_after : goal.returns-clause-old_after
returns-clause-old_after c =
    let a = c.args in
    let o = c.value_offset-at in
    let passed : Passed a.book.now a.sizes.k a.sizes.v a.slots.n = record { sizes = a.sizes.in_range; slots = a.slots.is_count; long = c.requires.0 } in
    let within = inside a.book.now a.sizes.k a.sizes.v a.slots.n a.slot.0 passed c.requires.1 in
    let n : o.result.0 + a.sizes.v - o.result.0 ≡ a.sizes.v = omega arith in
    let part_is = ap₂ (λ (m at : ℕ). take m (drop at a.book.now)) n o.ensures in
    let long = length_part a.sizes.v (value_at a.sizes.k a.sizes.v a.slot.0) a.book.now (omega (arith, within.0)) in
    c.overwrite.ensures ∙ ap (sets a.old.now 0) part_is ∙ sets_whole a.old.now _ (long ∙ sym c.requires.3)
