-- The byte at the slot's control position, and at its mirror's where there is one.
use mathlib.Core.Path.{◌≡◌, ap, ap₂, ◌∙◌}
use Prim.Native.Nat.{ℕ}
use borrow.Author.Tests.{lt-ltb, le-ltb}
use lib.ListN.{set}
use Rattle.rules.specs.Layout.{control_at}
use Rattle.rules.specs.Calls.{set_control}
use Rattle.raw_table.proofs.insert.set_control.Goals as goal
use Rattle.raw_table.proofs.insert.set_control.Goals.{After-control_offset-at}

slot_at : (c : After-control_offset-at)
    → c.control_offset-at.result.0 ≡ control_at c.args.sizes.k c.args.sizes.v c.args.slots.n c.args.slot.0
slot_at c =
    let a = c.args in
    c.control_offset-at.ensures ∙ ap (control_at a.sizes.k a.sizes.v a.slots.n) c.control_of.ensures

pub returns-then-has_mirror : goal.returns-then-has_mirror
unfolding set_control
returns-then-has_mirror c =
    let a = c.args in
    rw (lt-ltb a.slot.0 16 c.if-has_mirror.true)
    (ap₂ (λ (i j : ℕ). set (set a.book.now i a.h2) j a.h2) (slot_at (goal.at.returns-then-has_mirror c).After-control_offset-at)
    (c.control_offset-mirror.ensures ∙ ap (control_at a.sizes.k a.sizes.v a.slots.n) c.mirror_of.ensures))

pub returns-else-has_mirror : goal.returns-else-has_mirror
unfolding set_control
returns-else-has_mirror c =
    let a = c.args in
    rw (le-ltb a.slot.0 16 c.if-has_mirror.false) (ap (λ (i : ℕ). set a.book.now i a.h2) (slot_at (goal.at.returns-else-has_mirror c).After-control_offset-at))
