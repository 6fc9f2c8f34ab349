-- Key and value written one after the other are the entry, and then come the control byte and its mirror.
use mathlib.Core.Path.{◌≡◌, sym, ap, ap₂, ◌∙◌}
use mathlib.Core.List.{List, ◌++◌}
use Prim.Native.Nat.{ℕ, ◌+◌}
use lib.Seq.{sets}
use Rattle.rules.specs.Hash.{tag}
use Rattle.rules.specs.Layout.{entry_at}
use Rattle.rules.specs.Calls.{set_control}
use Rattle.raw_table.proofs.WriteLaws.{sets_append}
use Rattle.raw_table.proofs.insert.write_new.Goals as goal
use Rattle.raw_table.proofs.insert.write_new.Goals.{After-overwrite, After-overwrite-2, Start}

-- the book once key and value are written
abbrev entry : After-overwrite → List ℕ
entry c =
    let a = c.args in
    sets a.book.now (entry_at a.sizes.k a.sizes.v a.slot.0) (a.key.now ++ a.value.now)

entry_is : (c : After-overwrite-2) → c.overwrite-2.new.dst ≡ entry (goal.at.After-overwrite-2 c).After-overwrite
entry_is c =
    let a = c.args in
    let e = c.overwrite.ensures ∙ ap (λ (at : ℕ). sets a.book.now at a.key.now) c.entry_offset.ensures in
    c.overwrite-2.ensures
    ∙ ap₂ (λ (s : List ℕ) (at : ℕ). sets s at a.value.now) e c.value_offset.ensures
    ∙ ap (λ (k : ℕ). sets (sets a.book.now (entry_at a.sizes.k a.sizes.v a.slot.0) a.key.now) (entry_at a.sizes.k a.sizes.v a.slot.0 + k) a.value.now) (sym c.requires.2)
    ∙ sym (sets_append a.book.now (entry_at a.sizes.k a.sizes.v a.slot.0) a.key.now a.value.now)

pub returns : goal.returns
returns c =
    let a = c.args in
    let h = c.h2.ensures.0 ∙ ap tag c.hash.ensures in
    c.set_control.ensures
    ∙ ap₂ (λ (s : List ℕ) (t : ℕ). set_control s a.sizes.k a.sizes.v a.slots.n a.slot.0 t) (entry_is (goal.at.returns c).After-overwrite-2) h
