-- The part is the value of the slot that find answered; where find has no slot, the rule's part is empty too.
use mathlib.Core.Path.{◌≡◌, sym, ap, ap₂, ◌∙◌}
use Prim.Native.Nat.{ℕ, ◌+◌, ◌-◌, ◌^◌, ◌≤◌, ◌<◌}
use native.Mathlib.Omega.{arith}
use Rattle.std.specs.Prelude.{Ok}
use lib.ListN.{length, take, drop}
use Rattle.rules.specs.Bounds.{Passed}
use Rattle.rules.specs.Layout.{slot_count}
use Rattle.rules.specs.Rows.{Refusal}
use Rattle.rules.specs.Calls.{refused, at_slot, absent, find_answer}
use Rattle.rules.proofs.TestLaws.{impossible}
use Rattle.rules.proofs.RowLaws.{inside}
use Rattle.rules.proofs.CallLaws.{at_passed, value_at_slot, value_empty}
use Rattle.raw_table.specs.Said.{said_found}
use Rattle.raw_table.proofs.find.value.Goals as goal
use Rattle.raw_table.proofs.find.value.Goals.{After-value_offset-at, In-At}

found : (c : In-At)
    → find_answer c.args.book.now c.args.k c.args.v c.args.key.now ≡ at_slot c.in-At.slot.0 c.in-At.field-1
found c = sym c.find.ensures ∙ ap said_found (c.in-Ok.is ∙ ap Ok c.in-At.is)

at : (c : In-At)
    → Passed c.args.book.now c.args.k c.args.v (slot_count c.args.book.now) × (c.in-At.slot.0 < slot_count c.args.book.now)
at c = let a = c.args in at_passed a.book.now a.k a.v a.key.now c.in-At.slot.0 c.in-At.field-1 (found c)

value_in : (c : After-value_offset-at)
    → (c.value_offset-at.result.0 + c.args.v ≤ length c.args.book.now)
    × (length c.args.book.now < 2 ^ 29)
value_in c =
    let a = c.args in
    let i = inside a.book.now a.k a.v (slot_count a.book.now) c.in-At.slot.0 (at (goal.at.After-value_offset-at c).In-At).0 (at (goal.at.After-value_offset-at c).In-At).1 in
    (omega (arith, i.0, c.value_offset-at.ensures), i.1)

pub invariant_of-sizes : goal.invariant_of-sizes
invariant_of-sizes c = record { in_range = (at c).0.sizes }

pub value_offset-at-requires : goal.value_offset-at-requires
value_offset-at-requires c = let p = at (goal.at.value_offset-at-requires c).In-At in omega (arith, p.1, p.0.slots.most)

pub overflow_add-end : goal.overflow_add-end
overflow_add-end c = omega (arith, (value_in c).0, (value_in c).1)

pub slice_bounds-result-end-in-At : goal.slice_bounds-result-end-in-At
slice_bounds-result-end-in-At c = omega (arith, (value_in c).0)

pub returns-in-At : goal.returns-in-At
returns-in-At c =
    let a = c.args in
    let o = c.value_offset-at in
    let n : o.result.0 + a.v - o.result.0 ≡ a.v = omega arith in
    ap₂ (λ (m at : ℕ). take m (drop at a.book.now)) n o.ensures
    ∙ sym (value_at_slot a.book.now a.k a.v a.key.now c.in-At.slot.0 c.in-At.field-1 (found (goal.at.returns-in-At c).In-At))

not_absent : (m i n : ℕ) → absent m ≡ at_slot i n → ⊥
not_absent m i n e = impossible cc

not_refused : (r : Refusal) (i n : ℕ) → refused r ≡ at_slot i n → ⊥
not_refused r i n e = impossible cc

pub returns-in-Absent : goal.returns-in-Absent
returns-in-Absent c =
    let a = c.args in
    sym (value_empty a.book.now a.k a.v a.key.now (λ i n e. not_absent _ i n (sym (ap said_found (c.in-Ok.is ∙ ap Ok c.in-Absent.is)) ∙ c.find.ensures ∙ e)))

pub returns-in_default : goal.returns-in_default
returns-in_default c =
    let a = c.args in
    sym (value_empty a.book.now a.k a.v a.key.now (λ i n e. not_refused _ i n (sym (ap said_found c.in_default.is) ∙ c.find.ensures ∙ e)))
