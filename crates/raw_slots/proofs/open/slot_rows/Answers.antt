-- The slot at fault is the lowest that is not as it should be.
use Rattle.std.proofs.Common.{rules, not, ap, ◌∙◌}
use native.Mathlib.Nat.{sub-zero}
use Rattle.rules.specs.Rows.{slot_fine, slot_row, slot_rows}
use Rattle.memory_layout.specs.Said.{said_row}
use Rattle.memory_layout.specs.TableParts.{in_table}
use Rattle.raw_slots.specs.SaidSlot.{said_slot}
use Rattle.raw_slots.proofs.open.slot_rows.Goals as goal

pub returns-in-Some : goal.returns-in-Some
unfolding slot_rows said_row said_slot
returns-in-Some c =
    let t = c.args.table.now in
    c.slot_fault.ensures ∙ ap (in_table t slot_row) (c.in-Some.ensures.first (λ i. not (in_table t slot_fine i)) (λ i b l p. search rules) ∙ rw sub-zero)

pub returns-in-None : goal.returns-in-None
unfolding slot_rows slot_row said_row said_slot
returns-in-None c =
    let t = c.args.table.now in
    ap (in_table t slot_row) (c.in-None.ensures.first (λ i. not (in_table t slot_fine i)) (λ i b l p. search rules) ∙ rw sub-zero)
