-- The slot that is found is the lowest that is occupied.
use Rattle.std.proofs.Common.{rules, ap, ◌∙◌}
use Rattle.rules.specs.Calls.{next, next_says}
use Rattle.memory_layout.specs.TableParts.{in_table, occupied_in}
use Rattle.raw_slots.specs.SaidIter.{said_occupied}
use Rattle.raw_slots.specs.SaidSlot.{said_slot}
use Rattle.raw_slots.proofs.iter.occupied_from.Goals as goal

pub returns-in_err-slot : goal.returns-in_err-slot
unfolding said_occupied next_says said_slot
returns-in_err-slot c =
    let t = c.args.table.now in
    rw c.from_residual.ensures (ap (in_table t next_says) (c.in_err-slot.ensures.first (occupied_in t) (λ i b l p. search rules)))

pub returns : goal.returns
unfolding said_occupied next_says said_slot
returns c =
    let t = c.args.table.now in
    ap (next c.in_ok-slot.slot.0) c.control_byte-control.ensures
    ∙ ap (in_table t next_says) (c.in_ok-slot.ensures.first (occupied_in t) (λ i b l p. search rules))
