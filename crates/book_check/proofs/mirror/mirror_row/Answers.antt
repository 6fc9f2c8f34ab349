-- The mirror at fault is the lowest that differs.
use Rattle.std.proofs.Common.{rules, ap}
use Rattle.rules.specs.Rows.{row_at}
use Rattle.rules.specs.Check.{mirror_differs}
use Rattle.memory_layout.specs.Said.{said_row, said_refusal}
use Rattle.memory_layout.specs.TableParts.{in_table}
use Rattle.raw_slots.specs.SaidSlot.{said_slot}
use Rattle.book_check.proofs.mirror.mirror_row.Goals as goal

pub returns-in-Some : goal.returns-in-Some
unfolding row_at said_row said_refusal said_slot
returns-in-Some c = ap (row_at 15) (c.in-Some.ensures.first (in_table c.args.table.now mirror_differs) (λ i b l p. search rules))

pub returns-in-None : goal.returns-in-None
unfolding row_at said_row said_slot
returns-in-None c = ap (row_at 15) (c.in-None.ensures.first (in_table c.args.table.now mirror_differs) (λ i b l p. search rules))
