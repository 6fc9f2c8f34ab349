-- The slot at fault is the lowest whose key stands below too.
use Rattle.std.proofs.Common.{rules, ap, ◌∙◌}
use native.Mathlib.Nat.{sub-zero}
use Rattle.rules.specs.Rows.{row_at}
use Rattle.rules.specs.Check.{is_twin}
use Rattle.memory_layout.specs.Said.{said_row, said_refusal}
use Rattle.memory_layout.specs.TableParts.{in_table}
use Rattle.raw_slots.specs.SaidSlot.{said_slot}
use Rattle.book_check.proofs.twin.lowest_twin.Goals as goal

pub returns-in-Some : goal.returns-in-Some
unfolding row_at said_row said_refusal said_slot
returns-in-Some c = ap (row_at 16) (c.in-Some.ensures.first (in_table c.args.table.now is_twin) (λ i b l p. search rules) ∙ rw sub-zero)

pub returns-in-None : goal.returns-in-None
unfolding row_at said_row said_slot
returns-in-None c = ap (row_at 16) (c.in-None.ensures.first (in_table c.args.table.now is_twin) (λ i b l p. search rules) ∙ rw sub-zero)
