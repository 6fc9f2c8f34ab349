-- What iterating answers, in the rules' terms.
use Rattle.std.specs.Prelude.{ℕ, Option, Some, None, Result, Ok, Err}
use Rattle.rules.specs.Calls.{Answer, refused, next, done, step_to}
use Rattle.memory_layout.specs.declared.kinds.Slot.{Slot}
use Rattle.memory_layout.specs.declared.refusal.Refusal.{Refusal}
use Rattle.memory_layout.specs.Said.{said_refusal}
use Rattle.raw_slots.specs.declared.iter.RawIter.{RawIter}

-- an occupied slot with its control byte, or that there is none
unfoldable pub said_occupied : Option (Slot × ℕ) → Answer
said_occupied (Some at) = next at.0.0 at.1
said_occupied None = done

unfoldable pub said_next : Result (Option (Slot × ℕ)) Refusal → Answer
said_next (Ok found) = said_occupied found
said_next (Err r) = refused (said_refusal r)

-- the walk after a step: the same table, and the place that the step leads to
abbrev pub stepped : RawIter → RawIter
stepped w = record { table = w.table; k = w.k; v = w.v; next = step_to w.table.now w.k w.v w.next }
