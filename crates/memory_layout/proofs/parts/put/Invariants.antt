-- The whole is what the bytes still to be written make of the bytes so far. Assumes nothing.
use mathlib.Core.Path.{◌≡◌}
use Prim.Native.Nat.{◌+◌, ◌-◌, ◌≤◌}
use lib.ListN.{length}
use lib.Seq.{sets}
use Rattle.rules.specs.Bytes.{le_bytes}
use Rattle.memory_layout.proofs.parts.put.Given as goal

abbrev pub invariant-loop-i : goal.invariant-loop-i
invariant-loop-i l = (sets l.bytes (l.at + l.i) (le_bytes (l.width - l.i) l.rest) ≡ sets l.initial.bytes l.at (le_bytes l.width l.n)) × (l.i ≤ l.width) × (length l.bytes ≡ length l.initial.bytes)

abbrev pub decreases-loop-i : goal.decreases-loop-i
decreases-loop-i l = l.width - l.i
