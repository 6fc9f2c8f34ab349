-- The invariant: what is to be written from i on, over what is there now, makes the whole.
use mathlib.Core.Path.{◌≡◌}
use Prim.Native.Nat.{◌+◌, ◌≤◌}
use lib.ListN.{length, drop}
use lib.Seq.{sets}
use Rattle.raw_table.proofs.insert.overwrite.Given as goal

abbrev pub invariant-loop-i : goal.invariant-loop-i
invariant-loop-i l = (l.i ≤ length l.src) × (length l.dst ≡ length l.initial.dst) × (sets l.initial.dst l.at l.src ≡ sets l.dst (l.at + l.i) (drop l.i l.src))
