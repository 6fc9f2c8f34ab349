-- The invariant: the lists agree in their first i bytes. Each word and the last one are answered by the laws of words.
use mathlib.Core.Path.{◌≡◌}
use lib.ListN.{take}
use Rattle.raw_table.proofs.search.equals.Given as goal

abbrev pub invariant-loop-i : goal.invariant-loop-i
invariant-loop-i l = take l.i l.a ≡ take l.i l.b
