-- The sum is the rule's.
use mathlib.Core.Path.{◌∙◌}
use native.Mathlib.Nat.{one-mul, mod-lt}
use native.Mathlib.Omega.{arith}
use Rattle.rules.specs.Probe.{group_start}
use Rattle.book_check.proofs.reach.slot_at.Goals as goal

pub returns : goal.returns
unfolding group_start
returns c = (c.wrap.ensures ∙ rw one-mul, rw c.wrap.ensures (mod-lt _ (omega arith)))
