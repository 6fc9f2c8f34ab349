-- From 16 on and below, by the laws `count_test` and `count_least`. Assumes nothing.
use mathlib.Core.Path.{◌≡◌, sym, ◌∙◌}
use mathlib.Core.Bool.{true}
use native.Mathlib.Omega.{arith}
use Rattle.rules.specs.Layout.{slot_limit, is_slot_count}
use Rattle.rules.proofs.LayoutLaws.{slots, count_test, count_least}
use Rattle.memory_layout.proofs.kinds.SlotCount.new.Goals as goal
use Rattle.memory_layout.proofs.kinds.SlotCount.new.Goals.{Then-is_power-n}

counted : (c : Then-is_power-n) → is_slot_count c.args.n ≡ true
unfolding slot_limit
counted c = sym (count_test c.args.n (omega arith) (omega arith)) ∙ c.if-is_power-n.true

pub invariant_of-result : goal.invariant_of-result
invariant_of-result c = record { is_count = slots c.args.n (counted (goal.at.invariant_of-result c).Then-is_power-n) }

pub returns-then-is_power-n-clause-known : goal.returns-then-is_power-n-clause-known
returns-then-is_power-n-clause-known c = sym (counted (goal.at.returns-then-is_power-n-clause-known c).Then-is_power-n)

pub returns-else-is_power-n-clause-known : goal.returns-else-is_power-n-clause-known
unfolding slot_limit
returns-else-is_power-n-clause-known c = sym c.if-is_power-n.false ∙ count_test c.args.n (omega arith) (omega arith)

pub returns-else-is_enough-clause-known : goal.returns-else-is_enough-clause-known
returns-else-is_enough-clause-known c = sym (count_least c.args.n (omega arith))
