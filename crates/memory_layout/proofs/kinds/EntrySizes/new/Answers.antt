-- The three tests are those of the rule. Assumes nothing.
use mathlib.Core.Path.{sym}
use Rattle.rules.specs.Layout.{are_sizes}
use Rattle.memory_layout.proofs.kinds.EntrySizes.new.Goals as goal

pub returns-then-k-v-clause-known : goal.returns-then-k-v-clause-known
unfolding are_sizes
returns-then-k-v-clause-known c = sym c.if-k-v.true

pub returns-else-k-v-clause-known : goal.returns-else-k-v-clause-known
unfolding are_sizes
returns-else-k-v-clause-known c = sym c.if-k-v.false
