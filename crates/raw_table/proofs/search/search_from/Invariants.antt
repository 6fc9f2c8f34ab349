-- The outer invariant: n groups did not decide, so the whole is what the rest gives. The inner one: the candidates that are left decide the group. Assumes nothing.
use mathlib.Core.Path.{◌≡◌}
use Prim.Native.Nat.{◌≤◌}
use Rattle.rules.specs.Hash.{start_of}
use Rattle.rules.specs.Group.{reports}
use Rattle.rules.proofs.SearchLaws.{Rest}
use Rattle.raw_table.specs.declared.search.Spot.TheVariants.{Full}
use Rattle.raw_table.specs.Seq.{seq_at}
use Rattle.raw_table.proofs.TurnLaws.{Left}
use Rattle.raw_table.proofs.search.search_from.Given as goal

abbrev pub invariant-loop-left : goal.invariant-loop-left
invariant-loop-left l = Left l.table.bytes.now l.key l.table.sizes.k l.table.sizes.v l.table.slots.n l.p.0 l.left × (l.answer ≡ l.initial.answer)

abbrev pub decreases-loop-left : goal.decreases-loop-left
decreases-loop-left l = l.left

abbrev pub invariant-search : goal.invariant-search
invariant-search l = (l.n ≤ l.groups) × (l.ps ≡ seq_at (start_of l.slots.n l.key) l.slots.n l.n) × (l.answer ≡ Full l.groups) × (Rest 8 reports l.table.bytes.now l.table.sizes.k l.table.sizes.v l.slots.n l.key l.groups l.before ≡ Rest 8 reports l.table.bytes.now l.table.sizes.k l.table.sizes.v l.slots.n l.key l.groups l.n)
