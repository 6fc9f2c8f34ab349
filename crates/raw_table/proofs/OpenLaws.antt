-- The search in an opened table is the search that the rules make in the book. Assumes nothing.
use mathlib.Core.Path.{◌≡◌, sym, ◌∙◌}
use mathlib.Core.List.{List}
use Prim.Native.Nat.{ℕ}
use denote.Bor.{Bor}
use Rattle.rules.specs.Layout.{slot_count}
use Rattle.rules.specs.Search.{spot_of}
use Rattle.memory_layout.specs.declared.table.Table.{Table}
use Rattle.memory_layout.specs.Checked.{passed, checked}
use Rattle.memory_layout.proofs.CheckedLaws.{Checks, checks}
use Rattle.raw_table.specs.declared.search.Spot.{Spot}
use Rattle.raw_table.specs.Said.{said_spot}

module _ (b : Bor (List ℕ)) (k v : ℕ) (t : Table) (said : passed t.slots.n ≡ checked b.now k v) (is : (t.bytes ≡ b) × (t.sizes.k ≡ k) × (t.sizes.v ≡ v)) where
  pub opened : Checks b.now k v t.slots.n
  opened = checks b.now k v t.slots.n (sym said)

  pub ends : (key : List ℕ) (spot : Spot) → said_spot spot ≡ spot_of t.bytes.now t.sizes.k t.sizes.v t.slots.n key
      → spot_of b.now k v (slot_count b.now) key ≡ said_spot spot
  ends key spot e = sym (e ∙ rw (is.0, is.1, is.2, opened.count))
