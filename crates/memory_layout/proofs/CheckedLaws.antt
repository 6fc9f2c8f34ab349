-- What a caller of `check_header` or `Table::open` learns of the book: from the slot count that it passed, from the refusal the first row that applies.
-- Assumes nothing.
use mathlib.Core.Path.{◌≡◌, refl}
use mathlib.Core.List.{List}
use mathlib.Core.Option.{Option, none, some}
use Prim.Native.Nat.{ℕ}
use Rattle.rules.specs.First.{first_some}
use Rattle.rules.specs.Layout.{slot_count}
use Rattle.rules.specs.Rows as rows
use Rattle.rules.specs.Rows.{header_rows}
use Rattle.rules.specs.Calls.{by_rows}
use Rattle.rules.specs.Bounds.{Passed}
use Rattle.rules.proofs.TestLaws.{impossible}
use Rattle.rules.proofs.RowLaws as row_laws
use Rattle.memory_layout.specs.declared.table.Table.{Table}
use Rattle.memory_layout.specs.Checked.{passed, failed, checked}

pub record Checks (s : List ℕ) (k v n : ℕ) : Type 0 where
  pub passed : Passed s k v n
  pub count : n ≡ slot_count s
  pub rows : first_some (header_rows s k v) ≡ none

by_passed : (o : Option rows.Refusal) (m n : ℕ) → by_rows o failed (passed m) ≡ passed n → (o ≡ none) × (n ≡ m)
unfolding by_rows
by_passed none m n e = (refl, cc)
by_passed (some r) m n e = impossible cc

by_failed : (o : Option rows.Refusal) (m : ℕ) (r : rows.Refusal) → by_rows o failed (passed m) ≡ failed r → o ≡ some r
unfolding by_rows
by_failed none m r e = impossible cc
by_failed (some q) m r e = cc

module _ (s : List ℕ) (k v : ℕ) where
  pub checks : (n : ℕ) → checked s k v ≡ passed n → Checks s k v n
  unfolding checked
  checks n e =
      let b = by_passed (first_some (header_rows s k v)) (slot_count s) n e in
      record { passed = rw b.1 (row_laws.passed s k v b.0); count = b.1; rows = b.0 }

  pub fails : (r : rows.Refusal) → checked s k v ≡ failed r → first_some (header_rows s k v) ≡ some r
  unfolding checked
  fails r e = by_failed (first_some (header_rows s k v)) (slot_count s) r e

-- a table passed rows 1, 9 and 10, and its bytes are as long as the rules say
pub passed_in : (t : Table) → Passed t.bytes.now t.sizes.k t.sizes.v t.slots.n
passed_in t = record { sizes = t.sizes.in_range; slots = t.slots.is_count; long = t.long }
