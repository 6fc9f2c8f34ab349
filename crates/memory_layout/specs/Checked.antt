-- The rows of a header as one answer, and the two rows of a buffer's length.
use Rattle.std.specs.Prelude.{ℕ, not, List, [], ◌∷◌, eqb}
use Rattle.std.proofs.Math.Option.{Option}
use Rattle.rules.specs.First.{first_some}
use Rattle.rules.specs.Layout.{is_slot_count, slot_count, total}
use Rattle.rules.specs.Rows.{Refusal, row_if, header_rows}
use Rattle.rules.specs.Calls.{by_rows}

-- a book that passes rows 1 to 10 has its slot count
pub data Checked : Type 0 where
  passed : ℕ → Checked
  failed : Refusal → Checked

unfoldable pub checked : List ℕ → ℕ → ℕ → Checked
checked s k v = by_rows (first_some (header_rows s k v)) failed (passed (slot_count s))

-- rows 9 and 10 of a buffer of a length
unfoldable pub size_rows : ℕ → ℕ → ℕ → ℕ → List (Option Refusal)
size_rows len k v S = row_if 9 (not (is_slot_count S)) ∷ row_if 10 (not (eqb len (total k v S))) ∷ []
