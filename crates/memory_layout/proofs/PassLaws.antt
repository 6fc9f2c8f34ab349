-- When no row applies, by the rows' own tests: where all are passed, and only there. A stated size is a byte, so that it is none above 255. Assumes nothing.
use mathlib.Core.Path.{◌≡◌, refl}
use mathlib.Core.Bool.{Bool, true, false, ◌||◌}
use mathlib.Core.List.{List}
use mathlib.Core.Option.{none}
use Prim.Native.Nat.{ℕ, ◌≤◌, ◌<◌}
use native.Mathlib.Omega.{arith}
use borrow.Author.Tests.{eq-eqb, le-ltb, le-leb}
use lib.Dec.{eqb}
use lib.ListN.{length}
use Rattle.rules.specs.Bytes.{byte_at, part, same_bytes}
use Rattle.rules.specs.First.{first_some}
use Rattle.rules.specs.Layout.{are_sizes, is_slot_count, book_tag, version, total, slot_count}
use Rattle.rules.specs.Rows.{header_rows}
use Rattle.rules.proofs.TestLaws.{impossible}
use Rattle.rules.proofs.RowLaws.{none_at, passes, passed}

-- where not one of two holds, neither does
pub neither : (p q : Bool) → p || q ≡ false → (p ≡ false) × (q ≡ false)
neither true q e = impossible cc
neither false true e = impossible cc
neither false false e = (refl, refl)

pub sizes_of : (k v : ℕ) → 1 ≤ k → k < 256 → v < 256 → are_sizes k v ≡ true
unfolding are_sizes
sizes_of k v a b c = rw (le-leb 1 k a, le-leb k 255 (omega arith), le-leb v 255 (omega arith))

pub no_row_applies : (s : List ℕ) (k v : ℕ) → are_sizes k v ≡ true → 32 ≤ length s → same_bytes (part 4 0 s) book_tag ≡ true → same_bytes (part 4 24 s) version ≡ true
    → eqb (byte_at s 4) 1 ≡ true → eqb (byte_at s 5) k ≡ true → eqb (byte_at s 6) v ≡ true → eqb (byte_at s 7) 32 ≡ true
    → is_slot_count (slot_count s) ≡ true → length s ≡ total k v (slot_count s) → first_some (header_rows s k v) ≡ none
unfolding header_rows first_some
no_row_applies s k v size long tag last four five six seven count whole =
    rw (size, le-ltb (length s) 32 long, tag, last, four, five, six, seven, count, eq-eqb (length s) (total k v (slot_count s)) whole)

pub each_passed : (s : List ℕ) (k v : ℕ) → first_some (header_rows s k v) ≡ none
    → (are_sizes k v ≡ true) × (same_bytes (part 4 0 s) book_tag ≡ true) × (same_bytes (part 4 24 s) version ≡ true)
    × (eqb (byte_at s 4) 1 ≡ true) × (eqb (byte_at s 5) k ≡ true) × (eqb (byte_at s 6) v ≡ true) × (eqb (byte_at s 7) 32 ≡ true)
    × (is_slot_count (slot_count s) ≡ true) × (eqb (length s) (total k v (slot_count s)) ≡ true)
unfolding header_rows
each_passed s k v e =
    let at = none_at (header_rows s k v) e in (
      passes 1 (are_sizes k v) (at 0),
      passes 3 (same_bytes (part 4 0 s) book_tag) (at 2),
      passes 4 (same_bytes (part 4 24 s) version) (at 3),
      passes 5 (eqb (byte_at s 4) 1) (at 4),
      passes 6 (eqb (byte_at s 5) k) (at 5),
      passes 7 (eqb (byte_at s 6) v) (at 6),
      passes 8 (eqb (byte_at s 7) 32) (at 7),
      passes 9 (is_slot_count (slot_count s)) (at 8),
      passes 10 (eqb (length s) (total k v (slot_count s))) (at 9),
    )

pub whole_header : (s : List ℕ) (k v : ℕ) → first_some (header_rows s k v) ≡ none → 32 ≤ length s
whole_header s k v e = omega (arith, (passed s k v e).long)
