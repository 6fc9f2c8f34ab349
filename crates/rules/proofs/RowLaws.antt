-- The first row that applies, row by row, what passing rows 1 to 10, or the rows of initialising, says of a book, and that rows 1 to 10 read
-- its header and its length alone. Assumes nothing.
use mathlib.Core.Path.{◌≡◌, refl, ap}
use mathlib.Core.Bool.{Bool, true, false, cond, not}
use mathlib.Core.List.{List, [], ◌∷◌}
use mathlib.Core.Option.{Option, none, some}
use Prim.Native.Nat.{ℕ, zero, suc, ◌+◌, ◌^◌, ◌≤◌, ◌<◌}
use native.Mathlib.Omega.{arith}
use borrow.Author.Tests.{eqb-true}
use lib.Dec.{eqb}
use lib.ListN.{length, get_or}
use Rattle.rules.specs.Bytes.{byte_at, part, le}
use Rattle.rules.specs.First.{first_some}
use Rattle.rules.specs.Layout.{are_sizes, is_slot_count, entry_at, total, slot_count}
use Rattle.rules.specs.Rows.{Refusal, refusal, row_if, header_rows, init_rows}
use Rattle.rules.specs.Bounds.{Passed}
use Rattle.rules.proofs.TestLaws.{impossible}
use Rattle.rules.proofs.BytesLaws.{same_part}
use Rattle.rules.proofs.LayoutLaws.{sizes, slots, entry_fits, total_fits}

pub first_if : (n : ℕ) (applies : Bool) (rest : List (Option Refusal))
    → first_some (row_if n applies ∷ rest) ≡ cond applies (some (refusal n)) (first_some rest)
unfolding first_some
first_if n true rest = refl
first_if n false rest = refl

-- where the first that applies is none, no row applies
pub none_at : (rows : List (Option Refusal)) → first_some rows ≡ none → (i : ℕ) → get_or rows i none ≡ none
unfolding first_some
none_at [] e i = refl
none_at (none ∷ rows) e zero = refl
none_at (none ∷ rows) e (suc i) = none_at rows e i
none_at (some r ∷ rows) e i = impossible cc

-- a row that refuses what does not pass a test: it does not apply, so the test is passed
pub passes : (n : ℕ) (test : Bool) → row_if n (not test) ≡ none → test ≡ true
passes n true e = refl
passes n false e = impossible cc

module _ (s : List ℕ) (k v : ℕ) (e : first_some (header_rows s k v) ≡ none) where
  pub passed : Passed s k v (slot_count s)
  unfolding header_rows
  passed = record {
    sizes = sizes k v (passes 1 (are_sizes k v) (none_at (header_rows s k v) e 0));
    slots = slots (slot_count s) (passes 9 (is_slot_count (slot_count s)) (none_at (header_rows s k v) e 8));
    long = eqb-true (length s) (total k v (slot_count s)) (passes 10 (eqb (length s) (total k v (slot_count s))) (none_at (header_rows s k v) e 9));
  }

  -- the sizes are those that the header states
  pub key_stated : byte_at s 5 ≡ k
  unfolding header_rows
  key_stated = eqb-true (byte_at s 5) k (passes 6 (eqb (byte_at s 5) k) (none_at (header_rows s k v) e 5))

  pub value_stated : byte_at s 6 ≡ v
  unfolding header_rows
  value_stated = eqb-true (byte_at s 6) v (passes 7 (eqb (byte_at s 6) v) (none_at (header_rows s k v) e 6))

module _ (s t : List ℕ) (long : length s ≡ length t) (same : (x : ℕ) → x < 32 → byte_at s x ≡ byte_at t x) where
  pub same_count : slot_count s ≡ slot_count t
  same_count = ap le (same_part 8 16 s t long (λ i h. same (16 + i) (omega arith)))

  pub same_rows : (k v : ℕ) → header_rows s k v ≡ header_rows t k v
  unfolding header_rows
  same_rows k v =
      let tag : part 4 0 s ≡ part 4 0 t = same_part 4 0 s t long (λ i h. same (0 + i) (omega arith)) in
      let version : part 4 24 s ≡ part 4 24 t = same_part 4 24 s t long (λ i h. same (24 + i) (omega arith)) in
      rw (tag, version, same_count, long, same 4 (omega arith), same 5 (omega arith), same 6 (omega arith), same 7 (omega arith))

module _ (s : List ℕ) (k v S : ℕ) (e : first_some (init_rows s k v S) ≡ none) where
  pub init_passed : Passed s k v S
  unfolding init_rows
  init_passed = record {
    sizes = sizes k v (passes 1 (are_sizes k v) (none_at (init_rows s k v S) e 0));
    slots = slots S (passes 9 (is_slot_count S) (none_at (init_rows s k v S) e 1));
    long = eqb-true (length s) (total k v S) (passes 10 (eqb (length s) (total k v S)) (none_at (init_rows s k v S) e 2));
  }

-- an entry lies within a book that passed, and the book's length is small
pub inside : (s : List ℕ) (k v S i : ℕ) → Passed s k v S → i < S → (entry_at k v i + (k + v) ≤ length s) × (length s < 2 ^ 29)
inside s k v S i p h = (
  omega (arith, entry_fits k v S p.sizes p.slots i h, p.long),
  omega (arith, total_fits k v S p.sizes p.slots, p.long),
)
