-- A slot that iterating answers is one of the book's, so that its number is far below what 64 bits hold. Assumes nothing.
use mathlib.Core.Path.{◌≡◌, refl}
use mathlib.Core.List.{List}
use mathlib.Core.Option.{Option, none, some}
use Prim.Native.Nat.{ℕ, ◌-◌, ◌^◌, ◌≤◌, ◌<◌}
use native.Mathlib.Omega.{arith}
use Rattle.rules.specs.First.{numbers, first_of, first_some}
use Rattle.rules.specs.Layout.{slot_count, occupied}
use Rattle.rules.specs.Rows.{Refusal, header_rows}
use Rattle.rules.specs.Calls.{refused, next, by_rows, next_says, next_answer}
use Rattle.rules.proofs.FirstLaws.{some_lowest}
use Rattle.rules.proofs.RowLaws.{passed}
use Rattle.rules.proofs.TestLaws.{impossible}

module _ (s : List ℕ) (k v at i c : ℕ) where
  says_within : (S : ℕ) → S ≤ 2 ^ 20 → (o : Option ℕ) → first_of (occupied s k v S) (numbers at (S - at)) ≡ o → next_says s k v S o ≡ next i c → i < 2 ^ 20
  unfolding next_says
  says_within S l none e f = impossible cc
  says_within S l (some j) e f =
      let w = some_lowest (occupied s k v S) at (S - at) j e in
      let g : j ≡ i = cc in
      omega (arith, w.above, w.below)

  pub next_within : next_answer s k v at ≡ next i c → i < 2 ^ 20
  unfolding next_answer by_rows
  next_within = go (first_some (header_rows s k v)) refl
    where
      go : (o : Option Refusal) → first_some (header_rows s k v) ≡ o
          → by_rows o refused (next_says s k v (slot_count s) (first_of (occupied s k v (slot_count s)) (numbers at (slot_count s - at)))) ≡ next i c → i < 2 ^ 20
      go none e f = says_within (slot_count s) (passed s k v e).slots.most (first_of (occupied s k v (slot_count s)) (numbers at (slot_count s - at))) refl f
      go (some r) e f = impossible cc
