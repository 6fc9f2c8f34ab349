-- A fresh book, where the rows of initialising pass: its length, what it states, and what each of its bytes is. Assumes nothing.
use mathlib.Core.Path.{◌≡◌, refl, sym, ap, ◌∙◌}
use mathlib.Core.Bool.{true}
use mathlib.Core.List.{List, ◌++◌}
use mathlib.Core.Option.{Option, none, some}
use Prim.Native.Nat.{ℕ, ◌+◌, ◌*◌, ◌^◌, ◌<◌}
use native.Mathlib.Omega.{arith}
use borrow.Author.Tests.{eq-eqb, le-ltb}
use lib.ListN.{length, replicate, length-append, length-replicate, get_or-replicate, get_or-append}
use lib.Seq.{get_or-append-add}
use Rattle.rules.specs.Bytes.{byte_at, part, le_bytes, same_bytes}
use Rattle.rules.specs.First.{first_some}
use Rattle.rules.specs.Layout.{are_sizes, is_slot_count, book_tag, version, header, total, slot_count, control, fresh_book}
use Rattle.rules.specs.Rows.{Refusal, header_rows, init_rows}
use Rattle.rules.specs.Calls.{refused, fine, by_rows, init_answer, init_book}
use Rattle.rules.proofs.TestLaws.{impossible}
use Rattle.rules.proofs.BytesLaws.{le_le_bytes}
use Rattle.rules.proofs.RowLaws.{none_at, passes, init_passed}

module _ (k v S count load : ℕ) where
  abbrev fresh : List ℕ
  fresh = fresh_book k v S count load

  abbrev front : List ℕ
  front = header k v S count load ++ replicate (S * (k + v)) 0

  length_header : length (header k v S count load) ≡ 32
  unfolding header le_bytes
  length_header = refl

  length_front : length front ≡ 32 + S * (k + v)
  length_front = simp (length-append, length_header, length-replicate)

  pub length_fresh : length fresh ≡ total k v S
  unfolding fresh_book
  length_fresh = simp (length-append, length_header, length-replicate) (omega arith)

  -- control bytes and mirrors are 0xFF
  pub control_fresh : (p : ℕ) → p < S + 16 → control fresh k v S p ≡ 0xff
  unfolding fresh_book
  control_fresh p h =
      ap (λ (n : ℕ). byte_at (front ++ replicate (S + 16) 0xff) (n + p)) (sym length_front)
      ∙ get_or-append-add front (replicate (S + 16) 0xff) p 0
      ∙ get_or-replicate (S + 16) p 0xff 0 h

  -- entries are 0
  pub entry_fresh : (x : ℕ) → x < S * (k + v) → byte_at fresh (32 + x) ≡ 0
  unfolding fresh_book
  entry_fresh x h =
      get_or-append front (replicate (S + 16) 0xff) 0 (32 + x) (omega (arith, length_front))
      ∙ ap (λ (n : ℕ). byte_at front (n + x)) (sym length_header)
      ∙ get_or-append-add (header k v S count load) (replicate (S * (k + v)) 0) x 0
      ∙ get_or-replicate (S * (k + v)) x 0 0 h

  pub count_fresh : S < 2 ^ 64 → slot_count fresh ≡ S
  unfolding fresh_book header le_bytes
  count_fresh h = le_le_bytes 8 S h

  -- the tag, the version and the four sizes
  stated_fresh : (same_bytes (part 4 0 fresh) book_tag ≡ true) × (same_bytes (part 4 24 fresh) version ≡ true)
      × (byte_at fresh 4 ≡ 1) × (byte_at fresh 5 ≡ k) × (byte_at fresh 6 ≡ v) × (byte_at fresh 7 ≡ 32)
  unfolding fresh_book header le_bytes same_bytes
  stated_fresh = (refl, refl, refl, refl, refl, refl)

module _ (s : List ℕ) (k v S : ℕ) (e : first_some (init_rows s k v S) ≡ none) (count load : ℕ) where
  pub states_slots : slot_count (fresh_book k v S count load) ≡ S
  states_slots = count_fresh k v S count load (omega (arith, (init_passed s k v S e).slots.most))

  pub rows_fresh : first_some (header_rows (fresh_book k v S count load) k v) ≡ none
  unfolding header_rows init_rows first_some
  rows_fresh =
      let long : length (fresh_book k v S count load) ≡ total k v S = length_fresh k v S count load in
      let sizes : are_sizes k v ≡ true = passes 1 (are_sizes k v) (none_at (init_rows s k v S) e 0) in
      let slots : is_slot_count S ≡ true = passes 9 (is_slot_count S) (none_at (init_rows s k v S) e 1) in
      let stated = stated_fresh k v S count load in
      rw (
        sizes,
        long,
        le-ltb (total k v S) 32 (omega arith),
        stated.0,
        stated.1,
        stated.2,
        stated.3,
        stated.4,
        stated.5,
        eq-eqb k k refl,
        eq-eqb v v refl,
        states_slots,
        slots,
        eq-eqb (total k v S) (total k v S) refl,
      )

  -- then initialising makes it
  pub init_fresh : init_book s k v S count load ≡ fresh_book k v S count load
  unfolding init_book by_rows
  init_fresh = rw e

-- initialising says fine only where its rows pass
pub init_passes : (s : List ℕ) (k v S : ℕ) → init_answer s k v S ≡ fine → first_some (init_rows s k v S) ≡ none
unfolding init_answer by_rows
init_passes s k v S e = go (first_some (init_rows s k v S)) e
  where
    go : (o : Option Refusal) → by_rows o refused fine ≡ fine → o ≡ none
    go none f = refl
    go (some r) f = impossible cc
