-- A sound book opens and passes the whole-book check: each row looks for the first slot at fault, and none is. Assumes nothing.
use mathlib.Core.Path.{◌≡◌, refl, ap, ◌∙◌}
use mathlib.Core.Bool.{Bool, true, false, not, ◌&&◌}
use mathlib.Core.List.{List, [], ◌∷◌, ◌++◌}
use mathlib.Core.Option.{Option, none, some}
use Prim.Native.Nat.{ℕ, ◌+◌, ◌*◌, ◌/◌, ◌≤◌, ◌<◌}
use native.Mathlib.Omega.{arith}
use borrow.Author.Tests.{eqb-true, eq-eqb, eqb-false}
use lib.Dec.{eqb}
use lib.ListN.{drop, length-take}
use Rattle.rules.specs.Bytes.{byte_at, part, same_bytes}
use Rattle.rules.specs.First.{numbers, first_of, some_of, first_some}
use Rattle.rules.specs.Layout.{entry_at, slot_count, key_of, control, occupied, is_empty}
use Rattle.rules.specs.Hash.{tag_of, start_of}
use Rattle.rules.specs.Probe.{slot_at}
use Rattle.rules.specs.Rows.{Refusal, row_at, header_rows, is_zero, slot_fine, slot_row, slot_rows}
use Rattle.rules.specs.Calls.{fine, by_rows, open_answer}
use Rattle.rules.specs.Check.{place_of, filled, reachable_at, reachable, mirror_differs, is_twin, is_lost, body_rows, check_answer}
use Rattle.rules.proofs.BytesLaws.{part_at, same_is}
use Rattle.rules.proofs.FirstLaws.{none_fails, fails_none, some_lowest, each_number, each_at, first_later}
use Rattle.promises.specs.Sound.{Has, Sound}
use Rattle.promises.proofs.Found.{sound_slots}
use Rattle.promises.proofs.Order.{order_onto}

module _ (s : List ℕ) (k v S : ℕ) (g : Sound s k v S) where
  -- ---- rows 11 and 12

  zero_entry : (i : ℕ) → i < S → occupied s k v S i ≡ false → is_zero s k v S i ≡ true
  unfolding is_zero
  zero_entry i h e =
      each_at (λ b. eqb b 0) (part (k + v) (entry_at k v i) s)
      (λ n l. let u : n < k + v = omega (arith, length-take (k + v) (drop (entry_at k v i) s)) in
      eq-eqb (byte_at (part (k + v) (entry_at k v i) s) n) 0 (part_at (k + v) (entry_at k v i) n s u ∙ g.zeros i n h e u))

  slot_is_fine : (i : ℕ) → i < S → slot_fine s k v S i ≡ true
  unfolding slot_fine
  slot_is_fine i h = go (is_empty (control s k v S i)) refl
    where
      go : (q : Bool) → is_empty (control s k v S i) ≡ q → slot_fine s k v S i ≡ true
      go true e = rw e (zero_entry i h (ap not e))
      go false e =
          rw e (eq-eqb (control s k v S i) (tag_of (key_of s k v i)) (g.tags (key_of s k v i) i (record { slot = h; taken = ap not e; key_is = refl })))

  slots_fine : (n : ℕ) → n ≤ S → slot_rows s k v S n ≡ none
  unfolding slot_rows slot_row
  slots_fine n h = rw (fails_none (λ i. not (slot_fine s k v S i)) 0 n (λ i l u. ap not (slot_is_fine i (omega arith))))

  -- ---- rows 15, 16 and 17

  mirrors_fine : row_at 15 (first_of (mirror_differs s k v S) (numbers 0 16)) ≡ none
  unfolding row_at mirror_differs
  mirrors_fine =
      rw (fails_none (mirror_differs s k v S) 0 16 (λ j l u. ap not (eq-eqb (control s k v S (S + j)) (control s k v S j) (g.mirrors j (omega arith)))))

  has : (i : ℕ) → i < S → occupied s k v S i ≡ true → Has s k v S (key_of s k v i) i
  has i h e = record { slot = h; taken = e; key_is = refl }

  not_twins : (i j : ℕ) → i < S → j < i → occupied s k v S i ≡ true → not (occupied s k v S j && same_bytes (key_of s k v j) (key_of s k v i)) ≡ true
  not_twins i j h l e = go (occupied s k v S j) refl (same_bytes (key_of s k v j) (key_of s k v i)) refl
    where
      go : (p : Bool) → occupied s k v S j ≡ p → (q : Bool) → same_bytes (key_of s k v j) (key_of s k v i) ≡ q → not (p && q) ≡ true
      go true f true d =
          let twin : Has s k v S (key_of s k v i) j = record { slot = omega arith; taken = f; key_is = same_is (key_of s k v j) (key_of s k v i) d } in
          absurd (omega (arith, g.once (key_of s k v i) j i twin (has i h e)))
      go true f false d = refl
      go false f q d = refl

  no_twin : (i : ℕ) → i < S → is_twin s k v S i ≡ false
  unfolding is_twin some_of
  no_twin i h = go (occupied s k v S i) refl
    where
      go : (p : Bool) → occupied s k v S i ≡ p → is_twin s k v S i ≡ false
      go true e =
          rw (e, each_number (λ j. not (occupied s k v S j && same_bytes (key_of s k v j) (key_of s k v i))) 0 i (λ j l u. not_twins i j h (omega arith) e))
      go false e = rw e

  -- the slots before a place of the order are occupied, if the key there is reachable
  module _ (i : ℕ) (h : i < S) (e : occupied s k v S i ≡ true) where
    abbrev b : ℕ
    b = start_of S (key_of s k v i)

    reached_at : (o : Option ℕ) → place_of b S i ≡ o → reachable_at s k v S b o ≡ true
    unfolding place_of reachable_at filled
    reached_at none f =
        let n = order_onto S b (sound_slots s k v S g) i h in
        absurd (eqb-false (slot_at b S n.0) i (none_fails (λ m. eqb (slot_at b S m) i) 0 S f n.0 (omega arith) (omega (arith, n.1))) n.2)
    reached_at (some n) f =
        let l = some_lowest (λ m. eqb (slot_at b S m) i) 0 S n f in
        each_number (λ m. occupied s k v S (slot_at b S m)) 0 (n / 16 * 16)
        (λ m a u. g.reached (key_of s k v i) i (has i h e) n m (omega (arith, l.below)) (eqb-true (slot_at b S n) i l.passes) (omega arith))

  not_lost : (i : ℕ) → i < S → is_lost s k v S i ≡ false
  unfolding is_lost reachable
  not_lost i h = go (occupied s k v S i) refl
    where
      go : (p : Bool) → occupied s k v S i ≡ p → is_lost s k v S i ≡ false
      go true e = rw (e, reached_at i h e (place_of (start_of S (key_of s k v i)) S i) refl)
      go false e = rw e

  body_fine : first_some (body_rows s k v S) ≡ none
  unfolding body_rows first_some row_at
  body_fine =
      rw (
        slots_fine S (omega arith),
        mirrors_fine,
        fails_none (is_twin s k v S) 0 S (λ i l u. no_twin i (omega arith)),
        fails_none (is_lost s k v S) 0 S (λ i l u. not_lost i (omega arith)),
      )

  -- ---- the calls

  later : (rows : List (Option Refusal)) → first_some rows ≡ none → first_some (header_rows s k v ++ rows) ≡ none
  later rows e = first_later (header_rows s k v) rows g.rows ∙ e

  pub opens : open_answer s k v ≡ fine
  unfolding open_answer by_rows first_some
  opens =
      let ten : slot_rows s k v (slot_count s) 10 ≡ none = rw g.count (slots_fine 10 (omega (arith, (sound_slots s k v S g).least))) in
      rw (later (slot_rows s k v (slot_count s) 10 ∷ []) (rw ten))

  pub checks : check_answer s k v ≡ fine
  unfolding check_answer by_rows
  checks = rw (later (body_rows s k v (slot_count s)) (rw g.count body_fine))
