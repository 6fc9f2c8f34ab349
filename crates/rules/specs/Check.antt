-- The whole-book check.
use Rattle.std.specs.Prelude.{ℕ, ◌+◌, ◌*◌, ◌/◌, Bool, false, not, ◌&&◌, List, [], ◌∷◌, ◌++◌, eqb}
use Rattle.std.proofs.Math.Option.{Option, none, some}
use Rattle.rules.specs.Bytes.{same_bytes}
use Rattle.rules.specs.First.{numbers, first_of, each_of, some_of}
use Rattle.rules.specs.Layout.{slot_count, key_of, control, occupied}
use Rattle.rules.specs.Hash.{start_of}
use Rattle.rules.specs.Probe.{slot_at}
use Rattle.rules.specs.Rows.{Refusal, row_at, header_rows, slot_rows}
use Rattle.rules.specs.Calls.{Answer, fine, answered}

-- the place of slot i in the probe order from b
unfoldable pub place_of : ℕ → ℕ → ℕ → Option ℕ
place_of b S i = first_of (λ n. eqb (slot_at b S n) i) (numbers 0 S)

module _ (s : List ℕ) (k v S : ℕ) where
  -- whether the n first slots of the probe order from b are occupied
  unfoldable pub filled : ℕ → ℕ → Bool
  filled b n = each_of (λ m. occupied s k v S (slot_at b S m)) (numbers 0 n)

  -- whether a key whose slot has this place is reachable: no window of sixteen before its own has an empty slot
  unfoldable pub reachable_at : ℕ → Option ℕ → Bool
  reachable_at b none = false
  reachable_at b (some n) = filled b (n / 16 * 16)

  -- whether the key in slot i is reachable
  unfoldable pub reachable : ℕ → Bool
  reachable i = reachable_at (start_of S (key_of s k v i)) (place_of (start_of S (key_of s k v i)) S i)

  -- whether mirror j differs from its control byte
  unfoldable pub mirror_differs : ℕ → Bool
  mirror_differs j = not (eqb (control s k v S (S + j)) (control s k v S j))

  -- whether the key in slot i stands in a lower occupied slot too
  unfoldable pub is_twin : ℕ → Bool
  is_twin i =
      occupied s k v S i
      && some_of (λ j. occupied s k v S j && same_bytes (key_of s k v j) (key_of s k v i)) (numbers 0 i)

  -- whether slot i has a key that is not reachable
  unfoldable pub is_lost : ℕ → Bool
  is_lost i = occupied s k v S i && not (reachable i)

  -- rows 11 and 12 over all slots, then 15, 16 and 17
  unfoldable pub body_rows : List (Option Refusal)
  body_rows =
      slot_rows s k v S S
      ∷ row_at 15 (first_of mirror_differs (numbers 0 16))
      ∷ row_at 16 (first_of is_twin (numbers 0 S))
      ∷ row_at 17 (first_of is_lost (numbers 0 S))
      ∷ []

unfoldable pub check_answer : List ℕ → ℕ → ℕ → Answer
check_answer s k v = answered (header_rows s k v ++ body_rows s k v (slot_count s)) fine
