-- The refusals and their rows, in the order of document 01's table.
use Rattle.std.specs.Prelude.{ℕ, ◌+◌, Bool, cond, not, List, [], ◌∷◌, eqb, ltb, length}
use Rattle.std.proofs.Math.Option.{Option, none, some}
use Rattle.rules.specs.Bytes.{byte_at, part, same_bytes}
use Rattle.rules.specs.First.{numbers, first_of, each_of}
use Rattle.rules.specs.Layout.{are_sizes, is_slot_count, book_tag, version, total, slot_count, entry_at, key_of, control, is_empty}
use Rattle.rules.specs.Hash.{tag_of}

-- what a refusal says; each number that its row does not give is 0
pub record Refusal : Type 0 where
  pub row : ℕ
  pub slot : ℕ
  pub expected : ℕ
  pub found : ℕ
  pub count : ℕ

-- a row with no further number
unfoldable pub refusal : ℕ → Refusal
refusal n = record { row = n; slot = 0; expected = 0; found = 0; count = 0 }

-- a row with the slot, or the mirror, at fault
unfoldable pub fault_at : ℕ → ℕ → Refusal
fault_at n i = record { row = n; slot = i; expected = 0; found = 0; count = 0 }

-- row 12: the slot, the tag of its key, and its control byte
unfoldable pub wrong_tag : ℕ → ℕ → ℕ → Refusal
wrong_tag i tag c = record { row = 12; slot = i; expected = tag; found = c; count = 0 }

-- row 14, with the number of groups examined
unfoldable pub no_end : ℕ → Refusal
no_end n = record { row = 14; slot = 0; expected = 0; found = 0; count = n }

-- a row, if it applies
abbrev pub row_if : ℕ → Bool → Option Refusal
row_if n applies = cond applies (some (refusal n)) none

-- a row with the number at fault, if there is one
unfoldable pub row_at : ℕ → Option ℕ → Option Refusal
row_at n none = none
row_at n (some i) = some (fault_at n i)

-- rows 1 to 10 of a book
unfoldable pub header_rows : List ℕ → ℕ → ℕ → List (Option Refusal)
header_rows s k v =
    row_if 1 (not (are_sizes k v))
    ∷ row_if 2 (ltb (length s) 32)
    ∷ row_if 3 (not (same_bytes (part 4 0 s) book_tag))
    ∷ row_if 4 (not (same_bytes (part 4 24 s) version))
    ∷ row_if 5 (not (eqb (byte_at s 4) 1))
    ∷ row_if 6 (not (eqb (byte_at s 5) k))
    ∷ row_if 7 (not (eqb (byte_at s 6) v))
    ∷ row_if 8 (not (eqb (byte_at s 7) 32))
    ∷ row_if 9 (not (is_slot_count (slot_count s)))
    ∷ row_if 10 (not (eqb (length s) (total k v (slot_count s))))
    ∷ []

-- the rows of initialising, on its arguments
unfoldable pub init_rows : List ℕ → ℕ → ℕ → ℕ → List (Option Refusal)
init_rows s k v S =
    row_if 1 (not (are_sizes k v)) ∷ row_if 9 (not (is_slot_count S)) ∷ row_if 10 (not (eqb (length s) (total k v S))) ∷ []

module _ (s : List ℕ) (k v S : ℕ) where
  -- whether each byte of entry i is 0
  unfoldable pub is_zero : ℕ → Bool
  is_zero i = each_of (λ b. eqb b 0) (part (k + v) (entry_at k v i) s)

  -- whether slot i is as it should be: zero if empty, else with its key's tag
  unfoldable pub slot_fine : ℕ → Bool
  slot_fine i = cond (is_empty (control s k v S i)) (is_zero i) (eqb (control s k v S i) (tag_of (key_of s k v i)))

  -- rows 11 and 12 of a slot at fault
  unfoldable pub slot_row : Option ℕ → Option Refusal
  slot_row none = none
  slot_row (some i) =
      some (cond (is_empty (control s k v S i)) (fault_at 11 i) (wrong_tag i (tag_of (key_of s k v i)) (control s k v S i)))

  -- rows 11 and 12 over the n lowest slots, slot by slot
  unfoldable pub slot_rows : ℕ → Option Refusal
  slot_rows n = slot_row (first_of (λ i. not (slot_fine i)) (numbers 0 n))

-- row 13, of a buffer that should have n bytes
abbrev pub fits : List ℕ → ℕ → Bool
fits bytes n = eqb (length bytes) n
