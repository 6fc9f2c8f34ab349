-- A sound book: what every fresh book is, and what every call leaves it. k is the key size, v the value size, S the slot count, i a slot.
use Rattle.std.specs.Prelude.{◌≡◌, true, false, List, ℕ, ◌+◌, ◌-◌, ◌/◌, ◌≤◌, ◌<◌}
use Rattle.std.proofs.Math.Option.{none}
use Rattle.rules.specs.Bytes.{byte_at}
use Rattle.rules.specs.First.{first_some}
use Rattle.rules.specs.Layout.{entry_at, control_at, slot_count, key_of, control, occupied}
use Rattle.rules.specs.Hash.{tag_of, start_of}
use Rattle.rules.specs.Probe.{group_start, slot_of, slot_at}
use Rattle.rules.specs.Rows.{header_rows}

module _ (s : List ℕ) (k v S : ℕ) where
  -- the key stands in slot i
  pub record Has (key : List ℕ) (i : ℕ) : Type 0 where
    pub slot : i < S
    pub taken : occupied s k v S i ≡ true
    pub key_is : key_of s k v i ≡ key

  -- the key stands in no slot
  abbrev pub Nowhere : List ℕ → Type 0
  Nowhere key = (i : ℕ) → Has key i → ⊥

  -- some slot is empty; none is
  abbrev pub SomeEmpty : Type 0
  SomeEmpty = (i : ℕ) × (i < S) × (occupied s k v S i ≡ false)

  abbrev pub NoneEmpty : Type 0
  NoneEmpty = (i : ℕ) → i < S → occupied s k v S i ≡ true

  -- each slot before slot i is occupied, in the key's probe order taken slot by slot
  abbrev pub Reachable : List ℕ → ℕ → Type 0
  Reachable key i =
      (n m : ℕ) → n < S → slot_at (start_of S key) S n ≡ i → m < n → occupied s k v S (slot_at (start_of S key) S m) ≡ true

  pub record Sound : Type 0 where
    -- it passes rows 1 to 10, with S slots
    pub rows : first_some (header_rows s k v) ≡ none
    pub count : slot_count s ≡ S
    -- mirrors equal control bytes
    pub mirrors : (j : ℕ) → j < 16 → control s k v S (S + j) ≡ control s k v S j
    -- an occupied slot's control byte is its key's tag
    pub tags : (key : List ℕ) (i : ℕ) → Has key i → control s k v S i ≡ tag_of key
    -- an empty slot's key and value are zero
    pub zeros : (i n : ℕ) → i < S → occupied s k v S i ≡ false → n < k + v → byte_at s (entry_at k v i + n) ≡ 0
    -- no key stands twice
    pub once : (key : List ℕ) (i j : ℕ) → Has key i → Has key j → i ≡ j
    -- each key is reachable
    pub reached : (key : List ℕ) (i : ℕ) → Has key i → Reachable key i

-- x is none of the n places from `at` on
abbrev pub Beside : ℕ → ℕ → ℕ → Type 0
Beside at n x = (i : ℕ) → i < n → x ≡ at + i → ⊥

-- byte x is none of slot i's: not of its key or value, not its control byte, not its mirror
pub record Outside (k v S i x : ℕ) : Type 0 where
  pub entry : Beside (entry_at k v i) (k + v) x
  pub control_byte : x ≡ control_at k v S i → ⊥
  pub mirror : i < 16 → x ≡ control_at k v S (S + i) → ⊥

-- slot i is a position of the n-th group, counted from 1, of the order that starts at b, and n is at most S / w
pub record InGroup (w b S i n : ℕ) : Type 0 where
  pub least : 1 ≤ n
  pub most : n ≤ S / w
  pub position : ℕ
  pub within : position < w
  pub place : slot_of S (group_start w b S (n - 1)) position ≡ i
