-- The one search of find, value and insert, for any group width and any query.
use Rattle.std.specs.Prelude.{ℕ, zero, suc, ◌/◌, Bool, List}
use Rattle.std.proofs.Math.Option.{Option, none, some}
use Rattle.rules.specs.Bytes.{part, same_bytes}
use Rattle.rules.specs.First.{first_of}
use Rattle.rules.specs.Layout.{control_at, key_of}
use Rattle.rules.specs.Hash.{tag_of, start_of}
use Rattle.rules.specs.Group.{reports, positions, first_empty}
use Rattle.rules.specs.Probe.{group_start, slot_of}

-- the slot that has the same key, the first empty slot, or neither; with the number of groups examined
pub data Spot : Type 0 where
  same : ℕ → ℕ → Spot
  free : ℕ → ℕ → Spot
  full : ℕ → Spot

-- what the n-th group, at p, decides by the position of an equal key or else by an empty one; `rest` where it has neither
unfoldable pub decided : ℕ → ℕ → ℕ → Option ℕ → Option ℕ → Spot → Spot
decided S p n (some m) empty rest = same (slot_of S p m) n
decided S p n none (some m) rest = free (slot_of S p m) n
decided S p n none none rest = rest

-- the w control bytes from position p on, read without wrapping: behind the last of them come the mirrors
abbrev pub group_at : ℕ → List ℕ → ℕ → ℕ → ℕ → ℕ → List ℕ
group_at w s k v S p = part w (control_at k v S p) s

module _ (w : ℕ) (query : ℕ → List ℕ → List Bool) (s : List ℕ) (k v S : ℕ) (key : List ℕ) where
  -- the first reported position of the group at p, in rising order, whose slot holds the key
  unfoldable pub equal_key : ℕ → Option ℕ
  equal_key p =
      first_of (λ m. same_bytes (key_of s k v (slot_of S p m)) key)
      (positions 0 (query (tag_of key) (group_at w s k v S p)))

  -- the n-th group, at p
  unfoldable pub examined : ℕ → ℕ → Spot → Spot
  examined p n rest = decided S p n (equal_key p) (first_empty (group_at w s k v S p)) rest

  -- `left` more groups, after j of them
  unfoldable pub search_from : ℕ → ℕ → Spot
  search_from zero j = full j
  search_from (suc left) j = examined (group_start w (start_of S key) S j) (suc j) (search_from left (suc j))

  unfoldable pub search_by : Spot
  search_by = search_from (S / w) 0

-- where the search for a key ends, with eight control bytes at a time
abbrev pub spot_of : List ℕ → ℕ → ℕ → ℕ → List ℕ → Spot
spot_of s k v S key = search_by 8 reports s k v S key
