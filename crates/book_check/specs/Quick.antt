-- What the quick pass over the keys asks. `proofs/TwinLaws.antt` has that where it is said of each slot no key stands twice.
use Rattle.std.specs.Prelude.{ℕ, Bool, true, false, cond, ◌&&◌, List, eqb}
use Rattle.rules.specs.Bytes.{same_bytes}
use Rattle.rules.specs.Layout.{key_of, occupied}
use Rattle.rules.specs.Search.{Spot, same, free, full, spot_of}

-- whether a search that ended so found slot i
unfoldable pub leads_to : ℕ → Spot → Bool
leads_to i (same j n) = eqb j i
leads_to i (free j n) = false
leads_to i (full n) = false

module _ (s : List ℕ) (k v S : ℕ) where
  -- whether slot i is empty, or the search for its key finds it
  unfoldable pub found_own : ℕ → Bool
  found_own i = cond (occupied s k v S i) (leads_to i (spot_of s k v S (key_of s k v i))) true

  -- whether slot j is occupied by the key of slot i
  abbrev pub stands_in : ℕ → ℕ → Bool
  stands_in i j = occupied s k v S j && same_bytes (key_of s k v j) (key_of s k v i)
