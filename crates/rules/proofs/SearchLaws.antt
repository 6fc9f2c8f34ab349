-- The search group by group, for any width and any query: after j groups that did not decide, the whole is what the rest gives.
-- Assumes nothing.
use mathlib.Core.Path.{◌≡◌, ap, ◌∙◌}
use mathlib.Core.Bool.{Bool, true, false}
use mathlib.Core.List.{List, [], ◌∷◌}
use mathlib.Core.Option.{Option, none, some}
use Prim.Native.Nat.{ℕ, zero, suc, ◌+◌, ◌-◌, ◌*◌, ◌/◌, ◌≤◌, ◌<◌}
use native.Mathlib.Nat.{sub-zero, mod-lt, add_assoc}
use native.Mathlib.Numerals.{add-one}
use native.Mathlib.Omega.{arith}
use lib.ListN.{drop}
use lib.Seq.{get_or-take, get_or-drop}
use Rattle.rules.specs.Bytes.{byte_at, part}
use Rattle.rules.specs.First.{first_of}
use Rattle.rules.specs.Layout.{control_at, control}
use Rattle.rules.specs.Hash.{start_of}
use Rattle.rules.specs.Group.{first_empty}
use Rattle.rules.specs.Probe.{group_start, slot_of}
use Rattle.rules.specs.Search.{Spot, group_at, same, free, full, decided, equal_key, examined, search_from, search_by}

-- position m of the group at p is control position p + m, a mirror where that is S or more
pub group_byte : (w : ℕ) (s : List ℕ) (k v S p m : ℕ) → m < w → byte_at (group_at w s k v S p) m ≡ control s k v S (p + m)
group_byte w s k v S p m h =
    get_or-take w (drop (control_at k v S p) s) m 0 h ∙ get_or-drop (control_at k v S p) s m 0 ∙ ap (byte_at s) (add_assoc (32 + S * (k + v)) p m)

-- the first of a list is tried, and has it or not
pub try_yes : (test : ℕ → Bool) (m : ℕ) (ms : List ℕ) → test m ≡ true → first_of test (m ∷ ms) ≡ some m
unfolding first_of
try_yes test m ms e = rw e

pub try_no : (test : ℕ → Bool) (m : ℕ) (ms : List ℕ) → test m ≡ false → first_of test (m ∷ ms) ≡ first_of test ms
unfolding first_of
try_no test m ms e = rw e

pub try_none : (test : ℕ → Bool) (ms : List ℕ) → ms ≡ [] → first_of test ms ≡ none
unfolding first_of
try_none test ms e = rw e

module _ (w : ℕ) (query : ℕ → List ℕ → List Bool) (s : List ℕ) (k v S : ℕ) (key : List ℕ) where
  -- the search with n more groups of G to examine
  abbrev pub Rest : ℕ → ℕ → Spot
  Rest G n = search_from w query s k v S key (G - n) n

  pub at_start : search_by w query s k v S key ≡ Rest (S / w) 0
  unfolding search_by
  at_start = rw sub-zero

  pub at_end : (G n : ℕ) → G ≤ n → Rest G n ≡ full n
  unfolding search_from
  at_end G n h = let z : G - n ≡ 0 = omega arith in rw z

  module _ (G n p : ℕ) (h : n < G) (e : p ≡ group_start w (start_of S key) S n) where
    turn : Rest G n ≡ decided S p (n + 1) (equal_key w query s k v S key p) (first_empty (part w (control_at k v S p) s)) (Rest G (n + 1))
    unfolding search_from examined
    turn = let g : G - n ≡ suc (G - (n + 1)) = omega arith in rw (g, e, add-one)

    pub at_same : (m : ℕ) → equal_key w query s k v S key p ≡ some m → Rest G n ≡ same (slot_of S p m) (n + 1)
    unfolding decided
    at_same m f = turn ∙ rw f

    pub at_free : (m : ℕ) → equal_key w query s k v S key p ≡ none → first_empty (part w (control_at k v S p) s) ≡ some m → Rest G n ≡ free (slot_of S p m) (n + 1)
    unfolding decided
    at_free m f g = turn ∙ rw (f, g)

    pub at_next : equal_key w query s k v S key p ≡ none → first_empty (part w (control_at k v S p) s) ≡ none → Rest G n ≡ Rest G (n + 1)
    unfolding decided
    at_next f g = turn ∙ rw (f, g)

-- ---- the slot of an answer is one of the S

abbrev pub Below : ℕ → Spot → Type 0
Below S (same i n) = i < S
Below S (free i n) = i < S
Below S (full n) = Unit {0}

decided_below : (S p n : ℕ) (a b : Option ℕ) (rest : Spot) → 0 < S → Below S rest → Below S (decided S p n a b rest)
unfolding decided
decided_below S p n (some m) b rest h r = mod-lt (p + m) h
decided_below S p n none (some m) rest h r = mod-lt (p + m) h
decided_below S p n none none rest h r = r

module _ (w : ℕ) (query : ℕ → List ℕ → List Bool) (s : List ℕ) (k v S : ℕ) (key : List ℕ) (h : 0 < S) where
  from_below : (left j : ℕ) → Below S (search_from w query s k v S key left j)
  unfolding search_from examined
  from_below zero j = tt
  from_below (suc left) j =
      let p = group_start w (start_of S key) S j in
      decided_below S p (suc j) (equal_key w query s k v S key p) (first_empty (part w (control_at k v S p) s)) (search_from w query s k v S key left (suc j)) h
      (from_below left (suc j))

  pub spot_below : Below S (search_by w query s k v S key)
  unfolding search_by
  spot_below = from_below (S / w) 0
