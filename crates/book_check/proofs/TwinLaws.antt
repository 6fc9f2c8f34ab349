-- Where the search for each key leads to its own slot no key stands twice: two slots with one key have one search, and it leads to one slot.
-- Assumes nothing.
use mathlib.Core.Path.{◌≡◌, refl, sym, ap, ◌∙◌}
use mathlib.Core.Bool.{Bool, true, false, not, ◌&&◌}
use mathlib.Core.List.{List}
use mathlib.Core.Option.{none}
use Prim.Native.Nat.{ℕ, ◌<◌}
use native.Mathlib.Omega.{arith}
use borrow.Author.Tests.{eqb-true}
use Rattle.rules.specs.Bytes.{same_bytes}
use Rattle.rules.specs.First.{numbers, first_of, each_of, some_of}
use Rattle.rules.specs.Layout.{key_of, occupied}
use Rattle.rules.specs.Search.{Spot, same, free, full, spot_of}
use Rattle.rules.specs.Check.{is_twin}
use Rattle.rules.proofs.BytesLaws.{same_is}
use Rattle.rules.proofs.FirstLaws.{fails_none, each_number}
use Rattle.rules.proofs.TestLaws.{impossible}
use Rattle.book_check.specs.Quick.{leads_to, found_own, stands_in}
use Rattle.book_check.proofs.RangeLaws.{each_one}

leads_once : (i j : ℕ) (p : Spot) → leads_to i p ≡ true → leads_to j p ≡ true → i ≡ j
unfolding leads_to
leads_once i j (same m n) e f = sym (eqb-true m i e) ∙ eqb-true m j f
leads_once i j (free m n) e f = impossible cc
leads_once i j (full n) e f = impossible cc

module _ (s : List ℕ) (k v S : ℕ) (found : each_of (found_own s k v S) (numbers 0 S) ≡ true) where
  abbrev spot : ℕ → Spot
  spot i = spot_of s k v S (key_of s k v i)

  leads : (i : ℕ) → i < S → occupied s k v S i ≡ true → leads_to i (spot i) ≡ true
  unfolding found_own
  leads i h e = rw e at (each_one (found_own s k v S) 0 S found i (omega arith) (omega arith))

  other : (i j : ℕ) → i < S → j < i → occupied s k v S i ≡ true → not (stands_in s k v S i j) ≡ true
  other i j h l e = go (occupied s k v S j) refl (same_bytes (key_of s k v j) (key_of s k v i)) refl
    where
      go : (p : Bool) → occupied s k v S j ≡ p → (q : Bool) → same_bytes (key_of s k v j) (key_of s k v i) ≡ q → not (p && q) ≡ true
      go true f true d =
          let one : spot j ≡ spot i = ap (spot_of s k v S) (same_is (key_of s k v j) (key_of s k v i) d) in
          absurd (omega (arith, leads_once j i (spot i) (rw one at (leads j (omega arith) f)) (leads i h e)))
      go true f false d = refl
      go false f q d = refl

  no_twin : (i : ℕ) → i < S → is_twin s k v S i ≡ false
  unfolding is_twin some_of
  no_twin i h = go (occupied s k v S i) refl
    where
      go : (p : Bool) → occupied s k v S i ≡ p → is_twin s k v S i ≡ false
      go true e = rw (e, each_number (λ j. not (stands_in s k v S i j)) 0 i (λ j l u. other i j h (omega arith) e))
      go false e = rw e

  pub no_twins : first_of (is_twin s k v S) (numbers 0 S) ≡ none
  no_twins = fails_none (is_twin s k v S) 0 S (λ i l u. no_twin i (omega arith))
