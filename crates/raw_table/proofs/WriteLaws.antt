-- Writing a run of bytes over a list, byte by byte and run by run. Assumes nothing.
use mathlib.Core.Path.{◌≡◌, ap, ◌∙◌}
use mathlib.Core.List.{List, [], ◌∷◌, ◌++◌, append-nil}
use Prim.Native.Nat.{ℕ, suc, ◌+◌, ◌≤◌, ◌<◌}
use native.Mathlib.Nat.{add-zero, add-suc, suc-add}
use native.Mathlib.Numerals.{add-one}
use native.Mathlib.Omega.{arith}
use lib.ListN.{length, get_or, drop, set, drop_of_length-le}
use lib.Seq.{sets, sets-eq, drop-cons}

pub sets_step : (d : List ℕ) (at : ℕ) (s : List ℕ) (i : ℕ) → i < length s
    → sets d (at + i) (drop i s) ≡ sets (set d (at + i) (get_or s i 0)) (at + (i + 1)) (drop (i + 1) s)
sets_step d at s i h = rw (drop-cons s i 0, add-one, add-suc)

pub sets_end : (d : List ℕ) (at : ℕ) (s : List ℕ) (i : ℕ) → length s ≤ i → sets d (at + i) (drop i s) ≡ d
sets_end d at s i h = ap (sets d (at + i)) (drop_of_length-le s h)

-- one run after another
pub sets_append : (d : List ℕ) (at : ℕ) (xs ys : List ℕ) → sets d at (xs ++ ys) ≡ sets (sets d at xs) (at + length xs) ys
sets_append d at [] ys = rw add-zero
sets_append d at (x ∷ xs) ys = sets_append (set d at x) (suc at) xs ys ∙ rw (suc-add, add-suc)

-- a run as long as the list is all of it
pub sets_whole : (d xs : List ℕ) → length xs ≡ length d → sets d 0 xs ≡ xs
sets_whole d xs e =
    let l : 0 + length xs ≤ length d = omega arith in
    let m : length d ≤ 0 + length xs = omega arith in
    sets-eq xs d 0 l ∙ ap (λ (ys : List ℕ). xs ++ ys) (drop_of_length-le d m) ∙ append-nil xs
