-- What `==` tells of two byte strings is what the rules ask. Assumes nothing.
use mathlib.Core.Path.{◌≡◌, refl, ap}
use mathlib.Core.Bool.{Bool, ◌&&◌}
use mathlib.Core.List.{List, [], ◌∷◌}
use Prim.Native.Nat.{ℕ}
use lib.Dec.{eqb}
use lib.Pointwise.{pointwise}
use Rattle.rules.specs.Bytes.{same_bytes}

pub same_pairs : (a b : List ℕ) → pointwise eqb a b ≡ same_bytes a b
unfolding same_bytes
same_pairs [] [] = refl
same_pairs [] (y ∷ ys) = refl
same_pairs (x ∷ xs) [] = refl
same_pairs (x ∷ xs) (y ∷ ys) = ap (λ (q : Bool). eqb x y && q) (same_pairs xs ys)
