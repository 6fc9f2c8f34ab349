-- Small laws of tests. Assumes nothing.
use mathlib.Core.Path.{◌≡◌, refl}
use mathlib.Core.Bool.{Bool, true, false, not, ◌&&◌, ◌||◌}
use Prim.Native.Nat.{ℕ}
use native.Mathlib.Omega.{arith}

-- what follows from facts that contradict each other: `cc` finds that 0 is 1
pub impossible : {A : Type 0} → ◌≡◌ {A = ℕ} 0 1 → A
impossible z = absurd (omega arith)

pub both : (p q : Bool) → p && q ≡ true → (p ≡ true) × (q ≡ true)
both true true e = (refl, refl)
both true false e = impossible cc
both false q e = impossible cc

pub and_false : (p : Bool) → p && false ≡ false
and_false true = refl
and_false false = refl

-- one of three fails where not all hold
pub nots : (p q r : Bool) → not p || not q || not r ≡ not (p && q && r)
nots true true true = refl
nots true true false = refl
nots true false true = refl
nots true false false = refl
nots false true true = refl
nots false true false = refl
nots false false true = refl
nots false false false = refl
