-- The first of a list that passes a test. Every "lowest" and every "first that applies" of document 01 is said by these.
use Rattle.std.specs.Prelude.{ℕ, zero, suc, Bool, true, cond, not, ◌&&◌, List, [], ◌∷◌}
use Rattle.std.proofs.Math.Option.{Option, none, some}

-- n numbers from i upward
unfoldable pub numbers : ℕ → ℕ → List ℕ
numbers i zero = []
numbers i (suc n) = i ∷ numbers (suc i) n

-- the first that passes the test
unfoldable pub first_of : (ℕ → Bool) → List ℕ → Option ℕ
first_of test [] = none
first_of test (x ∷ xs) = cond (test x) (some x) (first_of test xs)

-- whether each passes the test
unfoldable pub each_of : (ℕ → Bool) → List ℕ → Bool
each_of test [] = true
each_of test (x ∷ xs) = test x && each_of test xs

-- whether one passes the test
unfoldable pub some_of : (ℕ → Bool) → List ℕ → Bool
some_of test xs = not (each_of (λ x. not (test x)) xs)

-- the first that is there
unfoldable pub first_some : {A : Type 0} → List (Option A) → Option A
first_some [] = none
first_some (none ∷ xs) = first_some xs
first_some (some x ∷ xs) = some x
