-- What the first of a list is, exactly: of a run of numbers the lowest that passes, of rows the first that applies.
-- Assumes nothing.
use mathlib.Core.Path.{◌≡◌, refl, sym, ap, ◌∙◌}
use mathlib.Core.Bool.{Bool, true, false}
use mathlib.Core.List.{List, [], ◌∷◌, ◌++◌}
use mathlib.Core.Option.{Option, none, some}
use Prim.Native.Nat.{ℕ, zero, suc, ◌+◌, ◌-◌, ◌≤◌, ◌<◌}
use native.Mathlib.Numerals.{add-one}
use native.Mathlib.Omega.{arith}
use native.Mathlib.Decide.{ℕ_discrete}
use mathlib.Core.Logic.{dite}
use lib.ListN.{length, get_or, replicate}
use Rattle.rules.specs.First.{numbers, first_of, each_of, first_some}
use Rattle.rules.proofs.TestLaws.{impossible}

-- the n numbers from i upward all fail
abbrev pub Fails : (ℕ → Bool) → ℕ → ℕ → Type 0
Fails test i n = (m : ℕ) → i ≤ m → m < i + n → test m ≡ false

-- j is the lowest of the n numbers from i upward that passes
pub record Lowest (test : ℕ → Bool) (i n j : ℕ) : Type 0 where
  pub above : i ≤ j
  pub below : j < i + n
  pub passes : test j ≡ true
  pub least : (m : ℕ) → i ≤ m → m < j → test m ≡ false

module _ (test : ℕ → Bool) where
  -- what fails at i, and from i + 1 upward, fails from i upward
  from_head : (i n : ℕ) → test i ≡ false → Fails test (suc i) n → Fails test i (suc n)
  from_head i n e h m l u = dite (ℕ_discrete m i) (λ q. ap test q ∙ e) (λ d. h m (omega arith) (omega arith))

  pub none_fails : (i n : ℕ) → first_of test (numbers i n) ≡ none → Fails test i n
  unfolding first_of numbers
  none_fails i zero e = λ m l u. absurd (omega arith)
  none_fails i (suc n) e = go (test i) refl (none_fails (suc i) n)
    where
      go : (q : Bool) → test i ≡ q → (first_of test (numbers (suc i) n) ≡ none → Fails test (suc i) n) → Fails test i (suc n)
      go true f rest = impossible cc
      go false f rest = from_head i n f (rest (rw f at e))

  pub fails_none : (i n : ℕ) → Fails test i n → first_of test (numbers i n) ≡ none
  unfolding first_of numbers
  fails_none i zero h = refl
  fails_none i (suc n) h = rw (h i (omega arith) (omega arith)) (fails_none (suc i) n (λ m l u. h m (omega arith) (omega arith)))

  pub some_lowest : (i n j : ℕ) → first_of test (numbers i n) ≡ some j → Lowest test i n j
  unfolding first_of numbers
  some_lowest i zero j e = impossible cc
  some_lowest i (suc n) j e = go (test i) refl (some_lowest (suc i) n j)
    where
      go : (q : Bool) → test i ≡ q → (first_of test (numbers (suc i) n) ≡ some j → Lowest test (suc i) n j) → Lowest test i (suc n) j
      go true f rest =
          let s : some i ≡ some j = rw f at e in
          let g : i ≡ j = cc in
          record { above = omega arith; below = omega arith; passes = ap test (sym g) ∙ f; least = λ m l u. absurd (omega arith) }
      go false f rest =
          let r = rest (rw f at e) in
          let a : suc i ≤ j = r.above in
          let b : j < suc i + n = r.below in
          record {
            above = omega arith;
            below = omega arith;
            passes = r.passes;
            least = λ m l u. dite (ℕ_discrete m i) (λ q. ap test q ∙ f) (λ d. r.least m (omega arith) u);
          }

  pub lowest_some : (i n j : ℕ) → Lowest test i n j → first_of test (numbers i n) ≡ some j
  unfolding first_of numbers
  lowest_some i zero j h = absurd (omega (arith, h.above, h.below))
  lowest_some i (suc n) j h =
      dite (ℕ_discrete i j) (λ q. rw (ap test q ∙ h.passes) (ap some q))
      (λ d. rw (h.least i (omega arith) (omega (arith, h.above))) (lowest_some (suc i) n j (record {
        above = omega (arith, h.above);
        below = omega (arith, h.below);
        passes = h.passes;
        least = λ m l u. h.least m (omega arith) u;
      })))

  -- each passes, of a run of numbers and of any list
  pub each_number : (i n : ℕ) → ((m : ℕ) → i ≤ m → m < i + n → test m ≡ true) → each_of test (numbers i n) ≡ true
  unfolding each_of numbers
  each_number i zero h = refl
  each_number i (suc n) h = rw (h i (omega arith) (omega arith)) (each_number (suc i) n (λ m l u. h m (omega arith) (omega arith)))

  pub each_at : (xs : List ℕ) → ((i : ℕ) → i < length xs → test (get_or xs i 0) ≡ true) → each_of test xs ≡ true
  unfolding each_of
  each_at [] h = refl
  each_at (x ∷ xs) h = rw (h 0 (omega arith)) (each_at xs (λ i u. h (suc i) (omega arith)))

-- ---- the first row that applies

module _ {A : Type 0} where
  -- it applies, and each before it does not
  pub some_first : (xs : List (Option A)) (x : A) → first_some xs ≡ some x
      → (n : ℕ) × (rest : List (Option A)) × (xs ≡ replicate n none ++ (some x ∷ rest))
  unfolding first_some
  some_first [] x e = impossible cc
  some_first (none ∷ xs) x e =
      let r = some_first xs x e in
      (suc r.0, r.1, ap (λ (l : List (Option A)). none ∷ l) r.2)
  some_first (some y ∷ xs) x e = (0, xs, ap (λ (o : Option A). o ∷ xs) e)

  pub first_some_after : (n : ℕ) (x : A) (rest : List (Option A)) → first_some (replicate n none ++ (some x ∷ rest)) ≡ some x
  unfolding first_some
  first_some_after zero x rest = refl
  first_some_after (suc n) x rest = first_some_after n x rest

  -- none applies
  pub none_first : (xs : List (Option A)) → first_some xs ≡ none → xs ≡ replicate (length xs) none
  unfolding first_some
  none_first [] e = refl
  none_first (none ∷ xs) e = ap (λ (l : List (Option A)). none ∷ l) (none_first xs e)
  none_first (some y ∷ xs) e = impossible cc

  pub first_none : (n : ℕ) → first_some {A = A} (replicate n none) ≡ none
  unfolding first_some
  first_none zero = refl
  first_none (suc n) = first_none n

  -- rows tested after others count where none of those applies
  pub first_later : (xs ys : List (Option A)) → first_some xs ≡ none → first_some (xs ++ ys) ≡ first_some ys
  unfolding first_some
  first_later [] ys e = refl
  first_later (none ∷ xs) ys e = first_later xs ys e
  first_later (some x ∷ xs) ys e = impossible cc

  pub first_earlier : (xs ys : List (Option A)) (x : A) → first_some xs ≡ some x → first_some (xs ++ ys) ≡ some x
  unfolding first_some
  first_earlier [] ys x e = impossible cc
  first_earlier (none ∷ xs) ys x e = first_earlier xs ys x e
  first_earlier (some y ∷ xs) ys x e = e

  pub last_row : (xs : List (Option A)) (o : Option A) → first_some xs ≡ none → first_some (xs ++ (o ∷ [])) ≡ o
  unfolding first_some
  last_row xs none e = first_later xs (none ∷ []) e
  last_row xs (some x) e = first_later xs (some x ∷ []) e

  pub none_before : (xs ys : List (Option A)) → first_some (xs ++ ys) ≡ none → first_some xs ≡ none
  unfolding first_some
  none_before [] ys e = refl
  none_before (none ∷ xs) ys e = none_before xs ys e
  none_before (some x ∷ xs) ys e = e

-- ---- taken one at a time

module _ (test : ℕ → Bool) where
  -- the first from i on, below n
  abbrev pub Onward : ℕ → ℕ → Option ℕ
  Onward n i = first_of test (numbers i (n - i))

  pub onward_yes : (n i : ℕ) → i < n → test i ≡ true → Onward n i ≡ some i
  unfolding first_of numbers
  onward_yes n i h e = let g : n - i ≡ suc (n - (i + 1)) = omega arith in rw (g, e)

  pub onward_no : (n i : ℕ) → i < n → test i ≡ false → Onward n i ≡ Onward n (i + 1)
  unfolding first_of numbers
  onward_no n i h e = let g : n - i ≡ suc (n - (i + 1)) = omega arith in rw (g, e, add-one)

  pub onward_end : (n i : ℕ) → n ≤ i → Onward n i ≡ none
  unfolding first_of numbers
  onward_end n i h = let z : n - i ≡ 0 = omega arith in rw z
