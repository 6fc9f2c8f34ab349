-- What the library's searches find among the numbers of a range, in the rules' words. Assumes nothing.
use mathlib.Core.Path.{◌≡◌, refl, sym, ap, ◌∙◌}
use mathlib.Core.Bool.{Bool, true, false, not}
use mathlib.Core.List.{List}
use mathlib.Core.Logic.{dite}
use mathlib.Core.Option as rules
use Prim.Native.Nat.{ℕ, zero, suc, ◌+◌, ◌≤◌, ◌<◌}
use native.Mathlib.Nat.{zero-add}
use native.Mathlib.Decide.{ℕ_discrete}
use native.Mathlib.Omega.{arith}
use lib.ListN.{length, get_or}
use Rattle.std.specs.Prelude.{Option, Some, None}
use Rattle.std.specs.Bool.{MatchBool}
use Rattle.std.specs.Option.{MatchOption}
use Rattle.std.specs.List.{range_with_len, AllWithin, HoldsAt}
use Rattle.std.proofs.lemmas.List.FromFn.{get_or-range_with_len, length-range_with_len}
use Rattle.rules.specs.First.{numbers, first_of, each_of, some_of}
use Rattle.rules.proofs.FirstLaws.{fails_none, lowest_some, each_number}
use Rattle.rules.proofs.TestLaws.{impossible, both}

-- the number that a search may find, in the rules' option
unfoldable pub said_number : Option ℕ → rules.Option ℕ
said_number (Some i) = rules.some i
said_number None = rules.none

module _ (passes : ℕ → Bool) where
  -- what is said of each is said of one
  pub each_one : (i n : ℕ) → each_of passes (numbers i n) ≡ true → (m : ℕ) → i ≤ m → m < i + n → passes m ≡ true
  unfolding each_of numbers
  each_one i zero e m l u = absurd (omega arith)
  each_one i (suc n) e m l u =
      let b = both (passes i) (each_of passes (numbers (suc i) n)) e in
      dite (ℕ_discrete m i) (λ q. ap passes q ∙ b.0) (λ d. each_one (suc i) n b.1 m (omega arith) (omega arith))

module _ (passes : ℕ → Bool) (end : ℕ) where
  -- what the test says of a number of the range
  abbrev pub Says : Bool → ℕ → Type 0
  Says b i = i < end → passes i ≡ b

  abbrev pub range : List ℕ
  range = range_with_len 0 end

  said_of : (b : Bool) (i : ℕ) → i < end → Says b (get_or range i i) → passes i ≡ b
  said_of b i l h =
      let e : get_or range i i ≡ i = get_or-range_with_len 0 end i i l ∙ zero-add i in
      rw e at h l

  said_below : (b : Bool) → AllWithin (Says b) range 0 (length range) → (i : ℕ) → i < end → passes i ≡ b
  said_below b h i l = said_of b i l (h i i (omega arith) (omega (arith, length-range_with_len 0 end)))

  not_each : (i : ℕ) → i < end → passes i ≡ false → each_of passes (numbers 0 end) ≡ false
  not_each i l e = go (each_of passes (numbers 0 end)) refl
    where
      go : (b : Bool) → each_of passes (numbers 0 end) ≡ b → each_of passes (numbers 0 end) ≡ false
      go true f = let g : true ≡ false = sym (each_one passes 0 end f i (omega arith) (omega arith)) ∙ e in impossible cc
      go false f = f

  pub each_by : (r : Bool) → MatchBool r (AllWithin (Says true) range 0 (length range)) ((i : ℕ) × (i < length range) × HoldsAt (Says false) range i) → r ≡ each_of passes (numbers 0 end)
  each_by true h = sym (each_number passes 0 end (λ i l u. said_below true h i (omega arith)))
  each_by false h =
      let l : h.0 < end = omega (arith, length-range_with_len 0 end, h.1) in
      sym (not_each h.0 l (said_of false h.0 l (h.2 h.0)))

  pub first_by : (r : Option ℕ) → MatchOption r ((i : ℕ) → 0 ≤ i → i < end → Says false i) (λ i. (0 ≤ i) × (i < end) × Says true i × ((m : ℕ) → 0 ≤ m → m < i → Says false m))
      → said_number r ≡ first_of passes (numbers 0 end)
  unfolding said_number
  first_by (Some i) h =
      sym (lowest_some passes 0 end i (record {
        above = h.0;
        below = omega (arith, h.1);
        passes = h.2 h.1;
        least = λ m a b. h.3 m a b (omega (arith, h.1));
      }))
  first_by None h = sym (fails_none passes 0 end (λ i l u. h i l (omega arith) (omega arith)))

module _ (passes : ℕ → Bool) (end : ℕ) where
  pub some_by : (r : Bool) → MatchBool r ((i : ℕ) × (i < length (range passes end)) × HoldsAt (Says passes end true) (range passes end) i) (AllWithin (Says passes end false) (range passes end) 0 (length (range passes end)))
      → r ≡ some_of passes (numbers 0 end)
  unfolding some_of
  some_by true h = ap not (each_by (λ i. not (passes i)) end false (h.0, h.1, λ d l. ap not (h.2 d l)))
  some_by false h = ap not (each_by (λ i. not (passes i)) end true (λ i d l u m. ap not (h i d l u m)))
