-- Laws of the group query: what the search needs of one, which `reports` has, and which marked position is found first.
-- Assumes nothing.
use mathlib.Core.Path.{◌≡◌, refl, ap}
use mathlib.Core.Bool.{Bool, true, false, ◌&&◌, ◌||◌}
use mathlib.Core.List.{List, [], ◌∷◌}
use mathlib.Core.Option.{none, some}
use Prim.Native.Nat.{ℕ, zero, suc, ◌+◌, ◌<◌}
use native.Mathlib.Nat.{add-zero, add-suc, suc-add}
use native.Mathlib.Omega.{arith}
use borrow.Author.Tests.{eqb-true, eq-eqb}
use lib.Bits.{bit_xor, xor_lt}
use lib.Dec.{lit<, eqb}
use lib.ListN.{length, get_or}
use Rattle.rules.specs.Bytes.{byte_at}
use Rattle.rules.specs.First.{first_of}
use Rattle.rules.specs.Layout.{is_empty}
use Rattle.rules.specs.Group.{hit, reports_after, reports, positions, first_empty}
use Rattle.rules.proofs.TestLaws.{impossible}
use Rattle.rules.proofs.FirstLaws.{some_lowest}

-- what the search needs of a query
pub record Honest (query : ℕ → List ℕ → List Bool) : Type 0 where
  -- a mark for each position
  pub long : (t : ℕ) (group : List ℕ) → length (query t group) ≡ length group
  -- a position whose byte is the tag is reported
  pub tagged : (t : ℕ) (group : List ℕ) (m : ℕ) → m < length group → byte_at group m ≡ t → get_or (query t group) m false ≡ true
  -- no position whose byte means empty is
  pub low : (t : ℕ) (group : List ℕ) (m : ℕ) → t < 128 → get_or (query t group) m false ≡ true → byte_at group m < 128

length_after : (before : Bool) (t : ℕ) (group : List ℕ) → length (reports_after before t group) ≡ length group
unfolding reports_after
length_after before t [] = refl
length_after before t (b ∷ bs) = ap suc (length_after (hit t before b) t bs)

-- a mark for each position
pub length_reports : (t : ℕ) (group : List ℕ) → length (reports t group) ≡ length group
unfolding reports
length_reports t group = length_after false t group

tagged_after : (before : Bool) (t : ℕ) (group : List ℕ) (m : ℕ) → m < length group → byte_at group m ≡ t → get_or (reports_after before t group) m false ≡ true
unfolding reports_after hit
tagged_after before t [] m h e = absurd (omega arith)
tagged_after before t (b ∷ bs) zero h e = rw (eq-eqb b t e)
tagged_after before t (b ∷ bs) (suc m) h e = tagged_after (hit t before b) t bs m (omega arith) e

low_hit : (t : ℕ) (before : Bool) (b : ℕ) → t < 128 → hit t before b ≡ true → b < 128
unfolding hit
low_hit t before b h e = go (eqb b t) refl before e (eqb b (bit_xor t 1)) refl
  where
    go : (p : Bool) → eqb b t ≡ p → (q : Bool) → p || (q && eqb b (bit_xor t 1)) ≡ true → (r : Bool) → eqb b (bit_xor t 1) ≡ r → b < 128
    go true f q g r x = omega (arith, eqb-true b t f)
    go false f true g true x = omega (arith, eqb-true b (bit_xor t 1) x, xor_lt 7 t 1 h (lit< tt))
    go false f true g false x = impossible cc
    go false f false g r x = impossible cc

low_after : (before : Bool) (t : ℕ) (group : List ℕ) (m : ℕ) → t < 128 → get_or (reports_after before t group) m false ≡ true → byte_at group m < 128
unfolding reports_after
low_after before t [] m h e = lit< tt
low_after before t (b ∷ bs) zero h e = low_hit t before b h e
low_after before t (b ∷ bs) (suc m) h e = low_after (hit t before b) t bs m h e

pub reports_honest : Honest reports
unfolding reports
reports_honest = record {
  long = length_reports;
  tagged = tagged_after false;
  low = low_after false;
}

-- the first marked position that passes a test: it is marked and passes
pub marked_some : (test : ℕ → Bool) (marks : List Bool) (i m : ℕ) → first_of test (positions i marks) ≡ some m
    → (n : ℕ) × (m ≡ i + n) × (get_or marks n false ≡ true) × (test m ≡ true)
unfolding positions first_of
marked_some test [] i m e = impossible cc
marked_some test (false ∷ marks) i m e = let r = marked_some test marks (suc i) m e in (suc r.0, omega (arith, r.1), r.2, r.3)
marked_some test (true ∷ marks) i m e = go (test i) refl (marked_some test marks (suc i) m)
  where
    go : (q : Bool) → test i ≡ q
        → (first_of test (positions (suc i) marks) ≡ some m → (n : ℕ) × (m ≡ suc i + n) × (get_or marks n false ≡ true) × (test m ≡ true))
        → (n : ℕ) × (m ≡ i + n) × (get_or (true ∷ marks) n false ≡ true) × (test m ≡ true)
    go true f rest =
        let s : some i ≡ some m = rw f at e in
        let g : i ≡ m = cc in
        (0, omega arith, refl, rw (← g) f)
    go false f rest = let r = rest (rw f at e) in (suc r.0, omega (arith, r.1), r.2, r.3)

-- where none does, each marked position fails it
pub marked_none : (test : ℕ → Bool) (marks : List Bool) (i n : ℕ) → first_of test (positions i marks) ≡ none → get_or marks n false ≡ true → test (i + n) ≡ false
unfolding positions first_of
marked_none test [] i n e g = impossible cc
marked_none test (false ∷ marks) i zero e g = impossible cc
marked_none test (false ∷ marks) i (suc n) e g = rw (add-suc, ← suc-add) (marked_none test marks (suc i) n e g)
marked_none test (true ∷ marks) i n e g = go (test i) refl n (λ m. marked_none test marks (suc i) m) g
  where
    go : (q : Bool) → test i ≡ q → (n : ℕ) → ((m : ℕ) → first_of test (positions (suc i) marks) ≡ none → get_or marks m false ≡ true → test (suc i + m) ≡ false)
        → get_or (true ∷ marks) n false ≡ true → test (i + n) ≡ false
    go true f n rest h = impossible cc
    go false f zero rest h = rw add-zero f
    go false f (suc m) rest h = rw (add-suc, ← suc-add) (rest m (rw f at e) h)

-- the first empty position is one of the group's
pub empty_lt : (group : List ℕ) (m : ℕ) → first_empty group ≡ some m → m < length group
unfolding first_empty
empty_lt group m e = omega (arith, (some_lowest (λ j. is_empty (byte_at group j)) 0 (length group) m e).below)
