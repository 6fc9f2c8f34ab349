-- What each call answers, and what each buffer holds, once it is known which row applies first. Assumes nothing.
use mathlib.Core.Path.{◌≡◌, refl, sym, ap, ap₂, ◌∙◌}
use mathlib.Core.Bool.{Bool, true, false, not, ◌&&◌}
use mathlib.Core.List.{List, [], ◌∷◌, ◌++◌}
use mathlib.Core.Option.{Option, none, some}
use Prim.Native.Nat.{ℕ, ◌<◌}
use native.Mathlib.Omega.{arith}
use borrow.Author.Tests.{eqb-true, eq-eqb, ne_eqb}
use lib.ListN.{length}
use Rattle.rules.specs.First.{first_some}
use Rattle.rules.specs.Layout.{slot_count, value_of}
use Rattle.rules.specs.Group.{reports}
use Rattle.rules.specs.Search.{Spot, same, free, full, spot_of}
use Rattle.rules.specs.Rows.{Refusal, refusal, row_if, header_rows, fits}
use Rattle.rules.specs.Calls.{Answer, refused, at_slot, by_rows, find_rows, find_says, find_answer, value_in, value_part, insert_rows, insert_says, insert_answer, written, insert_book, old_value, insert_old}
use Rattle.rules.specs.Bounds.{Passed}
use Rattle.rules.proofs.FirstLaws.{first_earlier, last_row, none_before}
use Rattle.rules.proofs.TestLaws.{impossible, both}
use Rattle.rules.proofs.RowLaws.{passed, passes}
use Rattle.rules.proofs.SearchLaws.{spot_below}

module _ {A : Type 0} (refusing : Refusal → A) (accepting : A) where
  pub by_none : (o : Option Refusal) → o ≡ none → by_rows o refusing accepting ≡ accepting
  unfolding by_rows
  by_none o e = rw e

  pub by_some : (o : Option Refusal) (r : Refusal) → o ≡ some r → by_rows o refusing accepting ≡ refusing r
  unfolding by_rows
  by_some o r e = rw e

-- row 13 after the header's rows, for find and for insert: `right` says whether the lent lengths are
module _ (s : List ℕ) (k v : ℕ) (right : Bool) where
  abbrev pub length_rows : List (Option Refusal)
  length_rows = header_rows s k v ++ (row_if 13 (not right) ∷ [])

  pub header_first : (r : Refusal) → first_some (header_rows s k v) ≡ some r → first_some length_rows ≡ some r
  header_first r e = first_earlier (header_rows s k v) (row_if 13 (not right) ∷ []) r e

  length_row : first_some (header_rows s k v) ≡ none → (q : Bool) → right ≡ q → first_some length_rows ≡ row_if 13 (not q)
  length_row e q f = last_row (header_rows s k v) (row_if 13 (not right)) e ∙ ap (λ (b : Bool). row_if 13 (not b)) f

  pub length_wrong : first_some (header_rows s k v) ≡ none → right ≡ false → first_some length_rows ≡ some (refusal 13)
  length_wrong e f = length_row e false f

  pub length_right : first_some (header_rows s k v) ≡ none → right ≡ true → first_some length_rows ≡ none
  length_right e f = length_row e true f

module _ (s : List ℕ) (k v : ℕ) (key : List ℕ) where
  pub find_header : (r : Refusal) → first_some (header_rows s k v) ≡ some r → first_some (find_rows s k v key) ≡ some r
  unfolding find_rows
  find_header r e = header_first s k v (fits key k) r e

  pub find_length : first_some (header_rows s k v) ≡ none → (length key ≡ k → ⊥) → first_some (find_rows s k v key) ≡ some (refusal 13)
  unfolding find_rows
  find_length e n = length_wrong s k v (fits key k) e (ne_eqb (length key) k n)

  pub find_passes : first_some (header_rows s k v) ≡ none → length key ≡ k → first_some (find_rows s k v key) ≡ none
  unfolding find_rows
  find_passes e n = length_right s k v (fits key k) e (eq-eqb (length key) k n)

  pub find_refused : (r : Refusal) → first_some (find_rows s k v key) ≡ some r → find_answer s k v key ≡ refused r
  unfolding find_answer
  find_refused r e = by_some refused (find_says (spot_of s k v (slot_count s) key)) (first_some (find_rows s k v key)) r e

  pub find_answer_says : first_some (find_rows s k v key) ≡ none → find_answer s k v key ≡ find_says (spot_of s k v (slot_count s) key)
  unfolding find_answer
  find_answer_says e = by_none refused (find_says (spot_of s k v (slot_count s) key)) (first_some (find_rows s k v key)) e

  pub value_refused : (r : Refusal) → first_some (find_rows s k v key) ≡ some r → value_part s k v key ≡ []
  unfolding value_part
  value_refused r e = by_some (λ q. []) (value_in s k v (spot_of s k v (slot_count s) key)) (first_some (find_rows s k v key)) r e

  pub value_says : first_some (find_rows s k v key) ≡ none → value_part s k v key ≡ value_in s k v (spot_of s k v (slot_count s) key)
  unfolding value_part
  value_says e = by_none (λ q. []) (value_in s k v (spot_of s k v (slot_count s) key)) (first_some (find_rows s k v key)) e

  says_at : (p : Spot) (i n : ℕ) → find_says p ≡ at_slot i n → p ≡ same i n
  unfolding find_says
  says_at (same j m) i n e = let x : j ≡ i = cc in let y : m ≡ n = cc in ap₂ same x y
  says_at (free j m) i n e = impossible cc
  says_at (full m) i n e = impossible cc

  -- what an answered slot tells: no row applied, and the search found it
  pub find_at : (i n : ℕ) → find_answer s k v key ≡ at_slot i n → (first_some (find_rows s k v key) ≡ none) × (spot_of s k v (slot_count s) key ≡ same i n)
  find_at i n e = go (first_some (find_rows s k v key)) refl
    where
      go : (o : Option Refusal) → first_some (find_rows s k v key) ≡ o → (first_some (find_rows s k v key) ≡ none) × (spot_of s k v (slot_count s) key ≡ same i n)
      go none f = (f, says_at (spot_of s k v (slot_count s) key) i n (sym (find_answer_says f) ∙ e))
      go (some r) f = let z : refused r ≡ at_slot i n = sym (find_refused r f) ∙ e in impossible cc

  pub find_header_passes : first_some (find_rows s k v key) ≡ none → first_some (header_rows s k v) ≡ none
  unfolding find_rows
  find_header_passes e = none_before (header_rows s k v) (row_if 13 (not (fits key k)) ∷ []) e

  -- where find has no slot there is no value
  pub value_empty : ((i n : ℕ) → find_answer s k v key ≡ at_slot i n → ⊥) → value_part s k v key ≡ []
  unfolding value_in find_says
  value_empty h = go (first_some (find_rows s k v key)) refl
    where
      spot : (p : Spot) → first_some (find_rows s k v key) ≡ none → spot_of s k v (slot_count s) key ≡ p → value_in s k v p ≡ []
      spot (same i n) f q = absurd (h i n (find_answer_says f ∙ ap find_says q))
      spot (free i n) f q = refl
      spot (full n) f q = refl

      go : (o : Option Refusal) → first_some (find_rows s k v key) ≡ o → value_part s k v key ≡ []
      go none f = value_says f ∙ spot (spot_of s k v (slot_count s) key) f refl
      go (some r) f = value_refused r f

  pub value_at_slot : (i n : ℕ) → find_answer s k v key ≡ at_slot i n → value_part s k v key ≡ value_of s k v i
  unfolding value_in
  value_at_slot i n e = let f = find_at i n e in value_says f.0 ∙ ap (value_in s k v) f.1

  -- an answered slot is one of a book that passed
  pub at_passed : (i n : ℕ) → find_answer s k v key ≡ at_slot i n → Passed s k v (slot_count s) × (i < slot_count s)
  at_passed i n e =
      let f = find_at i n e in
      let p = passed s k v (find_header_passes f.0) in
      let h : 0 < slot_count s = omega (arith, p.slots.least) in
      (p, rw f.1 at (spot_below 8 reports s k v (slot_count s) key h))

-- the header is right for insert, and so is each lent length
pub record Fitting (s : List ℕ) (k v : ℕ) (key value old : List ℕ) : Type 0 where
  pub header : first_some (header_rows s k v) ≡ none
  pub key_fits : length key ≡ k
  pub value_fits : length value ≡ v
  pub old_fits : length old ≡ v

module _ (s : List ℕ) (k v : ℕ) (key value old : List ℕ) where
  -- whether the three lent lengths are right
  abbrev pub Fits : Bool
  Fits = fits key k && fits value v && fits old v

  pub insert_header : (r : Refusal) → first_some (header_rows s k v) ≡ some r → first_some (insert_rows s k v key value old) ≡ some r
  unfolding insert_rows
  insert_header r e = header_first s k v Fits r e

  pub insert_length : first_some (header_rows s k v) ≡ none → Fits ≡ false → first_some (insert_rows s k v key value old) ≡ some (refusal 13)
  unfolding insert_rows
  insert_length e f = length_wrong s k v Fits e f

  pub insert_passes : first_some (header_rows s k v) ≡ none → Fits ≡ true → first_some (insert_rows s k v key value old) ≡ none
  unfolding insert_rows
  insert_passes e f = length_right s k v Fits e f

  -- the three lengths, where they are right
  pub lengths : Fits ≡ true → (length key ≡ k) × (length value ≡ v) × (length old ≡ v)
  lengths e =
      let a = both (fits key k && fits value v) (fits old v) e in
      let b = both (fits key k) (fits value v) a.0 in
      (eqb-true (length key) k b.0, eqb-true (length value) v b.1, eqb-true (length old) v a.1)

  -- no row of insert applies exactly where the header and the lengths are right
  pub fitting : first_some (insert_rows s k v key value old) ≡ none → Fitting s k v key value old
  unfolding insert_rows
  fitting e =
      let h = none_before (header_rows s k v) (row_if 13 (not Fits) ∷ []) e in
      let l = lengths (passes 13 Fits (sym (last_row (header_rows s k v) (row_if 13 (not Fits)) h) ∙ e)) in
      record { header = h; key_fits = l.0; value_fits = l.1; old_fits = l.2 }

  pub fitting_passes : Fitting s k v key value old → first_some (insert_rows s k v key value old) ≡ none
  fitting_passes f =
      insert_passes f.header
      (rw (eq-eqb (length key) k f.key_fits, eq-eqb (length value) v f.value_fits, eq-eqb (length old) v f.old_fits))

  -- a refused insert, and one that the search decides: the answer, the book, the third buffer
  abbrev pub Inserts : Answer → List ℕ → List ℕ → Type 0
  Inserts answer book third =
      (insert_answer s k v key value old ≡ answer) × (insert_book s k v key value old ≡ book) × (insert_old s k v key value old ≡ third)

  pub insert_refused : (r : Refusal) → first_some (insert_rows s k v key value old) ≡ some r → Inserts (refused r) s old
  unfolding insert_answer insert_book insert_old
  insert_refused r e = (by_some refused _ _ r e, by_some (λ q. s) _ _ r e, by_some (λ q. old) _ _ r e)

  pub insert_answer_says : (p : Spot) → first_some (insert_rows s k v key value old) ≡ none → spot_of s k v (slot_count s) key ≡ p
      → Inserts (insert_says p) (written s k v (slot_count s) key value p) (old_value s k v old p)
  unfolding insert_answer insert_book insert_old
  insert_answer_says p e f = (
    by_none refused _ _ e ∙ ap insert_says f,
    by_none (λ q. s) _ _ e ∙ ap (written s k v (slot_count s) key value) f,
    by_none (λ q. old) _ _ e ∙ ap (old_value s k v old) f,
  )
