-- An answer as eight numbers: outcome, row, slot, expected, found, count, offset, length; 0 where the answer has no use for one.
-- Outcomes: 0 refused, 1 fine, 2 at a slot, 3 absent, 4 new, 5 replaced, 6 done.
use Rattle.std.specs.Prelude.{ℕ, zero, suc, Bool, cond, List, [], ◌∷◌, eqb, length}
use Rattle.rules.specs.Layout.{value_at}
use Rattle.rules.specs.Calls.{Answer, refused, fine, at_slot, absent, new, replaced, next, done}

-- eight numbers of which the last two tell no part of the book
abbrev pub told : ℕ → ℕ → ℕ → ℕ → ℕ → ℕ → List ℕ
told outcome row slot expected found count = outcome ∷ row ∷ slot ∷ expected ∷ found ∷ count ∷ 0 ∷ 0 ∷ []

unfoldable pub numbers : Answer → List ℕ
numbers (refused r) = told 0 r.row r.slot r.expected r.found r.count
numbers fine = told 1 0 0 0 0 0
numbers (at_slot i n) = told 2 0 i 0 0 n
numbers (absent n) = told 3 0 0 0 0 n
numbers (new i n) = told 4 0 i 0 0 n
numbers (replaced i n) = told 5 0 i 0 0 n
numbers (next i c) = told 2 0 i 0 c 0
numbers done = told 6 0 0 0 0 0

-- where a value of v bytes stands: nowhere if it has none
unfoldable pub offset_of : ℕ → ℕ → ℕ → ℕ
offset_of k zero i = 0
offset_of k (suc v) i = value_at k (suc v) i

-- find's numbers, with the value's place in the book and its length
unfoldable pub value_numbers : ℕ → ℕ → Answer → List ℕ
value_numbers k v (at_slot i n) = 2 ∷ 0 ∷ i ∷ 0 ∷ 0 ∷ n ∷ offset_of k v i ∷ v ∷ []
value_numbers k v (refused r) = numbers (refused r)
value_numbers k v fine = numbers fine
value_numbers k v (absent n) = numbers (absent n)
value_numbers k v (new i n) = numbers (new i n)
value_numbers k v (replaced i n) = numbers (replaced i n)
value_numbers k v (next i c) = numbers (next i c)
value_numbers k v done = numbers done

-- whether a lent answer can hold eight numbers
abbrev pub roomy : List ℕ → Bool
roomy answer = eqb (length answer) 8

-- what a call returns, and what a lent buffer holds after it: without room nothing is done
abbrev pub returned : List ℕ → ℕ
returned answer = cond (roomy answer) 0 1

abbrev pub holds : List ℕ → List ℕ → List ℕ → List ℕ
holds answer after before = cond (roomy answer) after before
