-- No two answers of a call have the same numbers: a host can read the answer back. Assumes nothing.
use mathlib.Core.Path.{◌≡◌, refl, sym, ap, ◌∙◌}
use mathlib.Core.Bool.{Bool, true, false, cond, not}
use mathlib.Core.List.{List}
use mathlib.Core.Option.{Option, none, some}
use Prim.Native.Nat.{ℕ, ◌-◌}
use lib.Dec.{eqb}
use lib.ListN.{get_or}
use Rattle.rules.specs.First as first
use Rattle.rules.specs.First.{first_of}
use Rattle.rules.specs.Layout.{slot_count, occupied}
use Rattle.rules.specs.Search.{Spot, same, free, full, spot_of}
use Rattle.rules.specs.Rows.{Refusal}
use Rattle.rules.specs.Calls.{Answer, refused, fine, at_slot, absent, new, replaced, next, done, by_rows, init_answer, open_answer, find_says, find_answer, insert_says, insert_answer, next_says, next_answer}
use Rattle.rules.specs.Check.{check_answer}
use Rattle.rules.proofs.TestLaws.{impossible}
use Rattle.exports.specs.Numbers.{numbers}

-- the answer that numbers tell; outcome 2 is iterating's or find's
abbrev pub read : Bool → List ℕ → Answer
read iterating n =
    cond (eqb (get_or n 0 0) 0)
    (refused (record { row = get_or n 1 0; slot = get_or n 2 0; expected = get_or n 3 0; found = get_or n 4 0; count = get_or n 5 0 }))
    (cond (eqb (get_or n 0 0) 1) fine
    (cond (eqb (get_or n 0 0) 2) (cond iterating (next (get_or n 2 0) (get_or n 4 0)) (at_slot (get_or n 2 0) (get_or n 5 0)))
    (cond (eqb (get_or n 0 0) 3) (absent (get_or n 5 0))
    (cond (eqb (get_or n 0 0) 4) (new (get_or n 2 0) (get_or n 5 0)) (cond (eqb (get_or n 0 0) 5) (replaced (get_or n 2 0) (get_or n 5 0)) done)))))

-- whether a call can answer so: iterating alone tells a next slot, and never where a key stands
unfoldable pub can_say : Bool → Answer → Bool
can_say iterating (at_slot i n) = not iterating
can_say iterating (next i c) = iterating
can_say iterating (refused r) = true
can_say iterating fine = true
can_say iterating (absent n) = true
can_say iterating (new i n) = true
can_say iterating (replaced i n) = true
can_say iterating done = true

pub read_back : (iterating : Bool) (a : Answer) → can_say iterating a ≡ true → read iterating (numbers a) ≡ a
unfolding numbers can_say
read_back true (at_slot i n) e = impossible cc
read_back false (at_slot i n) e = refl
read_back true (next i c) e = refl
read_back false (next i c) e = impossible cc
read_back iterating (refused r) e = refl
read_back iterating fine e = refl
read_back iterating (absent n) e = refl
read_back iterating (new i n) e = refl
read_back iterating (replaced i n) e = refl
read_back iterating done e = refl

pub numbers_once : (iterating : Bool) (a b : Answer) → can_say iterating a ≡ true → can_say iterating b ≡ true → numbers a ≡ numbers b → a ≡ b
numbers_once iterating a b x y e = sym (read_back iterating a x) ∙ ap (read iterating) e ∙ read_back iterating b y

-- each call answers as it can: a refusal always may
can_say_by_rows : (iterating : Bool) (o : Option Refusal) (a : Answer) → can_say iterating a ≡ true → can_say iterating (by_rows o refused a) ≡ true
unfolding can_say by_rows
can_say_by_rows iterating none a e = e
can_say_by_rows iterating (some r) a e = refl

pub init_says : (s : List ℕ) (k v S : ℕ) → can_say false (init_answer s k v S) ≡ true
unfolding can_say init_answer
init_says s k v S = can_say_by_rows false _ fine refl

pub open_says : (s : List ℕ) (k v : ℕ) → can_say false (open_answer s k v) ≡ true
unfolding can_say open_answer
open_says s k v = can_say_by_rows false _ fine refl

pub check_says : (s : List ℕ) (k v : ℕ) → can_say false (check_answer s k v) ≡ true
unfolding can_say check_answer
check_says s k v = can_say_by_rows false _ fine refl

pub find_answer_says : (s : List ℕ) (k v : ℕ) (key : List ℕ) → can_say false (find_answer s k v key) ≡ true
unfolding can_say find_says find_answer
find_answer_says s k v key = can_say_by_rows false _ _ (go (spot_of s k v (slot_count s) key))
  where
    go : (p : Spot) → can_say false (find_says p) ≡ true
    go (same i n) = refl
    go (free i n) = refl
    go (full n) = refl

pub insert_answer_says : (s : List ℕ) (k v : ℕ) (key value old : List ℕ) → can_say false (insert_answer s k v key value old) ≡ true
unfolding can_say insert_says insert_answer
insert_answer_says s k v key value old = can_say_by_rows false _ _ (go (spot_of s k v (slot_count s) key))
  where
    go : (p : Spot) → can_say false (insert_says p) ≡ true
    go (same i n) = refl
    go (free i n) = refl
    go (full n) = refl

pub next_answer_says : (s : List ℕ) (k v from : ℕ) → can_say true (next_answer s k v from) ≡ true
unfolding can_say next_says next_answer
next_answer_says s k v from = can_say_by_rows true _ _ (go (first_of (occupied s k v (slot_count s)) (first.numbers from (slot_count s - from))))
  where
    go : (o : Option ℕ) → can_say true (next_says s k v (slot_count s) o) ≡ true
    go none = refl
    go (some i) = refl
