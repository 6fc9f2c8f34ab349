-- Each call: its answer, and what each lent buffer holds afterwards.
use Rattle.std.specs.Prelude.{ℕ, suc, ◌+◌, ◌-◌, cond, not, ◌&&◌, List, [], ◌∷◌, ◌++◌, ltb, set}
use Rattle.std.proofs.Math.Option.{Option, none, some}
use Rattle.std.proofs.lemmas.List.Edits.{sets}
use Rattle.rules.specs.First.{numbers, first_of, first_some}
use Rattle.rules.specs.Layout.{entry_at, value_at, control_at, slot_count, value_of, control, occupied, fresh_book}
use Rattle.rules.specs.Hash.{tag_of}
use Rattle.rules.specs.Search.{Spot, same, free, full, spot_of}
use Rattle.rules.specs.Rows.{Refusal, no_end, row_if, header_rows, init_rows, slot_rows, fits}

-- what a call answers
pub data Answer : Type 0 where
  refused : Refusal → Answer
  fine : Answer
  -- a slot and the number of groups examined
  at_slot : ℕ → ℕ → Answer
  absent : ℕ → Answer
  new : ℕ → ℕ → Answer
  replaced : ℕ → ℕ → Answer
  -- an occupied slot and its control byte
  next : ℕ → ℕ → Answer
  done : Answer

-- by the first row that applies, or else as the call would have it
unfoldable pub by_rows : {A : Type 0} → Option Refusal → (Refusal → A) → A → A
by_rows none refusing accepting = accepting
by_rows (some r) refusing accepting = refusing r

-- the answer of a call with these rows
abbrev pub answered : List (Option Refusal) → Answer → Answer
answered rows answer = by_rows (first_some rows) refused answer

-- what a buffer holds after a call with these rows: a refusal leaves it as it was
abbrev pub leaves : List (Option Refusal) → List ℕ → List ℕ → List ℕ
leaves rows before after = by_rows (first_some rows) (λ r. before) after

-- initialising: a new book with any item count and load factor
unfoldable pub init_answer : List ℕ → ℕ → ℕ → ℕ → Answer
init_answer s k v S = answered (init_rows s k v S) fine

unfoldable pub init_book : List ℕ → ℕ → ℕ → ℕ → ℕ → ℕ → List ℕ
init_book s k v S count load = leaves (init_rows s k v S) s (fresh_book k v S count load)

-- opening looks at the ten lowest slots
unfoldable pub open_answer : List ℕ → ℕ → ℕ → Answer
open_answer s k v = answered (header_rows s k v ++ (slot_rows s k v (slot_count s) 10 ∷ [])) fine

-- the rows of find and of reading the value
unfoldable pub find_rows : List ℕ → ℕ → ℕ → List ℕ → List (Option Refusal)
find_rows s k v key = header_rows s k v ++ (row_if 13 (not (fits key k)) ∷ [])

unfoldable pub find_says : Spot → Answer
find_says (same i n) = at_slot i n
find_says (free i n) = absent n
find_says (full n) = absent n

unfoldable pub find_answer : List ℕ → ℕ → ℕ → List ℕ → Answer
find_answer s k v key = answered (find_rows s k v key) (find_says (spot_of s k v (slot_count s) key))

-- the value bytes of the slot that a search found, or the empty part
unfoldable pub value_in : List ℕ → ℕ → ℕ → Spot → List ℕ
value_in s k v (same i n) = value_of s k v i
value_in s k v (free i n) = []
value_in s k v (full n) = []

unfoldable pub value_part : List ℕ → ℕ → ℕ → List ℕ → List ℕ
value_part s k v key = leaves (find_rows s k v key) [] (value_in s k v (spot_of s k v (slot_count s) key))

-- the rows of insert before it searches; `old` is the third buffer
unfoldable pub insert_rows : List ℕ → ℕ → ℕ → List ℕ → List ℕ → List ℕ → List (Option Refusal)
insert_rows s k v key value old =
    header_rows s k v ++ (row_if 13 (not (fits key k && fits value v && fits old v)) ∷ [])

unfoldable pub insert_says : Spot → Answer
insert_says (same i n) = replaced i n
insert_says (free i n) = new i n
insert_says (full n) = refused (no_end n)

-- a control byte set, and of a slot below 16 its mirror too
unfoldable pub set_control : List ℕ → ℕ → ℕ → ℕ → ℕ → ℕ → List ℕ
set_control s k v S i c =
    cond (ltb i 16) (set (set s (control_at k v S i) c) (control_at k v S (S + i)) c) (set s (control_at k v S i) c)

-- the book after an insert: the value overwritten, or key, value and control byte written, or nothing
unfoldable pub written : List ℕ → ℕ → ℕ → ℕ → List ℕ → List ℕ → Spot → List ℕ
written s k v S key value (same i n) = sets s (value_at k v i) value
written s k v S key value (free i n) = set_control (sets s (entry_at k v i) (key ++ value)) k v S i (tag_of key)
written s k v S key value (full n) = s

-- the third buffer after an insert: the old value of a match
unfoldable pub old_value : List ℕ → ℕ → ℕ → List ℕ → Spot → List ℕ
old_value s k v old (same i n) = value_of s k v i
old_value s k v old (free i n) = old
old_value s k v old (full n) = old

module _ (s : List ℕ) (k v : ℕ) (key value old : List ℕ) where
  unfoldable pub insert_answer : Answer
  insert_answer = answered (insert_rows s k v key value old) (insert_says (spot_of s k v (slot_count s) key))

  unfoldable pub insert_book : List ℕ
  insert_book = leaves (insert_rows s k v key value old) s (written s k v (slot_count s) key value (spot_of s k v (slot_count s) key))

  unfoldable pub insert_old : List ℕ
  insert_old = leaves (insert_rows s k v key value old) old (old_value s k v old (spot_of s k v (slot_count s) key))

-- an occupied slot with its control byte, or done
unfoldable pub next_says : List ℕ → ℕ → ℕ → ℕ → Option ℕ → Answer
next_says s k v S none = done
next_says s k v S (some i) = next i (control s k v S i)

-- the next occupied slot at or after a number
unfoldable pub next_answer : List ℕ → ℕ → ℕ → ℕ → Answer
next_answer s k v from =
    answered (header_rows s k v)
    (next_says s k v (slot_count s) (first_of (occupied s k v (slot_count s)) (numbers from (slot_count s - from))))

-- where a walk stands after a step: one past an answered slot, else where it was
unfoldable pub moved_to : ℕ → Answer → ℕ
moved_to at (next i c) = suc i
moved_to at (refused r) = at
moved_to at fine = at
moved_to at (at_slot i n) = at
moved_to at (absent n) = at
moved_to at (new i n) = at
moved_to at (replaced i n) = at
moved_to at done = at

-- a walk's step: it answers as `next_answer` from where it stands, and moves
unfoldable pub step_to : List ℕ → ℕ → ℕ → ℕ → ℕ
step_to s k v at = moved_to at (next_answer s k v at)
