-- Histories: a fresh book, a list of calls of insert, the book after them, and what each key was given last.
use Rattle.std.specs.Prelude.{◌≡◌, Bool, true, false, cond, ◌&&◌, List, [], ◌∷◌, ℕ}
use Rattle.std.proofs.Math.Option.{Option, none, some}
use Rattle.rules.specs.Bytes.{same_bytes}
use Rattle.rules.specs.First.{first_some}
use Rattle.rules.specs.Layout.{value_of}
use Rattle.rules.specs.Calls.{Answer, refused, fine, at_slot, absent, new, replaced, next, done, init_answer, init_book, find_answer, insert_answer, insert_book}

-- a call of insert: any sizes, and a key, a value and a third buffer of any lengths
pub record Call : Type 0 where
  pub k : ℕ
  pub v : ℕ
  pub key : List ℕ
  pub value : List ℕ
  pub old : List ℕ

-- what a call answers, and the book it leaves
abbrev pub answer : List ℕ → Call → Answer
answer s c = insert_answer s c.k c.v c.key c.value c.old

abbrev pub book : List ℕ → Call → List ℕ
book s c = insert_book s c.k c.v c.key c.value c.old

-- the book after calls, in their order
unfoldable pub after : List ℕ → List Call → List ℕ
after s [] = s
after s (c ∷ calls) = after (book s c) calls

-- whether insert says that it was done
unfoldable pub accepted : Answer → Bool
accepted (new i n) = true
accepted (replaced i n) = true
accepted (refused r) = false
accepted fine = false
accepted (at_slot i n) = false
accepted (absent n) = false
accepted (next i c) = false
accepted done = false

-- the value that a call gives the key, if it is accepted and has exactly the key's bytes
unfoldable pub given : List ℕ → Call → List ℕ → Option (List ℕ)
given s c key = cond (accepted (answer s c) && same_bytes c.key key) (some c.value) none

-- the value last accepted under exactly the key's bytes, in calls that begin with the book s
unfoldable pub last_accepted : List ℕ → List Call → List ℕ → Option (List ℕ)
last_accepted s [] key = none
last_accepted s (c ∷ calls) key = first_some (last_accepted (book s c) calls key ∷ given s c key ∷ [])

-- the value of the slot that find answers
unfoldable pub value_found : List ℕ → ℕ → ℕ → Answer → Option (List ℕ)
value_found s k v (at_slot i n) = some (value_of s k v i)
value_found s k v (absent n) = none
value_found s k v (refused r) = none
value_found s k v fine = none
value_found s k v (new i n) = none
value_found s k v (replaced i n) = none
value_found s k v (next i c) = none
value_found s k v done = none

-- find, with the value bytes of its slot
unfoldable pub lookup : List ℕ → ℕ → ℕ → List ℕ → Option (List ℕ)
lookup s k v key = value_found s k v (find_answer s k v key)

-- a history over the sizes k and v and S slots: a buffer that initialising accepts, any item count and load factor, and any calls
pub record History (k v S : ℕ) : Type 0 where
  pub buffer : List ℕ
  pub count : ℕ
  pub load : ℕ
  pub made : init_answer buffer k v S ≡ fine
  pub calls : List Call

module _ {k v S : ℕ} (h : History k v S) where
  -- its fresh book
  abbrev pub fresh_of : List ℕ
  fresh_of = init_book h.buffer k v S h.count h.load

  -- the book that it leaves
  abbrev pub book_of : List ℕ
  book_of = after fresh_of h.calls

  -- the value that it gave the key last
  abbrev pub last_of : List ℕ → Option (List ℕ)
  last_of key = last_accepted fresh_of h.calls key
