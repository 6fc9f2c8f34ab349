-- The promises of demand 3, as statements. `proofs/Promises.antt` proves each of them.
use Rattle.std.specs.Prelude.{◌≡◌, ◌↔◌, true, false, List, [], ◌∷◌, ℕ, ◌/◌, ◌≤◌, ◌<◌, length}
use Rattle.std.proofs.Math.Option.{none, some}
use Rattle.rules.specs.Bytes.{byte_at}
use Rattle.rules.specs.First.{first_some}
use Rattle.rules.specs.Layout.{value_at, slot_count, key_of, value_of, occupied}
use Rattle.rules.specs.Hash.{start_of}
use Rattle.rules.specs.Search.{Spot, same, free, full, spot_of}
use Rattle.rules.specs.Rows.{Refusal, no_end}
use Rattle.rules.specs.Calls.{refused, fine, at_slot, absent, new, replaced, init_answer, init_book, open_answer, find_answer}
use Rattle.rules.specs.Check.{check_answer}
use Rattle.rules.specs.Bounds.{Slots}
use Rattle.promises.specs.Sound.{Has, Nowhere, SomeEmpty, NoneEmpty, Reachable, Sound, Beside, Outside, InGroup}
use Rattle.promises.specs.History.{Call, answer, book, accepted, given, lookup, History, book_of, last_of}

-- ---- sound books

-- initialising makes a sound book
abbrev pub FreshIsSound : Type 0
FreshIsSound = (s : List ℕ) (k v S count load : ℕ) → init_answer s k v S ≡ fine → Sound (init_book s k v S count load) k v S

-- any call of insert leaves a sound book sound, whatever its sizes and lengths, accepted or refused
abbrev pub CallsKeepSound : Type 0
CallsKeepSound = (s : List ℕ) (k v S : ℕ) → Sound s k v S → (c : Call) → Sound (book s c) k v S

-- a sound book opens, and passes the whole-book check
abbrev pub SoundOpens : Type 0
SoundOpens = (s : List ℕ) (k v S : ℕ) → Sound s k v S → open_answer s k v ≡ fine

abbrev pub SoundPasses : Type 0
SoundPasses = (s : List ℕ) (k v S : ℕ) → Sound s k v S → check_answer s k v ≡ fine

-- ---- what an insert changes, in any book

-- nothing, if it is not accepted
abbrev pub RefusedChangesNothing : Type 0
RefusedChangesNothing = (s : List ℕ) (c : Call) → accepted (answer s c) ≡ false → book s c ≡ s

-- a new key: only its slot's key, value, control byte and mirror
abbrev pub NewChangesItsSlot : Type 0
NewChangesItsSlot =
    (s : List ℕ) (c : Call) (i n x : ℕ) → answer s c ≡ new i n → Outside c.k c.v (slot_count s) i x → byte_at (book s c) x ≡ byte_at s x

-- a replaced value: only that value
abbrev pub ReplacedChangesItsValue : Type 0
ReplacedChangesItsValue =
    (s : List ℕ) (c : Call) (i n x : ℕ) → answer s c ≡ replaced i n → Beside (value_at c.k c.v i) c.v x → byte_at (book s c) x ≡ byte_at s x

-- never the length
abbrev pub LengthStays : Type 0
LengthStays = (s : List ℕ) (c : Call) → length (book s c) ≡ length s

-- ---- the search

-- in any book the count is the place of the group that decides, at most S / 8, and S / 8 where none does
abbrev pub SameCount : Type 0
SameCount = (s : List ℕ) (k v S : ℕ) (key : List ℕ) (i n : ℕ) → spot_of s k v S key ≡ same i n → InGroup 8 (start_of S key) S i n

abbrev pub FreeCount : Type 0
FreeCount = (s : List ℕ) (k v S : ℕ) (key : List ℕ) (i n : ℕ) → spot_of s k v S key ≡ free i n → InGroup 8 (start_of S key) S i n

abbrev pub FullCount : Type 0
FullCount = (s : List ℕ) (k v S : ℕ) (key : List ℕ) (n : ℕ) → spot_of s k v S key ≡ full n → n ≡ S / 8

-- so no search examines more than an eighth as many groups as there are slots
unfoldable pub groups_of : Spot → ℕ
groups_of (same i n) = n
groups_of (free i n) = n
groups_of (full n) = n

abbrev pub AtMostAnEighth : Type 0
AtMostAnEighth = (s : List ℕ) (k v S : ℕ) (key : List ℕ) → groups_of (spot_of s k v S key) ≤ S / 8

-- and a slot is in one group only, so there is one such count
abbrev pub OneGroup : Type 0
OneGroup = (b S i n m : ℕ) → Slots S → InGroup 8 b S i n → InGroup 8 b S i m → n ≡ m

-- in a sound book a key is found in slot i exactly when it stands there
abbrev pub SameExactly : Type 0
SameExactly =
    (s : List ℕ) (k v S : ℕ) → Sound s k v S → (key : List ℕ) (i : ℕ) → ((n : ℕ) × (spot_of s k v S key ≡ same i n)) ↔ Has s k v S key i

-- a slot is free for it exactly when it stands nowhere and some slot is empty
abbrev pub FreeExactly : Type 0
FreeExactly =
    (s : List ℕ) (k v S : ℕ) → Sound s k v S → (key : List ℕ)
    → ((i : ℕ) × (n : ℕ) × (spot_of s k v S key ≡ free i n)) ↔ (Nowhere s k v S key × SomeEmpty s k v S)

-- and then it is the first empty one of the key's order, slot by slot
abbrev pub FreeIsFirst : Type 0
FreeIsFirst =
    (s : List ℕ) (k v S : ℕ) → Sound s k v S → (key : List ℕ) (i n : ℕ) → spot_of s k v S key ≡ free i n
    → (i < S) × (occupied s k v S i ≡ false) × Reachable s k v S key i

-- the book is full for it exactly when it stands nowhere and no slot is empty
abbrev pub FullExactly : Type 0
FullExactly =
    (s : List ℕ) (k v S : ℕ) → Sound s k v S → (key : List ℕ)
    → (spot_of s k v S key ≡ full (S / 8)) ↔ (Nowhere s k v S key × NoneEmpty s k v S)

-- ---- sound books as maps

-- a call of insert changes the map at its own key alone: there is what it gives, else what was
abbrev pub CallChangesItsKey : Type 0
CallChangesItsKey =
    (s : List ℕ) (k v S : ℕ) → Sound s k v S → (c : Call) (key : List ℕ) → length key ≡ k
    → lookup (book s c) k v key ≡ first_some (given s c key ∷ lookup s k v key ∷ [])

-- a call with a book's sizes, and buffers of the right lengths
pub record WellFormed (k v : ℕ) (c : Call) : Type 0 where
  pub key_size : c.k ≡ k
  pub value_size : c.v ≡ v
  pub key_fits : length c.key ≡ k
  pub value_fits : length c.value ≡ v
  pub old_fits : length c.old ≡ v

-- every slot is occupied, by another key
abbrev pub HeldByOthers : List ℕ → ℕ → ℕ → ℕ → List ℕ → Type 0
HeldByOthers s k v S key = (i : ℕ) → i < S → (occupied s k v S i ≡ true) × (key_of s k v i ≡ key → ⊥)

-- a well-formed insert is refused exactly when every slot holds another key
abbrev pub FullExactlyRefused : Type 0
FullExactlyRefused =
    (s : List ℕ) (k v S : ℕ) → Sound s k v S → (c : Call) → WellFormed k v c
    → ((r : Refusal) × (answer s c ≡ refused r)) ↔ HeldByOthers s k v S c.key

-- and then as full, by row 14 with S / 8 groups
abbrev pub RefusedAsFull : Type 0
RefusedAsFull =
    (s : List ℕ) (k v S : ℕ) → Sound s k v S → (c : Call) (r : Refusal) → WellFormed k v c → answer s c ≡ refused r → r ≡ no_end (S / 8)

-- different keys never share a slot
abbrev pub KeysApart : Type 0
KeysApart =
    (s : List ℕ) (k v S : ℕ) → Sound s k v S → (key key' : List ℕ) (i n m : ℕ) → length key ≡ k → length key' ≡ k
    → find_answer s k v key ≡ at_slot i n → find_answer s k v key' ≡ at_slot i m → key ≡ key'

-- ---- histories: a fresh book and any calls after it, refused ones among them

-- the book of a history is sound, so that all of the above holds of it; it opens, and passes the check
abbrev pub HistoryIsSound : Type 0
HistoryIsSound = (k v S : ℕ) (h : History k v S) → Sound (book_of h) k v S

abbrev pub HistoryOpens : Type 0
HistoryOpens = (k v S : ℕ) (h : History k v S) → open_answer (book_of h) k v ≡ fine

abbrev pub HistoryPasses : Type 0
HistoryPasses = (k v S : ℕ) (h : History k v S) → check_answer (book_of h) k v ≡ fine

-- a lookup gives the value last accepted under exactly those key bytes, or none
abbrev pub LookupIsLast : Type 0
LookupIsLast = (k v S : ℕ) (h : History k v S) (key : List ℕ) → length key ≡ k → lookup (book_of h) k v key ≡ last_of h key

-- find answers a slot with that value, or absent if there was none, and never refuses
abbrev pub FoundIfGiven : Type 0
FoundIfGiven =
    (k v S : ℕ) (h : History k v S) (key value : List ℕ) → length key ≡ k → last_of h key ≡ some value
    → (i : ℕ) × (n : ℕ) × (find_answer (book_of h) k v key ≡ at_slot i n) × (value_of (book_of h) k v i ≡ value)

abbrev pub AbsentIfNever : Type 0
AbsentIfNever =
    (k v S : ℕ) (h : History k v S) (key : List ℕ) → length key ≡ k → last_of h key ≡ none
    → (n : ℕ) × (find_answer (book_of h) k v key ≡ absent n)

-- different keys never share a slot
abbrev pub HistoryKeysApart : Type 0
HistoryKeysApart =
    (k v S : ℕ) (h : History k v S) (key key' : List ℕ) (i n m : ℕ) → length key ≡ k → length key' ≡ k
    → find_answer (book_of h) k v key ≡ at_slot i n → find_answer (book_of h) k v key' ≡ at_slot i m → key ≡ key'

-- a well-formed insert is refused exactly when its key is new and every slot holds another key, and then by row 14 with S / 8 groups
abbrev pub HistoryRefusedExactly : Type 0
HistoryRefusedExactly =
    (k v S : ℕ) (h : History k v S) (c : Call) → WellFormed k v c
    → ((r : Refusal) × (answer (book_of h) c ≡ refused r)) ↔ ((last_of h c.key ≡ none) × HeldByOthers (book_of h) k v S c.key)

abbrev pub HistoryRefusedAsFull : Type 0
HistoryRefusedAsFull =
    (k v S : ℕ) (h : History k v S) (c : Call) (r : Refusal) → WellFormed k v c → answer (book_of h) c ≡ refused r → r ≡ no_end (S / 8)

-- two histories over equal sizes that leave the same bytes answer alike for every key, and gave it the same
abbrev pub SameBytesSameAnswers : Type 0
SameBytesSameAnswers =
    (k v S : ℕ) (h h' : History k v S) (key : List ℕ) → length key ≡ k → book_of h ≡ book_of h'
    → (lookup (book_of h) k v key ≡ lookup (book_of h') k v key) × (last_of h key ≡ last_of h' key)

-- so two that would answer differently for some key leave different bytes
abbrev pub DifferentAnswersDifferentBytes : Type 0
DifferentAnswersDifferentBytes =
    (k v S : ℕ) (h h' : History k v S) (key : List ℕ) → length key ≡ k → (last_of h key ≡ last_of h' key → ⊥) → book_of h ≡ book_of h' → ⊥
