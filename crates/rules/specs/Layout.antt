-- The bytes of a book. k is the key size, v the value size, S the slot count, i a slot, p a control position.
use Rattle.std.specs.Prelude.{ℕ, zero, suc, ◌+◌, ◌*◌, ◌^◌, Bool, false, not, ◌&&◌, ◌||◌, List, [], ◌∷◌, ◌++◌, eqb, leb, replicate}
use Rattle.rules.specs.Bytes.{byte_at, part, le, le_bytes}

-- the largest slot count
unfoldable pub slot_limit : ℕ
slot_limit = 65536

-- key sizes are 1 to 255, value sizes 0 to 255
unfoldable pub are_sizes : ℕ → ℕ → Bool
are_sizes k v = leb 1 k && leb k 255 && leb v 255

-- whether S is 2 to a power below n
unfoldable pub is_power : ℕ → ℕ → Bool
is_power zero S = false
is_power (suc n) S = eqb S (2 ^ n) || is_power n S

-- a slot count is a power of two from 16 to the limit
unfoldable pub is_slot_count : ℕ → Bool
is_slot_count S = is_power 64 S && leb 16 S && leb S slot_limit

-- `ODHT`
abbrev pub book_tag : List ℕ
book_tag = 0x4f ∷ 0x44 ∷ 0x48 ∷ 0x54 ∷ []

abbrev pub version : List ℕ
version = 0 ∷ 0 ∷ 0 ∷ 2 ∷ []

-- the 32 bytes of a header: tag; metadata, key, value and header size; item count; slot count; version; load factor; padding
unfoldable pub header : ℕ → ℕ → ℕ → ℕ → ℕ → List ℕ
header k v S count load =
    book_tag ++ (1 ∷ k ∷ v ∷ 32 ∷ []) ++ le_bytes 8 count ++ le_bytes 8 S ++ version ++ le_bytes 2 load ++ (0 ∷ 0 ∷ [])

-- where entry i stands: its key, and after that its value
abbrev pub entry_at : ℕ → ℕ → ℕ → ℕ
entry_at k v i = 32 + i * (k + v)

abbrev pub value_at : ℕ → ℕ → ℕ → ℕ
value_at k v i = entry_at k v i + k

-- where the byte of a control position stands: S control bytes, then 16 mirrors, mirror j at position S + j
abbrev pub control_at : ℕ → ℕ → ℕ → ℕ → ℕ
control_at k v S p = 32 + S * (k + v) + p

abbrev pub total : ℕ → ℕ → ℕ → ℕ
total k v S = 32 + S * (k + v) + S + 16

-- a control byte with bit 0x80 means empty
abbrev pub is_empty : ℕ → Bool
is_empty c = leb 128 c

-- the slot count that a header states
abbrev pub slot_count : List ℕ → ℕ
slot_count s = le (part 8 16 s)

-- the key and the value in slot i
abbrev pub key_of : List ℕ → ℕ → ℕ → ℕ → List ℕ
key_of s k v i = part k (entry_at k v i) s

abbrev pub value_of : List ℕ → ℕ → ℕ → ℕ → List ℕ
value_of s k v i = part v (value_at k v i) s

-- the byte at a control position
abbrev pub control : List ℕ → ℕ → ℕ → ℕ → ℕ → ℕ
control s k v S p = byte_at s (control_at k v S p)

-- whether slot i is occupied
abbrev pub occupied : List ℕ → ℕ → ℕ → ℕ → ℕ → Bool
occupied s k v S i = not (is_empty (control s k v S i))

-- a new book: entries 0, control bytes and mirrors 0xFF
unfoldable pub fresh_book : ℕ → ℕ → ℕ → ℕ → ℕ → List ℕ
fresh_book k v S count load = header k v S count load ++ replicate (S * (k + v)) 0 ++ replicate (S + 16) 0xff
