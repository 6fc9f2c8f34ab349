-- The hash of a key of any length, its tag and its start.
use Rattle.std.specs.Prelude.{ℕ, zero, suc, ◌+◌, ◌*◌, ◌%◌, ◌/◌, ◌^◌, cond, List, [], ◌∷◌, leb, length, take, drop}
use Rattle.std.specs.Int.Bits.{bit_xor}
use Rattle.rules.specs.Bytes.{le}

-- rotate left 5 in 64 bits
abbrev pub rotate5 : ℕ → ℕ
rotate5 h = h % 2 ^ 59 * 32 + h / 2 ^ 59

-- one chunk taken in: rotate, xor the chunk, multiply modulo 2^64
unfoldable pub mixed : ℕ → ℕ → ℕ
mixed h chunk = bit_xor (rotate5 h) chunk * 0x517cc1b727220a95 % 2 ^ 64

-- a chunk of each width in turn, where that many bytes remain
unfoldable pub chunks : List ℕ → ℕ → List ℕ → ℕ
chunks [] h bytes = h
chunks (w ∷ ws) h bytes =
    cond (leb w (length bytes)) (chunks ws (mixed h (le (take w bytes))) (drop w bytes)) (chunks ws h bytes)

-- n chunks of 8 bytes, then 4, 2 and 1
unfoldable pub eights : ℕ → ℕ → List ℕ → ℕ
eights zero h bytes = chunks (4 ∷ 2 ∷ 1 ∷ []) h bytes
eights (suc n) h bytes = eights n (mixed h (le (take 8 bytes))) (drop 8 bytes)

-- from 0, with 8 bytes while 8 remain; the hash is the low 32 bits
unfoldable pub hash_of : List ℕ → ℕ
hash_of bytes = eights (length bytes / 8) 0 bytes % 2 ^ 32

-- the tag that a hash gives
abbrev pub tag : ℕ → ℕ
tag h = h / 2 ^ 25

-- the tag of a key
abbrev pub tag_of : List ℕ → ℕ
tag_of key = tag (hash_of key)

-- where the search for a key starts among S slots
abbrev pub start_of : ℕ → List ℕ → ℕ
start_of S key = hash_of key % S
