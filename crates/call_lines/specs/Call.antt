-- What a contract reads of a call.
use Rattle.std.specs.Prelude.{ℕ, ◌≤◌, ⊤, List, ◌∷◌, ◌++◌, length, codes}
use Rattle.std.specs.Fmt.{decimal}
use Rattle.call_lines.specs.Hex.{hex_text}
use Rattle.call_lines.specs.declared.call.Call.{Call}
use Rattle.call_lines.specs.declared.call.Call.TheVariants.{Book, More, Fill, Poke, Init, Open, Check, Find, Value, Insert, Next, Walk, Hash, Bytes, Sum}

-- the third byte string, where there is one, has at most n bytes
abbrev pub HasOldWithin : ℕ → Call → Type 0
HasOldWithin n (Insert k v key value old) = length old.now ≤ n
HasOldWithin n _ = ⊤

-- a number behind a space, and then the rest
abbrev pub number_then : ℕ → List ℕ → List ℕ
number_then n rest = 32 ∷ (decimal n ++ rest)

-- bytes behind a space, and then the rest
abbrev pub bytes_then : List ℕ → List ℕ → List ℕ
bytes_then bytes rest = 32 ∷ (hex_text bytes ++ rest)

-- the one line that is a call, and then the rest
abbrev pub line_of : Call → List ℕ → List ℕ
line_of (Book bytes) rest = codes "book" ++ bytes_then bytes.now rest
line_of (More bytes) rest = codes "more" ++ bytes_then bytes.now rest
line_of (Fill len byte) rest = codes "fill" ++ number_then len (number_then byte rest)
line_of (Poke at bytes) rest = codes "poke" ++ number_then at (bytes_then bytes.now rest)
line_of (Init k v slots items load) rest =
    codes "init" ++ number_then k (number_then v (number_then slots (number_then items (number_then load rest))))
line_of (Open k v) rest = codes "open" ++ number_then k (number_then v rest)
line_of (Check k v) rest = codes "check" ++ number_then k (number_then v rest)
line_of (Find k v key) rest = codes "find" ++ number_then k (number_then v (bytes_then key.now rest))
line_of (Value k v key) rest = codes "value" ++ number_then k (number_then v (bytes_then key.now rest))
line_of (Insert k v key value old) rest =
    codes "insert" ++ number_then k (number_then v (bytes_then key.now (bytes_then value.now (bytes_then old.now rest))))
line_of (Next k v from) rest = codes "next" ++ number_then k (number_then v (number_then from rest))
line_of (Walk k v steps) rest = codes "walk" ++ number_then k (number_then v (number_then steps rest))
line_of (Hash bytes) rest = codes "hash" ++ bytes_then bytes.now rest
line_of Bytes rest = codes "bytes" ++ rest
line_of Sum rest = codes "sum" ++ rest
