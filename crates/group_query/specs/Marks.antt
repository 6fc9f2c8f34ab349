-- How marks of positions stand in a word, for any width: bit 0x80 of byte m for position m.
use Rattle.std.specs.Prelude.{ℕ, ◌+◌, ◌*◌, Bool, true, false, List, [], ◌∷◌, Option, Some, None}
use mathlib.Core.Option as maybe
use Rattle.rules.specs.Layout.{is_empty}

-- 0x80 for a mark
abbrev pub bit : Bool → ℕ
bit true = 0x80
bit false = 0

-- marks as a word
unfoldable pub word : List Bool → ℕ
word [] = 0
word (m ∷ ms) = word ms * 256 + bit m

-- for each position of a group whether it is empty
unfoldable pub empties : List ℕ → List Bool
empties [] = []
empties (b ∷ bs) = is_empty b ∷ empties bs

-- all marks but the lowest
unfoldable pub others : List Bool → List Bool
others [] = []
others (true ∷ ms) = false ∷ ms
others (false ∷ ms) = false ∷ others ms

-- the position that an answer tells
abbrev pub said_first : Option ℕ → maybe.Option ℕ
said_first (Some m) = maybe.some m
said_first None = maybe.none
