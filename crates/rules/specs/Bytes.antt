-- Lists of bytes: a part, the number that bytes stand for, equality. Each over any width.
use Rattle.std.specs.Prelude.{ℕ, zero, suc, ◌+◌, ◌*◌, ◌/◌, ◌%◌, Bool, true, false, ◌&&◌, List, [], ◌∷◌, eqb, get_or, take, drop}

-- the byte at a place
abbrev pub byte_at : List ℕ → ℕ → ℕ
byte_at s at = get_or s at 0

-- n bytes from a place on
abbrev pub part : ℕ → ℕ → List ℕ → List ℕ
part n at s = take n (drop at s)

-- the number that bytes stand for, least byte first
unfoldable pub le : List ℕ → ℕ
le [] = 0
le (b ∷ bs) = le bs * 256 + b

-- the w lowest bytes of a number, least byte first
unfoldable pub le_bytes : ℕ → ℕ → List ℕ
le_bytes zero n = []
le_bytes (suc w) n = n % 256 ∷ le_bytes w (n / 256)

-- whether two lists have the same bytes
unfoldable pub same_bytes : List ℕ → List ℕ → Bool
same_bytes [] [] = true
same_bytes [] (y ∷ ys) = false
same_bytes (x ∷ xs) [] = false
same_bytes (x ∷ xs) (y ∷ ys) = eqb x y && same_bytes xs ys
