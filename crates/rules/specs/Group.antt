-- The group query, for a group of any width.
use Rattle.std.specs.Prelude.{ℕ, suc, Bool, true, false, ◌&&◌, ◌||◌, List, [], ◌∷◌, eqb, length}
use Rattle.std.proofs.Math.Option.{Option}
use Rattle.std.specs.Int.Bits.{bit_xor}
use Rattle.rules.specs.Bytes.{byte_at}
use Rattle.rules.specs.First.{numbers, first_of}
use Rattle.rules.specs.Layout.{is_empty}

-- a byte is reported if it is the tag t, or if it is t xor 1 and the position before was reported
unfoldable pub hit : ℕ → Bool → ℕ → Bool
hit t before b = eqb b t || (before && eqb b (bit_xor t 1))

-- for each position whether it is reported, where `before` says so of the one before the first
unfoldable pub reports_after : Bool → ℕ → List ℕ → List Bool
reports_after before t [] = []
reports_after before t (b ∷ bs) = hit t before b ∷ reports_after (hit t before b) t bs

-- the query: for each position of a group whether it is reported for the tag t
unfoldable pub reports : ℕ → List ℕ → List Bool
reports t group = reports_after false t group

-- the marked positions in rising order, the first being position i
unfoldable pub positions : ℕ → List Bool → List ℕ
positions i [] = []
positions i (true ∷ ms) = i ∷ positions (suc i) ms
positions i (false ∷ ms) = positions (suc i) ms

-- the lowest empty position
unfoldable pub first_empty : List ℕ → Option ℕ
first_empty group = first_of (λ m. is_empty (byte_at group m)) (numbers 0 (length group))
