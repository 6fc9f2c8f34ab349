-- A chunk taken off the front of what is left to hash, or none where too little is left. Assumes nothing.
use Rattle.std.proofs.Common.{◌≡◌, ℕ, suc, ◌+◌, ◌/◌, ◌<◌, List, [], ◌∷◌, length, take, drop, get_or, ap, ◌∙◌, ◌-◌, zero-add, arith}
use native.Mathlib.Numerals.{unary_clauses}
use lib.Seq.{length-take-le}
use Rattle.rules.specs.Bytes.{le}
use Rattle.rules.specs.Hash.{mixed, chunks, eights}
use Rattle.rules.proofs.BytesLaws.{part_one}
use Rattle.rules.proofs.HashLaws.{once_taken, once_left, eight_taken, eight_left}
use Rattle.fxhash.proofs.ReadLaws.{worth, worth_le}

-- w bytes and those after them
abbrev pub Off : ℕ → List ℕ → List ℕ → List ℕ → Type 0
Off w s chunk after = (chunk ≡ take w s) × (after ≡ drop w s) × (length after + w ≡ length s)

module _ (h : ℕ) (s : List ℕ) where
  -- what a chunk is worth is its number
  number : (n : ℕ) (chunk after : List ℕ) → Off (suc n) s chunk after → (x : ℕ) → x ≡ worth chunk n → x ≡ le (take (suc n) s)
  number n chunk after o x e =
      let l : length chunk ≡ suc n = rw o.0 (length-take-le (suc n) s (omega arith)) in
      e ∙ worth_le chunk n l ∙ ap le o.0

  pub eight_more : (chunk after : List ℕ) → Off 8 s chunk after → (x : ℕ) → x ≡ worth chunk 7 → (y : ℕ) → y ≡ mixed h x
      → eights (length s / 8) h s ≡ eights (length after / 8) y after
  eight_more chunk after o x e y f =
      let m : length s - 8 ≡ length after = omega arith in
      rw (f, number 7 chunk after o x e, ← m, o.1) (simp unary_clauses at (eight_taken h 0 s (omega arith)))

  pub eight_none : length s < 8 → eights (length s / 8) h s ≡ chunks (4 ∷ 2 ∷ 1 ∷ []) h s
  eight_none f = simp unary_clauses at (eight_left h 0 s (omega arith))

  pub once_more : (n : ℕ) (ws : List ℕ) (chunk after : List ℕ) → Off (suc n) s chunk after → (x : ℕ) → x ≡ worth chunk n → (y : ℕ) → y ≡ mixed h x
      → chunks (suc n ∷ ws) h s ≡ chunks ws y after
  once_more n ws chunk after o x e y f = rw (f, number n chunk after o x e, o.1) (simp zero-add at (once_taken (suc n) ws h 0 s (omega arith)))

  pub once_none : (w : ℕ) (ws : List ℕ) → length s < w → chunks (w ∷ ws) h s ≡ chunks ws h s
  once_none w ws f = once_left w ws h 0 s (omega arith) (omega arith)

  pub last_more : 0 < length s → (x : ℕ) → x ≡ get_or s 0 0 → (y : ℕ) → y ≡ mixed h x → chunks (1 ∷ []) h s ≡ y
  unfolding chunks
  last_more l x e y f = rw (f, e, ← part_one 0 s l) (once_taken 1 [] h 0 s (omega arith))

  pub last_none : length s < 1 → chunks (1 ∷ []) h s ≡ h
  unfolding chunks
  last_none f = once_none 1 [] f
