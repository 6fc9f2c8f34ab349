-- The hash taken chunk by chunk from a place on, once over the width of a chunk; a tag never means empty. Assumes nothing.
use mathlib.Core.Path.{◌≡◌, ap, ◌∙◌}
use mathlib.Core.List.{List, [], ◌∷◌}
use Prim.Native.Nat.{ℕ, suc, ◌+◌, ◌-◌, ◌/◌, ◌%◌, ◌^◌, ◌≤◌, ◌<◌}
use native.Mathlib.Omega.{arith}
use borrow.Author.Tests.{le-leb, lt-leb}
use lib.ListN.{length, drop, length-drop, drop_of_length-le}
use lib.Seq.{drop-drop}
use Rattle.rules.specs.Bytes.{le, part}
use Rattle.rules.specs.Hash.{mixed, chunks, eights, hash_of, tag_of}

module _ (w : ℕ) (ws : List ℕ) (h i : ℕ) (s : List ℕ) where
  -- w bytes remain from i on: the chunk goes in
  pub once_taken : i + w ≤ length s → chunks (w ∷ ws) h (drop i s) ≡ chunks ws (mixed h (le (part w i s))) (drop (i + w) s)
  unfolding chunks
  once_taken f =
      let t : w ≤ length (drop i s) = simp length-drop (omega arith) in
      simp (le-leb w (length (drop i s)) t, drop-drop)

  -- fewer remain: nothing goes in
  pub once_left : i ≤ length s → length s < i + w → chunks (w ∷ ws) h (drop i s) ≡ chunks ws h (drop i s)
  unfolding chunks
  once_left b f =
      let t : length (drop i s) < w = simp length-drop (omega arith) in
      simp (lt-leb w (length (drop i s)) t)

module _ (h i : ℕ) (s : List ℕ) where
  pub eight_taken : i + 8 ≤ length s
      → eights ((length s - i) / 8) h (drop i s) ≡ eights ((length s - (i + 8)) / 8) (mixed h (le (part 8 i s))) (drop (i + 8) s)
  unfolding eights
  eight_taken f =
      let e : (length s - i) / 8 ≡ suc ((length s - (i + 8)) / 8) = omega arith in
      ap (λ (n : ℕ). eights n h (drop i s)) e
      ∙ ap (λ (l : List ℕ). eights ((length s - (i + 8)) / 8) (mixed h (le (part 8 i s))) l) (drop-drop 8 i s)

  pub eight_left : length s < i + 8 → eights ((length s - i) / 8) h (drop i s) ≡ chunks (4 ∷ 2 ∷ 1 ∷ []) h (drop i s)
  unfolding eights
  eight_left f =
      let e : (length s - i) / 8 ≡ 0 = omega arith in
      ap (λ (n : ℕ). eights n h (drop i s)) e

-- no byte remains
none_left : (h i : ℕ) (s : List ℕ) → length s ≤ i → chunks (4 ∷ 2 ∷ 1 ∷ []) h (drop i s) ≡ h
unfolding chunks
none_left h i s f = rw (drop_of_length-le s f)

-- the hash of a key of each length that has a function of its own
module _ (s : List ℕ) where
  pub hash_of_8 : length s ≡ 8 → hash_of s ≡ mixed 0 (le (part 8 0 s)) % 2 ^ 32
  unfolding hash_of eights
  hash_of_8 e = rw e (ap (λ (n : ℕ). n % 2 ^ 32) (none_left _ 8 s (omega arith)))

-- a tag has seven bits
pub tag_lt : (key : List ℕ) → tag_of key < 128
unfolding hash_of
tag_lt key = omega arith
