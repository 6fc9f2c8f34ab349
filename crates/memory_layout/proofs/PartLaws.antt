-- Parts of a list, lent one after the other and written: from the front the list becomes what was written. Assumes nothing.
use mathlib.Core.Path.{◌≡◌, ap, ◌∙◌}
use mathlib.Core.List.{List, ◌++◌, append_assoc, append-nil}
use Prim.Native.Nat.{ℕ, ◌+◌, ◌-◌, ◌≤◌}
use native.Mathlib.Omega.{arith}
use lib.ListN.{length, take, drop, length-append, drop_of_length-le}
use lib.Seq.{take_at, drop_at, drop-drop}

-- the list when its part from a to e comes back as ys
abbrev pub over : List ℕ → ℕ → ℕ → List ℕ → List ℕ
over xs a e ys = take a xs ++ (ys ++ drop (e - a) (drop a xs))

module _ (xs : List ℕ) where
  pub next_part : (p ys : List ℕ) (a e : ℕ) → length p ≡ a → a ≤ e → over (p ++ drop a xs) a e ys ≡ (p ++ ys) ++ drop e xs
  next_part p ys a e l h =
      let s : a + (e - a) ≡ e = omega arith in
      rw (take_at p (drop a xs) a l, drop_at p (drop a xs) a l, drop-drop, s, append_assoc)

  -- two parts after p, the second to the end
  pub two_parts : (p ys zs : List ℕ) (a m e : ℕ) → length p ≡ a → length ys ≡ m - a → a ≤ m → m ≤ e → length xs ≡ e
      → over (over (p ++ drop a xs) a m ys) m e zs ≡ (p ++ ys) ++ zs
  two_parts p ys zs a m e lp ly h g n =
      let l : length (p ++ ys) ≡ m = simp length-append (omega arith) in
      let d : length xs ≤ e = omega arith in
      ap (λ (x : List ℕ). over x m e zs) (next_part p ys a m lp h)
      ∙ next_part (p ++ ys) zs m e l g
      ∙ rw (drop_of_length-le xs d, append-nil)
