-- The last two numbers of `tally_value` tell a part of the book, and that part is the value. Assumes nothing.
use mathlib.Core.Path.{◌≡◌, refl, sym, ap, ◌∙◌}
use mathlib.Core.List.{List, []}
use Prim.Native.Nat.{ℕ, zero, suc, ◌+◌, ◌≤◌}
use native.Mathlib.Omega.{arith}
use lib.ListN.{length, get_or}
use Rattle.rules.specs.Bytes.{part}
use Rattle.rules.specs.Layout.{slot_count, value_at, value_of}
use Rattle.rules.specs.Calls.{Answer, refused, fine, at_slot, absent, new, replaced, next, done, find_answer, value_part}
use Rattle.rules.proofs.TestLaws.{impossible}
use Rattle.rules.proofs.RowLaws.{inside}
use Rattle.rules.proofs.CallLaws.{at_passed, value_at_slot, value_empty}
use Rattle.exports.specs.Numbers.{numbers, offset_of, value_numbers}

abbrev pub offset : List ℕ → ℕ
offset n = get_or n 6 0

abbrev pub size : List ℕ → ℕ
size n = get_or n 7 0

module _ (s : List ℕ) (k v : ℕ) (key : List ℕ) where
  -- the numbers tell a part that lies in the book, and it is the value
  abbrev pub Tells : Answer → Type 0
  Tells a =
      let n = value_numbers k v a in
      (part (size n) (offset n) s ≡ value_part s k v key) × (offset n + size n ≤ length s)

  from_offset : (w i : ℕ) → part w (offset_of k w i) s ≡ part w (value_at k w i) s
  unfolding offset_of
  from_offset zero i = refl
  from_offset (suc w) i = refl

  at_most : (w i : ℕ) → offset_of k w i ≤ value_at k w i
  unfolding offset_of
  at_most zero i = omega arith
  at_most (suc w) i = omega arith

  nothing : ((i n : ℕ) → find_answer s k v key ≡ at_slot i n → ⊥) → ([] ≡ value_part s k v key) × (0 ≤ length s)
  nothing h = (sym (value_empty s k v key h), omega arith)

  tells : (a : Answer) → find_answer s k v key ≡ a → Tells a
  unfolding numbers value_numbers
  tells (at_slot i n) e =
      let p = at_passed s k v key i n e in
      (from_offset v i ∙ sym (value_at_slot s k v key i n e), omega (arith, at_most v i, (inside s k v (slot_count s) i p.0 p.1).0))
  tells (refused r) e = nothing (λ i n f. let z = sym e ∙ f in impossible cc)
  tells fine e = nothing (λ i n f. let z = sym e ∙ f in impossible cc)
  tells (absent m) e = nothing (λ i n f. let z = sym e ∙ f in impossible cc)
  tells (new j m) e = nothing (λ i n f. let z = sym e ∙ f in impossible cc)
  tells (replaced j m) e = nothing (λ i n f. let z = sym e ∙ f in impossible cc)
  tells (next j c) e = nothing (λ i n f. let z = sym e ∙ f in impossible cc)
  tells done e = nothing (λ i n f. let z = sym e ∙ f in impossible cc)

  pub value_told : Tells (find_answer s k v key)
  value_told = tells (find_answer s k v key) refl
