-- What the library's searches find, in the rules' words. Assumes nothing.
use mathlib.Core.Path.{◌≡◌, refl, sym, ap, ◌∙◌}
use mathlib.Core.Bool.{Bool, true, false, ◌&&◌}
use mathlib.Core.List.{List, [], ◌∷◌, map}
use Prim.Native.Nat.{ℕ, ◌+◌, ◌-◌, ◌≤◌, ◌<◌}
use native.Mathlib.Omega.{arith}
use lib.ListN.{length, get_or}
use Rattle.std.specs.Prelude.{Option, Some, None}
use Rattle.std.specs.Option.{MatchOption, IfSome}
use Rattle.std.specs.List.{range_with_len, list_all, AllWithin, HoldsAt}
use Rattle.std.proofs.lemmas.List.FromFn.{get_or-map-range_with_len, length-map-range_with_len}
use Rattle.memory_layout.specs.declared.kinds.Slot.{Slot}
use Rattle.rules.specs.First.{numbers, first_of, each_of}
use Rattle.rules.proofs.FirstLaws.{fails_none, lowest_some}
use Rattle.raw_slots.specs.SaidSlot.{slot, said_slot}

pub each_of_list : (test : ℕ → Bool) (xs : List ℕ) → list_all test xs ≡ each_of test xs
unfolding each_of
each_of_list test [] = refl
each_of_list test (x ∷ xs) = ap (λ (b : Bool). test x && b) (each_of_list test xs)

-- ---- the lowest slot of a range that passes a test
module _ (from end : ℕ) where
  abbrev pub slots : List Slot
  slots = map slot (range_with_len from (end - from))

  pub long : length slots ≡ end - from
  long = length-map-range_with_len slot from (end - from)

  pub nth : (i : ℕ) (d : Slot) → i < end - from → get_or slots i d ≡ slot (from + i)
  nth i d l = get_or-map-range_with_len slot from (end - from) i (from + i) d l refl

  -- the first of which something is so
  abbrev pub First : (Bool → Slot → Type 0) → Option Slot → Type 0
  First Says r =
      MatchOption r (AllWithin (Says false) slots 0 (length slots)) (λ s. Says true s × (i : ℕ) × (i < length slots) × HoldsAt (λ t. t ≡ s) slots i × AllWithin (Says false) slots 0 i)

  place : (s : Slot) (i : ℕ) → i < length slots → HoldsAt (λ t. t ≡ s) slots i → (i < end - from) × (from + i ≡ s.0)
  place s i l h =
      let m : i < end - from = omega (arith, long) in
      (m, ap (λ (t : Slot). t.0) (sym (nth i s m) ∙ h s))

  pub within : (Says : Bool → Slot → Type 0) (r : Option Slot) → First Says r → IfSome r (λ s. s.0 < end)
  within Says (Some s) h = let p = place s h.1 h.2 h.3 in omega (arith, p.0, p.1)
  within Says None h = tt

module _ (passes : ℕ → Bool) (from end : ℕ) where
  -- what the test says of a slot of the range
  abbrev pub Says : Bool → Slot → Type 0
  Says b s = s.0 < end → passes s.0 ≡ b

  fails : (n : ℕ) → n ≤ end - from → AllWithin (Says false) (slots from end) 0 n → (m : ℕ) → from ≤ m → m < from + n → passes m ≡ false
  fails n b h m l u =
      let e : from + (m - from) ≡ m = omega arith in
      let s : get_or (slots from end) (m - from) (slot m) ≡ slot m = nth from end (m - from) (slot m) (omega arith) ∙ ap slot e in
      rw s at (h (m - from) (slot m) (omega arith) (omega arith)) (omega arith)

  pub first_slot : (r : Option Slot) → First from end Says r → said_slot r ≡ first_of passes (numbers from (end - from))
  unfolding said_slot
  first_slot (Some s) h =
      let p = place from end s h.1 h.2 h.3 in
      sym (lowest_some passes from (end - from) s.0 (record {
        above = omega (arith, p.1);
        below = omega (arith, p.0, p.1);
        passes = h.0 (omega (arith, p.0, p.1));
        least = λ m a b. fails h.1 (omega (arith, p.0)) h.4 m a (omega (arith, p.1));
      }))
  first_slot None h = sym (fails_none passes from (end - from) (fails (end - from) (omega arith) (rw (long from end) at h)))
