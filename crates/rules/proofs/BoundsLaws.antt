-- At most one proof says that a number is a slot count, so that a type can keep it. Assumes nothing.
use mathlib.Core.Path.{◌≡◌, sym, ◌∙◌, subst}
use mathlib.Core.Logic.{dite}
use Prim.Native.Nat.{ℕ, suc, ◌*◌, ◌^◌, ◌≤◌}
use native.Mathlib.Nat.{ℕ_set}
use native.Mathlib.Bridge.{le_prop}
use native.Mathlib.Decide.{dec_lt}
use native.Mathlib.Omega.{arith}
use lib.Pow.{pow_mono, pow_pos}
use Rattle.rules.specs.Bounds.{Sizes, Slots}

pub sizes_prop : (k v : ℕ) → IsProp (Sizes k v)
sizes_prop k v a b =
    λ i. record { key_least = le_prop a.key_least b.key_least i; key_most = le_prop a.key_most b.key_most i; value_most = le_prop a.value_most b.value_most i }

same_log : (a b : ℕ) → 2 ^ a * 16 ≡ 2 ^ b * 16 → a ≡ b
same_log a b e =
    dite (dec_lt a b) (λ h. let l : suc a ≤ b = omega arith in absurd (omega (arith, pow_mono l, pow_pos a)))
    (λ g. dite (dec_lt b a) (λ h. let l : suc b ≤ a = omega arith in absurd (omega (arith, pow_mono l, pow_pos b))) (λ h. omega arith))

pub slots_prop : (S : ℕ) → IsProp (Slots S)
slots_prop S a b =
    subst (λ (x : ℕ). (is : S ≡ 2 ^ x * 16) (least : 16 ≤ S) (most : S ≤ 2 ^ 20) → a ≡ record { log = x; is = is; least = least; most = most })
    (same_log a.log b.log (sym a.is ∙ b.is))
    (λ is least most i. record { log = a.log; is = ℕ_set S (2 ^ a.log * 16) a.is is i; least = le_prop a.least least i; most = le_prop a.most most i })
    b.is b.least b.most
