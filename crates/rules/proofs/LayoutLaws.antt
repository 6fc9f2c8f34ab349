-- A slot count is 16 doubled some times, its mask is a remainder, a test of one mask tells it, and every offset of a book fits, with slack up to 2^20 slots.
-- Assumes nothing.
use mathlib.Core.Path.{◌≡◌, refl, sym, ap, ◌∙◌}
use mathlib.Core.Logic.{dite}
use mathlib.Core.Bool.{Bool, true, false, not, ◌&&◌}
use Prim.Native.Nat.{ℕ, zero, suc, ◌+◌, ◌-◌, ◌*◌, ◌/◌, ◌%◌, ◌^◌, ◌≤◌, ◌<◌}
use native.Mathlib.Nat.{add-zero, mod_self, mul-le-mul, mul-le-mul_right}
use native.Mathlib.Decide.{ℕ_discrete, dec_lt}
use native.Mathlib.Omega.{arith}
use borrow.Author.Tests.{leb-true, leb-false, le-leb, lt-leb, eqb-true, eq-eqb, ne_eqb, not-true}
use lib.Bits.{bit_and, and_step, and_self, and_mask}
use lib.Dec.{eqb, leb}
use lib.Pow.{pow-add, pow_mono, pow_pos}
use Rattle.rules.specs.Layout.{slot_limit, are_sizes, is_power, is_slot_count, entry_at, control_at, total, is_empty}
use Rattle.rules.specs.Bounds.{Sizes, Slots}
use Rattle.rules.proofs.TestLaws.{impossible, both}

-- the one place that knows the limit: it is at most 2^20
pub limit_slack : slot_limit ≤ 2 ^ 20
unfolding slot_limit
limit_slack = omega arith

power_of : (n S : ℕ) → is_power n S ≡ true → (e : ℕ) × (S ≡ 2 ^ e)
unfolding is_power
power_of zero S t = impossible cc
power_of (suc n) S t = go (eqb S (2 ^ n)) refl (power_of n S)
  where
    go : (q : Bool) → eqb S (2 ^ n) ≡ q → (is_power n S ≡ true → (e : ℕ) × (S ≡ 2 ^ e)) → (e : ℕ) × (S ≡ 2 ^ e)
    go true f rest = (n, eqb-true S (2 ^ n) f)
    go false f rest = rest (rw f at t)

is_power_of_two : (n e : ℕ) → e < n → is_power n (2 ^ e) ≡ true
unfolding is_power
is_power_of_two zero e h = absurd (omega arith)
is_power_of_two (suc n) e h = go (eqb (2 ^ e) (2 ^ n)) refl (is_power_of_two n e)
  where
    go : (q : Bool) → eqb (2 ^ e) (2 ^ n) ≡ q → (e < n → is_power n (2 ^ e) ≡ true) → is_power (suc n) (2 ^ e) ≡ true
    go true f rest = rw f
    go false f rest =
        dite (ℕ_discrete e n) (λ q. let z : true ≡ false = sym (eq-eqb (2 ^ e) (2 ^ n) (ap (λ (x : ℕ). 2 ^ x) q)) ∙ f in cc)
        (λ d. rw f (rest (omega arith)))

doubled : (S e : ℕ) → 16 ≤ S → S ≡ 2 ^ e → (m : ℕ) × (S ≡ 2 ^ m * 16)
doubled S e l p =
    dite (dec_lt e 4) (λ h. let j : e ≤ 3 = omega arith in absurd (omega (arith, pow_mono j)))
    (λ h. let j : e ≡ e - 4 + 4 = omega arith in (e - 4, p ∙ ap (λ (x : ℕ). 2 ^ x) j ∙ pow-add 2 (e - 4) 4))

pub slots : (S : ℕ) → is_slot_count S ≡ true → Slots S
unfolding is_slot_count
slots S t =
    let a = both (is_power 64 S && leb 16 S) (leb S slot_limit) t in
    let b = both (is_power 64 S) (leb 16 S) a.0 in
    let e = power_of 64 S b.0 in
    let d = doubled S e.0 (leb-true 16 S b.1) e.1 in
    record { log = d.0; is = d.1; least = leb-true 16 S b.1; most = omega (arith, limit_slack, leb-true S slot_limit a.1) }

-- and each such number up to the limit is one
pub is_slots : (m : ℕ) → m < 60 → 2 ^ m * 16 ≤ slot_limit → is_slot_count (2 ^ m * 16) ≡ true
unfolding is_slot_count
is_slots m h l =
    let p : is_power 64 (2 ^ m * 16) ≡ true = rw (← (pow-add 2 m 4)) (is_power_of_two 64 (m + 4) (omega arith)) in
    rw (p, le-leb 16 (2 ^ m * 16) (omega (arith, pow_pos m)), le-leb (2 ^ m * 16) slot_limit l)

-- x & (S - 1) is x % S
pub mask_mod : (S : ℕ) → Slots S → (x : ℕ) → bit_and x (S - 1) ≡ x % S
mask_mod S s x =
    let e : S ≡ 2 ^ (s.log + 4) = s.is ∙ sym (pow-add 2 s.log 4) in
    rw e (and_mask x (s.log + 4))

-- ---- a power of two has one binary digit, which S & (S - 1) takes away

odd : (x : ℕ) → x % 2 ≡ 1 → bit_and x (x - 1) ≡ x / 2 * 2
odd x o =
    let q : (x - 1) / 2 ≡ x / 2 = omega arith in
    let r : (x - 1) % 2 ≡ 0 = omega arith in
    and_step x (x - 1) ∙ rw (q, r, o, and_self (x / 2), add-zero)

even : (x : ℕ) → 0 < x → x % 2 ≡ 0 → bit_and x (x - 1) ≡ bit_and (x / 2) (x / 2 - 1) * 2
even x p z =
    let q : (x - 1) / 2 ≡ x / 2 - 1 = omega arith in
    let r : (x - 1) % 2 ≡ 1 = omega arith in
    and_step x (x - 1) ∙ rw (q, r, z, add-zero)

one_digit : (n x : ℕ) → 0 < x → x < 2 ^ n → bit_and x (x - 1) ≡ 0 → (e : ℕ) × (e < n) × (x ≡ 2 ^ e)
one_digit zero x p h z = absurd (omega arith)
one_digit (suc n) x p h z =
    dite (ℕ_discrete (x % 2) 1) (λ o. (0, omega arith, omega (arith, odd x o)))
    (λ o. let f : x % 2 ≡ 0 = omega arith in
    let r = one_digit n (x / 2) (omega arith) (omega arith) (omega (arith, even x p f)) in
    (suc r.0, omega (arith, r.1), omega (arith, r.2)))

digit_off : (S e : ℕ) → S ≡ 2 ^ e → bit_and S (S - 1) ≡ 0
digit_off S e p = rw p (and_mask (2 ^ e) e ∙ mod_self (2 ^ e))

power_test : (n S : ℕ) → 0 < S → S < 2 ^ n → eqb (bit_and S (S - 1)) 0 ≡ is_power n S
power_test n S p h =
    dite (ℕ_discrete (bit_and S (S - 1)) 0)
    (λ z. let d = one_digit n S p h z in eq-eqb (bit_and S (S - 1)) 0 z ∙ sym (ap (is_power n) d.2 ∙ is_power_of_two n d.0 d.1))
    (λ f. ne_eqb (bit_and S (S - 1)) 0 f ∙ sym (go (is_power n S) refl f))
  where
    go : (q : Bool) → is_power n S ≡ q → (bit_and S (S - 1) ≡ 0 → ⊥) → is_power n S ≡ false
    go true t f = let e = power_of n S t in absurd (f (digit_off S e.0 e.1))
    go false t f = t

and_true : (p : Bool) → p ≡ p && true
and_true true = refl
and_true false = refl

and_false : (p : Bool) → p && false ≡ false
and_false true = refl
and_false false = refl

-- how a program tells a slot count
pub count_test : (S : ℕ) → 16 ≤ S → S < 2 ^ 64 → eqb (bit_and S (S - 1)) 0 && leb S slot_limit ≡ is_slot_count S
unfolding is_slot_count
count_test S l h =
    let p : eqb (bit_and S (S - 1)) 0 ≡ is_power 64 S && leb 16 S =
    power_test 64 S (omega arith) h ∙ and_true (is_power 64 S) ∙ ap (λ (t : Bool). is_power 64 S && t) (sym (le-leb 16 S l)) in
    ap (λ (t : Bool). t && leb S slot_limit) p

pub count_least : (S : ℕ) → S < 16 → is_slot_count S ≡ false
unfolding is_slot_count
count_least S h = rw (lt-leb 16 S h, and_false (is_power 64 S))

-- ---- sums

pub sizes : (k v : ℕ) → are_sizes k v ≡ true → Sizes k v
unfolding are_sizes
sizes k v t =
    let a = both (leb 1 k && leb k 255) (leb v 255) t in
    let b = both (leb 1 k) (leb k 255) a.0 in
    record { key_least = leb-true 1 k b.0; key_most = leb-true k 255 b.1; value_most = leb-true v 255 a.1 }

pub entries_fit : (k v n : ℕ) → Sizes k v → n ≤ 2 ^ 20 → n * (k + v) ≤ 2 ^ 20 * 510
entries_fit k v n size l = let h : k + v ≤ 510 = omega (arith, size.key_most, size.value_most) in mul-le-mul l h

module _ (k v S : ℕ) (size : Sizes k v) (count : Slots S) where
  pub span_fits : S * (k + v) ≤ 2 ^ 20 * 510
  span_fits = entries_fit k v S size count.most

  pub total_fits : total k v S < 2 ^ 29
  total_fits = omega (arith, span_fits, count.most)

  -- an entry ends before the control bytes
  pub entry_fits : (i : ℕ) → i < S → entry_at k v i + (k + v) ≤ control_at k v S 0
  entry_fits i h = let e : (i + 1) * (k + v) ≤ S * (k + v) = mul-le-mul_right (k + v) (omega arith) in omega arith

  -- n control positions from a slot on end with the book, up to 16 of them
  pub group_fits : (p n : ℕ) → p < S → n ≤ 16 → control_at k v S p + n < total k v S
  group_fits p n h l = omega arith

-- ---- a control byte is a tag exactly below 128

pub tag_low : (c : ℕ) → not (is_empty c) ≡ true → c < 128
tag_low c e = leb-false 128 c (not-true (is_empty c) e)

pub low_tag : (c : ℕ) → c < 128 → not (is_empty c) ≡ true
low_tag c h = rw (lt-leb 128 c h)
