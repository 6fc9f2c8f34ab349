-- The probe order covers each slot exactly once: among S = 2^m * 16 slots the first S / w groups of w slots, w * c = 16, are one-to-one and onto.
-- Pairs start at 16 times a triangular number, and the numbers q and 2^(m+1) - 1 - q have triangular numbers that agree in m binary digits and
-- differ in the next: so by induction on m no residue comes twice, and each comes. Assumes nothing.
use mathlib.Core.Path.{◌≡◌, refl, sym, ap, ap₂, ◌∙◌}
use mathlib.Core.Logic.{◌⊎◌, inl, inr, ⊎_elim, dite}
use Prim.Native.Nat.{ℕ, zero, suc, ◌+◌, ◌-◌, ◌*◌, ◌/◌, ◌%◌, ◌^◌, ◌≤◌, ◌<◌}
use native.Mathlib.Nat.{mod-one, mod-lt, pow-suc, mul_comm, one-mul, add-mul-div_right, add-mul-mod_self_right, div-add-mod', zero-lt-suc, add-mod-mod, mod-add-mod, add_left_comm, mod-eq_of_lt, mul-le-mul_left, le-mul_of_pos_right, mul-div_cancel, div-lt_iff_lt-mul}
use native.Mathlib.Omega.{arith}
use native.Mathlib.Decide.{ℕ_discrete, dec_lt}
use lib.Arith.{mod-mul, digits_mod, digits_div}
use lib.Pow.{pow_pos}
use Rattle.rules.specs.Probe.{group_start, slot_of, slot_at}

-- the triangular numbers
tri : ℕ → ℕ
tri zero = zero
tri (suc q) = tri q + suc q

tri_two : (q : ℕ) → 2 * tri q ≡ q * (q + 1)
unfolding tri
tri_two zero = refl
tri_two (suc q) = omega (arith, tri_two q)

tri_add : (i d : ℕ) → tri (i + (2 * d + 1)) ≡ tri i + (2 * d + 1) * (i + d + 1)
tri_add i d = omega (arith, tri_two (i + (2 * d + 1)), tri_two i)

-- the lowest m digits and the next one of a number
split : (m n : ℕ) → n % 2 ^ suc m ≡ (n / 2 ^ m % 2) * 2 ^ m + n % 2 ^ m
split m n = rw (pow-suc, mul_comm (2 ^ m) 2) (mod-mul n (zero-lt-suc 1) (pow_pos m))

-- the triangular numbers of i and j have the same m digits, and the next ones differ
Flip : ℕ → ℕ → ℕ → Type 0
Flip m i j = (tri j % 2 ^ m ≡ tri i % 2 ^ m) × (tri j / 2 ^ m % 2 ≡ (tri i / 2 ^ m + 1) % 2)

flip : (m i : ℕ) → i < 2 ^ m → Flip m i (2 ^ suc m - 1 - i)
unfolding Flip
flip m i h =
    let d : ℕ = 2 ^ m - 1 - i in
    let j≡ : 2 ^ suc m - 1 - i ≡ i + (2 * d + 1) = omega arith in
    let w : i + d + 1 ≡ 2 ^ m = omega arith in
    let e : tri (2 ^ suc m - 1 - i) ≡ tri i + (2 * d + 1) * 2 ^ m = ap tri j≡ ∙ tri_add i d ∙ ap (λ (x : ℕ). tri i + (2 * d + 1) * x) w in (
      ap (λ (x : ℕ). x % 2 ^ m) e ∙ add-mul-mod_self_right (tri i) (2 * d + 1) (2 ^ m),
      omega (arith, ap (λ (x : ℕ). x / 2 ^ m) e ∙ add-mul-div_right (tri i) (2 * d + 1) (pow_pos m)),
    )

-- a triangular number below the 2^m-th has the residue t
Met : ℕ → ℕ → Type 0
Met m t = (q : ℕ) × (q < 2 ^ m) × (tri q % 2 ^ m ≡ t % 2 ^ m)

onto : (m t : ℕ) → Met m t
unfolding Flip Met
onto zero t = (0, zero-lt-suc 0, mod-one (tri 0) ∙ sym (mod-one t))
onto (suc m) t = pick (onto m t)
  where
    pick : Met m t → Met (suc m) t
    pick (q, h, e) =
        let same : (j : ℕ) → j < 2 ^ suc m → tri j % 2 ^ m ≡ t % 2 ^ m → tri j / 2 ^ m % 2 ≡ t / 2 ^ m % 2 → Met (suc m) t =
        λ j l low next. (j, l, split m (tri j) ∙ ap₂ (λ (x y : ℕ). x * 2 ^ m + y) next low ∙ sym (split m t)) in
        dite (ℕ_discrete (tri q / 2 ^ m % 2) (t / 2 ^ m % 2)) (λ d. same q (omega arith) e d)
        (λ d. same (2 ^ suc m - 1 - q) (omega arith) ((flip m q h).0 ∙ e) (omega (arith, (flip m q h).1)))

-- of i and its partner the lower one, and which of the two i is
Lower : ℕ → ℕ → Type 0
Lower m i =
    (l : ℕ) × (l < 2 ^ m) × (tri i % 2 ^ m ≡ tri l % 2 ^ m)
    × (((i ≡ l) × (tri i / 2 ^ m % 2 ≡ tri l / 2 ^ m % 2)) ⊎ ((i + l + 1 ≡ 2 ^ suc m) × (tri i / 2 ^ m % 2 ≡ (tri l / 2 ^ m + 1) % 2)))

lower : (m i : ℕ) → i < 2 ^ suc m → Lower m i
unfolding Lower Flip
lower m i h =
    dite (dec_lt i (2 ^ m)) (λ l. (i, l, refl, inl (refl, refl)))
    (λ n. let l : 2 ^ suc m - 1 - i < 2 ^ m = omega arith in
    let e : 2 ^ suc m - 1 - (2 ^ suc m - 1 - i) ≡ i = omega arith in
    let f : Flip m (2 ^ suc m - 1 - i) i = rw e at (flip m (2 ^ suc m - 1 - i) l) in
    (2 ^ suc m - 1 - i, l, f.0, inr (omega arith, f.1)))

-- the two parts of equal numbers in digits are equal
parts : (P x y r t : ℕ) → r < P → t < P → x * P + r ≡ y * P + t → (x ≡ y) × (r ≡ t)
parts P x y r t hr ht e = (
  sym (digits_div x hr) ∙ ap (λ (z : ℕ). z / P) e ∙ digits_div y ht,
  sym (digits_mod x hr) ∙ ap (λ (z : ℕ). z % P) e ∙ digits_mod y ht,
)

once : (m i j : ℕ) → i < 2 ^ m → j < 2 ^ m → tri i % 2 ^ m ≡ tri j % 2 ^ m → i ≡ j
unfolding Lower
once zero i j hi hj e = omega arith
once (suc m) i j hi hj e = halves (λ a b la lb. once m a b la lb) (lower m i hi) (lower m j hj)
  where
    halves : ((a b : ℕ) → a < 2 ^ m → b < 2 ^ m → tri a % 2 ^ m ≡ tri b % 2 ^ m → a ≡ b) → Lower m i → Lower m j → i ≡ j
    halves ih (a, la, ea, ca) (b, lb, eb, cb) =
        let d = parts (2 ^ m) (tri i / 2 ^ m % 2) (tri j / 2 ^ m % 2) (tri i % 2 ^ m) (tri j % 2 ^ m) (mod-lt (tri i) (pow_pos m)) (mod-lt (tri j) (pow_pos m)) (sym (split m (tri i)) ∙ e ∙ split m (tri j)) in
        let s : a ≡ b = ih a b la lb (sym ea ∙ d.1 ∙ eb) in
        let t : tri a / 2 ^ m ≡ tri b / 2 ^ m = ap (λ (x : ℕ). tri x / 2 ^ m) s in
        ⊎_elim (λ u. ⊎_elim (λ v. omega arith) (λ v. omega arith) cb) (λ u. ⊎_elim (λ v. omega arith) (λ v. omega arith) cb) ca

-- ---- a start b added mod S, and taken off again
back : (b S : ℕ) → 0 < S → (x : ℕ) → (S - b % S + (b + x)) % S ≡ x % S
back b S p x =
    ap (λ (y : ℕ). y % S) (omega (arith, div-add-mod' b S, mod-lt b p)) ∙ add-mul-mod_self_right x (b / S + 1) S

cancel : (b S : ℕ) → 0 < S → (x y : ℕ) → (b + x) % S ≡ (b + y) % S → x % S ≡ y % S
cancel b S p x y e =
    sym (back b S p x) ∙ sym (add-mod-mod (S - b % S) (b + x) S) ∙ ap (λ (z : ℕ). (S - b % S + z) % S) e ∙ add-mod-mod (S - b % S) (b + y) S ∙ back b S p y

reach : (b S s : ℕ) → s < S → (b + (S - b % S + s)) % S ≡ s
reach b S s h = ap (λ (y : ℕ). y % S) (add_left_comm b (S - b % S) s) ∙ back b S (omega arith) s ∙ mod-eq_of_lt h

-- ---- slot by slot

by_tri : (b S n : ℕ) → slot_at b S n ≡ (b + (tri (n / 16) * 16 + n % 16)) % S
unfolding group_start
by_tri b S n = rw one-mul (ap (λ (y : ℕ). y % S) (omega (arith, tri_two (n / 16))))

low : (m n : ℕ) → (tri (n / 16) * 16 + n % 16) % (2 ^ m * 16) ≡ (tri (n / 16) % 2 ^ m) * 16 + n % 16
low m n =
    mod-mul (tri (n / 16) * 16 + n % 16) (pow_pos m) (zero-lt-suc 15)
    ∙ ap₂ (λ (x y : ℕ). x % 2 ^ m * 16 + y) (digits_div (tri (n / 16)) (mod-lt n (zero-lt-suc 15))) (digits_mod (tri (n / 16)) (mod-lt n (zero-lt-suc 15)))

module _ (m b : ℕ) where
  pos : 0 < 2 ^ m * 16
  pos = omega (arith, pow_pos m)

  -- no slot comes twice
  pub slot_once : (n q : ℕ) → n < 2 ^ m * 16 → q < 2 ^ m * 16 → slot_at b (2 ^ m * 16) n ≡ slot_at b (2 ^ m * 16) q → n ≡ q
  slot_once n q hn hq e =
      let d : (tri (n / 16) % 2 ^ m) * 16 + n % 16 ≡ (tri (q / 16) % 2 ^ m) * 16 + q % 16 =
      sym (low m n) ∙ cancel b (2 ^ m * 16) pos _ _ (sym (by_tri b (2 ^ m * 16) n) ∙ e ∙ by_tri b (2 ^ m * 16) q) ∙ low m q in
      omega (arith, once m (n / 16) (q / 16) (omega arith) (omega arith) (omega arith))

  -- and each comes
  pub slot_onto : (s : ℕ) → s < 2 ^ m * 16 → (n : ℕ) × (n < 2 ^ m * 16) × (slot_at b (2 ^ m * 16) n ≡ s)
  unfolding Met
  slot_onto s h =
      let S : ℕ = 2 ^ m * 16 in
      let x : ℕ = S - b % S + s in
      let k : Met m (x / 16) = onto m (x / 16) in
      let n : ℕ = k.0 * 16 + x % 16 in
      let q : n / 16 ≡ k.0 = omega arith in
      let r : n % 16 ≡ x % 16 = omega arith in
      let same : (tri (n / 16) * 16 + n % 16) % S ≡ x % S =
      low m n ∙ ap₂ (λ (u v : ℕ). tri u % 2 ^ m * 16 + v) q r ∙ ap (λ (u : ℕ). u * 16 + x % 16) k.2
      ∙ sym (mod-mul x (pow_pos m) (zero-lt-suc 15)) in (
        n,
        omega (arith, k.1),
        by_tri b S n ∙ sym (add-mod-mod b (tri (n / 16) * 16 + n % 16) S) ∙ ap (λ (u : ℕ). (b + u) % S) same ∙ add-mod-mod b x S ∙ reach b S s h,
      )

pub start_lt : (w b S j : ℕ) → 0 < S → group_start w b S j < S
unfolding group_start
start_lt w b S j p = mod-lt _ p

-- ---- group by group, of w slots

-- the factors of 16 are not 0
left_pos : (x y : ℕ) → x * y ≡ 16 → 0 < x
left_pos zero y e = absurd (omega arith)
left_pos (suc x) y e = omega arith

module _ (w c : ℕ) (whole : w * c ≡ 16) where
  pub w_pos : 0 < w
  w_pos = left_pos w c whole

  c_pos : 0 < c
  c_pos = left_pos c w (mul_comm c w ∙ whole)

  pub w_most : w ≤ 16
  w_most = omega (arith, le-mul_of_pos_right w c_pos)

  -- position i of group j is the slot number w * j + i of the order
  pub slot_group : (b S j i : ℕ) → i < w → slot_at b S (w * j + i) ≡ slot_of S (group_start w b S j) i
  unfolding group_start
  slot_group b S j i h =
      let r : ℕ = j % c in
      let q : ℕ = j / c in
      let e : w * j ≡ q * 16 + w * r = omega (arith, ap (λ (x : ℕ). w * x) (div-add-mod' j c), ap (λ (x : ℕ). q * x) whole) in
      let l : w * suc r ≤ w * c = mul-le-mul_left w (mod-lt j c_pos) in
      let u : (1 * (w * j + i)) / 16 ≡ w * j / 16 = omega arith in
      let v : (1 * (w * j + i)) % 16 ≡ w * j % 16 + i = omega arith in
      ap₂ (λ (x y : ℕ). (b + 8 * (x * (x + 1)) + y) % S) u v
      ∙ ap (λ (y : ℕ). y % S) (omega arith)
      ∙ sym (mod-add-mod (b + 8 * (w * j / 16 * (w * j / 16 + 1)) + w * j % 16) S i)

  module _ (m b : ℕ) where
    -- the groups hold as many positions as there are slots
    pub groups : 2 ^ m * 16 / w * w ≡ 2 ^ m * 16
    groups =
        let e : 2 ^ m * 16 ≡ (2 ^ m * c) * w = omega (arith, ap (λ (x : ℕ). 2 ^ m * x) whole) in
        ap (λ (x : ℕ). x / w * w) e ∙ ap (λ (x : ℕ). x * w) (mul-div_cancel (2 ^ m * c) w_pos) ∙ sym e

    -- the positions of the first S / w groups are the first S of the order
    pub position_lt : (j i : ℕ) → j < 2 ^ m * 16 / w → i < w → w * j + i < 2 ^ m * 16
    position_lt j i hj hi = let l : w * suc j ≤ w * (2 ^ m * 16 / w) = mul-le-mul_left w hj in omega (arith, groups)

    -- of the first S / w groups no two positions stand for one slot
    pub group_once : (j i j' i' : ℕ) → j < 2 ^ m * 16 / w → i < w → j' < 2 ^ m * 16 / w → i' < w
        → slot_of (2 ^ m * 16) (group_start w b (2 ^ m * 16) j) i ≡ slot_of (2 ^ m * 16) (group_start w b (2 ^ m * 16) j') i' → (j ≡ j') × (i ≡ i')
    group_once j i j' i' hj hi hj' hi' e =
        let n : w * j + i ≡ w * j' + i' =
        slot_once m b (w * j + i) (w * j' + i') (position_lt j i hj hi) (position_lt j' i' hj' hi')
        (slot_group b (2 ^ m * 16) j i hi ∙ e ∙ sym (slot_group b (2 ^ m * 16) j' i' hi')) in
        parts w j j' i i' hi hi' (omega arith)

    -- and each slot has its position
    pub group_onto : (s : ℕ) → s < 2 ^ m * 16
        → (j : ℕ) × (i : ℕ) × (j < 2 ^ m * 16 / w) × (i < w) × (slot_of (2 ^ m * 16) (group_start w b (2 ^ m * 16) j) i ≡ s)
    group_onto s h =
        let n = slot_onto m b s h in
        let i : n.0 % w < w = mod-lt n.0 w_pos in
        let e : n.0 ≡ w * (n.0 / w) + n.0 % w = omega (arith, div-add-mod' n.0 w) in (
          n.0 / w,
          n.0 % w,
          (div-lt_iff_lt-mul w_pos).1 (rw groups n.1),
          i,
          sym (slot_group b (2 ^ m * 16) (n.0 / w) (n.0 % w) i) ∙ ap (slot_at b (2 ^ m * 16)) (sym e) ∙ n.2,
        )
