-- The probe order said of a slot count S: it holds each slot once, and place x is position x % w of group x / w. Assumes nothing.
use mathlib.Core.Path.{◌≡◌, sym, ap, ◌∙◌}
use Prim.Native.Nat.{ℕ, suc, ◌+◌, ◌-◌, ◌*◌, ◌/◌, ◌%◌, ◌^◌, ◌≤◌, ◌<◌}
use native.Mathlib.Nat.{mod-lt, div-add-mod, div-lt_iff_lt-mul}
use native.Mathlib.Omega.{arith}
use Rattle.rules.specs.Bounds.{Slots}
use Rattle.rules.specs.Probe.{group_start, slot_of, slot_at}
use Rattle.rules.proofs.ProbeLaws.{slot_once, slot_onto, slot_group, group_once, groups, position_lt, w_pos}
use Rattle.promises.specs.Sound.{InGroup}

module _ (S b : ℕ) (slots : Slots S) where
  pub order_once : (n q : ℕ) → n < S → q < S → slot_at b S n ≡ slot_at b S q → n ≡ q
  order_once n q hn hq e = go S slots.is hn hq e
    where
      go : (T : ℕ) → T ≡ 2 ^ slots.log * 16 → n < T → q < T → slot_at b T n ≡ slot_at b T q → n ≡ q
      go T is a c f = slot_once slots.log b n q (rw is at a) (rw is at c) (rw is at f)

  pub order_onto : (i : ℕ) → i < S → (n : ℕ) × (n < S) × (slot_at b S n ≡ i)
  order_onto i h = go S slots.is h
    where
      go : (T : ℕ) → T ≡ 2 ^ slots.log * 16 → i < T → (n : ℕ) × (n < T) × (slot_at b T n ≡ i)
      go T is a = rw is (slot_onto slots.log b i (rw is at a))

  module _ (w c : ℕ) (whole : w * c ≡ 16) where
    pub place_lt : (j m : ℕ) → j < S / w → m < w → w * j + m < S
    place_lt j m hj hm = go S slots.is hj
      where
        go : (T : ℕ) → T ≡ 2 ^ slots.log * 16 → j < T / w → w * j + m < T
        go T is h = rw is (position_lt w c whole slots.log b j m (rw is at h) hm)

    -- the group of place x, and its position there
    pub within : (x : ℕ) → x % w < w
    within x = mod-lt x (w_pos w c whole)

    pub group_lt : (x : ℕ) → x < S → x / w < S / w
    group_lt x h = go S slots.is h
      where
        go : (T : ℕ) → T ≡ 2 ^ slots.log * 16 → x < T → x / w < T / w
        go T is u =
            let l : x < T / w * w = rw (is, groups w c whole slots.log b) (rw is at u) in
            (div-lt_iff_lt-mul (w_pos w c whole)).1 l

    pub at_place : (x : ℕ) → slot_of S (group_start w b S (x / w)) (x % w) ≡ slot_at b S x
    at_place x = sym (slot_group w c whole b S (x / w) (x % w) (within x)) ∙ ap (slot_at b S) (div-add-mod x w)

    -- no group comes before that of an earlier place
    pub group_most : (x j m : ℕ) → x ≤ w * j + m → m < w → x / w ≤ j
    group_most x j m h u =
        let l : x < suc j * w = omega arith in
        let r : x / w < suc j = (div-lt_iff_lt-mul (w_pos w c whole)).1 l in
        omega arith

    -- a slot is in one of the groups only
    pub one_group : (i n m : ℕ) → InGroup w b S i n → InGroup w b S i m → n ≡ m
    one_group i n m x y = go S slots.is x y
      where
        go : (T : ℕ) → T ≡ 2 ^ slots.log * 16 → InGroup w b T i n → InGroup w b T i m → n ≡ m
        go T is f h =
            let e = rw is at (f.place ∙ sym h.place) in
            let l : n - 1 < 2 ^ slots.log * 16 / w = rw is at (let u : n - 1 < T / w = omega (arith, f.least, f.most) in u) in
            let r : m - 1 < 2 ^ slots.log * 16 / w = rw is at (let u : m - 1 < T / w = omega (arith, h.least, h.most) in u) in
            let q = group_once w c whole slots.log b (n - 1) f.position (m - 1) h.position l f.within r h.within e in
            omega (arith, q.0, f.least, h.least)
