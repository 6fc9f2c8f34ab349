-- The closed form of the probe's state: where it starts, what a step makes of it, and that no sum of a step wraps. Assumes nothing.
use mathlib.Core.Path.{◌≡◌, refl, sym, ap, ap₂, ◌∙◌}
use Prim.Native.Nat.{ℕ, suc, ◌+◌, ◌*◌, ◌/◌, ◌%◌, ◌^◌, ◌≤◌, ◌<◌}
use native.Mathlib.Nat.{add-zero, mod-mod, mul-le-mul}
use native.Mathlib.Omega.{arith}
use Rattle.rules.specs.Bounds.{Slots}
use Rattle.rules.specs.Probe.{pair_start, group_start}
use Rattle.rules.proofs.ProbeLaws.{start_lt}
use Rattle.raw_table.specs.declared.probe.ProbeSeq.{ProbeSeq}
use Rattle.raw_table.specs.Seq.{seq_at}

-- the halves of a pair are 8 apart
group_eight : (b S j : ℕ) → group_start 8 b S j ≡ (pair_start b (j / 2) + 8 * (j % 2)) % S
unfolding group_start
group_eight b S j = ap₂ (λ (q m : ℕ). (pair_start b q + m) % S) (omega arith) (omega arith)

-- the state of these four numbers is the one before group j
module _ (b S j : ℕ) (index base chunk stride : ℕ)
    (i≡ : index ≡ (base + chunk) % S) (b≡ : base ≡ pair_start b (j / 2)) (c≡ : chunk ≡ 8 * (j % 2)) (s≡ : stride ≡ 16 * (j / 2)) where
  pub state : record { index = index; base = base; chunk = chunk; stride = stride } ≡ seq_at b S j
  unfolding seq_at
  state =
      let g : index ≡ group_start 8 b S j = i≡ ∙ ap₂ (λ (x y : ℕ). (x + y) % S) b≡ c≡ ∙ sym (group_eight b S j) in
      λ x. record { index = g x; base = b≡ x; chunk = c≡ x; stride = s≡ x }

pub seq_start : (h S i : ℕ) → i ≡ h % S → record { index = i; base = i; chunk = 0; stride = 0 } ≡ seq_at (h % S) S 0
seq_start h S i e = state (h % S) S 0 i i 0 0 (e ∙ sym (mod-mod h S) ∙ ap (λ (x : ℕ). x % S) (sym e ∙ sym (add-zero i))) (omega arith) refl refl

module _ (b S j : ℕ) (p : ProbeSeq) (e : p ≡ seq_at b S j) where
  base_is : p.base ≡ pair_start b (j / 2)
  unfolding seq_at
  base_is = ap (λ (q : ProbeSeq). q.base) e

  chunk_is : p.chunk ≡ 8 * (j % 2)
  unfolding seq_at
  chunk_is = ap (λ (q : ProbeSeq). q.chunk) e

  stride_is : p.stride ≡ 16 * (j / 2)
  unfolding seq_at
  stride_is = ap (λ (q : ProbeSeq). q.stride) e

  -- it stands at the group's start
  pub seq_stands : Slots S → (p.index ≡ group_start 8 b S j) × (p.index < S)
  unfolding seq_at
  seq_stands s =
      let i : p.index ≡ group_start 8 b S j = ap (λ (q : ProbeSeq). q.index) e in
      (i, omega (arith, i, start_lt 8 b S j (omega (arith, s.least))))

  -- what a step asks for: none of its sums wraps while fewer than S / 8 groups were examined
  pub seq_room : Slots S → b < S → j < S / 8 → (p.base ≤ 2 ^ 40) × (p.chunk ≤ 8) × (p.stride ≤ 2 ^ 40)
  seq_room s h l =
      let m = s.most in
      let k : j / 2 ≤ 2 ^ 16 = omega arith in
      let k' : j / 2 + 1 ≤ 2 ^ 17 = omega arith in
      let w : j / 2 * (j / 2 + 1) ≤ 2 ^ 16 * 2 ^ 17 = mul-le-mul k k' in
      (omega (arith, base_is), omega (arith, chunk_is), omega (arith, stride_is))

  module _ (i : ℕ) where
    -- after the second half of a pair comes the next pair
    pub next_pair : p.chunk + 8 ≡ 16 → i ≡ (p.base + (p.stride + 16)) % S
        → record { index = i; base = p.base + (p.stride + 16); chunk = 0; stride = p.stride + 16 } ≡ seq_at b S (suc j)
    next_pair t f =
        let q : suc j / 2 ≡ j / 2 + 1 = omega (arith, chunk_is) in
        let r : 0 ≡ 8 * (suc j % 2) = omega (arith, chunk_is) in
        let d : pair_start b (j / 2) + (16 * (j / 2) + 16) ≡ pair_start b (j / 2 + 1) = omega arith in
        state b S (suc j) i (p.base + (p.stride + 16)) 0 (p.stride + 16)
        (f ∙ ap (λ (x : ℕ). x % S) (sym (add-zero (p.base + (p.stride + 16)))))
        (ap₂ (λ (x y : ℕ). x + (y + 16)) base_is stride_is ∙ d ∙ ap (pair_start b) (sym q))
        r
        (omega (arith, stride_is))

    -- after the first half comes the second
    pub next_half : (p.chunk + 8 ≡ 16 → ⊥) → i ≡ (p.base + (p.chunk + 8)) % S
        → record { index = i; base = p.base; chunk = p.chunk + 8; stride = p.stride } ≡ seq_at b S (suc j)
    next_half n f =
        let z : j % 2 ≡ 0 = omega (arith, chunk_is, n) in
        let q : suc j / 2 ≡ j / 2 = omega arith in
        let r : p.chunk + 8 ≡ 8 * (suc j % 2) = omega (arith, chunk_is) in
        state b S (suc j) i p.base (p.chunk + 8) p.stride f (base_is ∙ ap (pair_start b) (sym q)) r (stride_is ∙ ap (λ (x : ℕ). 16 * x) (sym q))
