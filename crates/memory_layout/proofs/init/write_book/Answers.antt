-- The header and then the two filled parts are a fresh book, by the law `two_parts`. Assumes nothing.
use mathlib.Core.Path.{◌≡◌, refl, sym, ap, ◌∙◌}
use mathlib.Core.List.{List, ◌++◌}
use Prim.Native.Nat.{ℕ, ◌+◌, ◌*◌, ◌-◌}
use native.Mathlib.Omega.{arith}
use lib.ListN.{length, replicate, drop, length-replicate}
use Rattle.rules.specs.Bytes.{le_bytes}
use Rattle.rules.specs.Layout.{header, fresh_book}
use Rattle.memory_layout.proofs.PartLaws.{over, two_parts}
use Rattle.memory_layout.proofs.init.write_book.Goals as goal

header_long : (k v S count load : ℕ) → length (header k v S count load) ≡ 32
unfolding header le_bytes
header_long k v S count load = refl

pub returns : goal.returns
unfolding fresh_book
returns c =
    let m = c.control_offset-control.result.0 in
    let a = c.args in
    let f = c.fill.new.part in
    let g = c.fill-2.new.part in
    let n₁ : m - 32 ≡ a.slots.n * (a.sizes.k + a.sizes.v) = omega arith in
    let n₂ : m + a.slots.n + 16 - m ≡ a.slots.n + 16 = omega arith in
    let e₁ : f ≡ replicate (a.slots.n * (a.sizes.k + a.sizes.v)) 0 = c.fill.ensures ∙ ap (λ (n : ℕ). replicate n 0) (sym c.fill-arg-1.given.1 ∙ n₁) in
    let e₂ : g ≡ replicate (a.slots.n + 16) 255 = c.fill-2.ensures ∙ ap (λ (n : ℕ). replicate n 255) (sym c.fill-arg-2-1.given.1 ∙ n₂) in
    let l : length f ≡ m - 32 = ap length e₁ ∙ length-replicate (a.slots.n * (a.sizes.k + a.sizes.v)) 0 ∙ sym n₁ in
    let e₀ : c.put_header.new.book ≡ header a.sizes.k a.sizes.v a.slots.n a.items a.load ++ drop 32 a.book.now = c.put_header.ensures in
    ap (λ (b : List ℕ). over (over b 32 m f) m (m + a.slots.n + 16) g) e₀
    ∙ two_parts a.book.now (header a.sizes.k a.sizes.v a.slots.n a.items a.load) f g 32 m (m + a.slots.n + 16)
    (header_long a.sizes.k a.sizes.v a.slots.n a.items a.load) l (omega arith) (omega arith) (omega arith)
    ∙ rw (e₁, e₂)
