-- A test that fails is a row that applies, by the law `each_passed`; where all are passed none does, by `no_row_applies`. Assumes nothing.
use mathlib.Core.Path.{◌≡◌, sym, ap, ◌∙◌}
use mathlib.Core.Bool.{true, false, ◌||◌}
use Prim.Native.Nat.{◌≤◌}
use native.Mathlib.Omega.{arith}
use lib.Dec.{eqb}
use borrow.Author.Tests.{not-false, ne_eqb, eqb-true, eqb-false}
use Rattle.rules.specs.Bytes.{byte_at, le_bytes}
use Rattle.rules.specs.Layout.{are_sizes, is_slot_count, slot_count, total}
use Rattle.rules.proofs.TestLaws.{impossible}
use Rattle.rules.proofs.LayoutLaws.{sizes}
use Rattle.memory_layout.proofs.PassLaws.{neither, sizes_of, no_row_applies, each_passed}
use Rattle.memory_layout.proofs.header.passes.Goals as goal
use Rattle.memory_layout.proofs.header.passes.Goals.{Else-k-byte_not}

pub returns-then-k-byte_not : goal.returns-then-k-byte_not
returns-then-k-byte_not c n =
    let a = c.args in
    let t = each_passed a.book.now a.k a.v n in
    let z = ne_eqb a.k 0 (omega (arith, (sizes a.k a.v t.0).key_least)) in
    let f : false ≡ true = rw (z, c.byte_not.ensures, t.4, c.byte_not-2.ensures, t.5) at c.if-k-byte_not.true in
    impossible cc

-- the first test: a key size, and the sizes are the stated ones, and so bytes
stated : (c : Else-k-byte_not) → (1 ≤ c.args.k) × (eqb (byte_at c.args.book.now 5) c.args.k ≡ true)
    × (eqb (byte_at c.args.book.now 6) c.args.v ≡ true)
stated c =
    let a = c.args in
    let n = neither (eqb a.k 0 || c.byte_not.result) c.byte_not-2.result c.if-k-byte_not.false in
    let m = neither (eqb a.k 0) c.byte_not.result n.0 in
    let z = eqb-false a.k 0 m.0 in
    (omega (arith, z), not-false _ (sym c.byte_not.ensures ∙ m.1), not-false _ (sym c.byte_not-2.ensures ∙ n.1))

sized : (c : Else-k-byte_not) → are_sizes c.args.k c.args.v ≡ true
sized c =
    let a = c.args in
    let s = a.book.now in
    let byte = c.type_inv.book in
    sizes_of a.k a.v (stated c).0
    (omega (arith, eqb-true (byte_at s 5) a.k (stated c).1, byte 5))
    (omega (arith, eqb-true (byte_at s 6) a.v (stated c).2, byte 6))

pub returns-in_err-slots : goal.returns-in_err-slots
returns-in_err-slots c =
    rw c.from_residual.ensures (λ n. let t = each_passed c.args.book.now c.args.k c.args.v n in
    let f : false ≡ true = c.in_err-slots.ensures.known ∙ ap is_slot_count c.read_u64.ensures ∙ t.7 in
    impossible cc)

pub returns-then-word_not-byte_not : goal.returns-then-word_not-byte_not
unfolding le_bytes
returns-then-word_not-byte_not c n =
    let t = each_passed c.args.book.now c.args.k c.args.v n in
    let f : false ≡ true = rw (c.word_not.ensures, t.1, c.byte_not-3.ensures, t.3) at c.if-word_not-byte_not.true in
    impossible cc

pub returns-then-word_not-byte_not-2 : goal.returns-then-word_not-byte_not-2
unfolding le_bytes
returns-then-word_not-byte_not-2 c n =
    let t = each_passed c.args.book.now c.args.k c.args.v n in
    let f : false ≡ true = rw (c.word_not-2.ensures, t.2, c.byte_not-4.ensures, t.6) at c.if-word_not-byte_not-2.true in
    impossible cc

pub returns-then-is_whole : goal.returns-then-is_whole
unfolding le_bytes
returns-then-is_whole c =
    let a = c.args in
    let s = a.book.now in
    let at = (goal.at.returns-then-is_whole c).Else-k-byte_not in
    let slots = c.in_ok-slots.ensures in
    let count : c.in_ok-slots.slots.n ≡ slot_count s = slots.count ∙ c.read_u64.ensures in
    let tag = neither c.word_not.result c.byte_not-3.result c.if-word_not-byte_not.false in
    let last = neither c.word_not-2.result c.byte_not-4.result c.if-word_not-byte_not-2.false in (
      no_row_applies s a.k a.v (sized at) c.requires
          (not-false _ (sym c.word_not.ensures ∙ tag.0))
          (not-false _ (sym c.word_not-2.ensures ∙ last.0))
          (not-false _ (sym c.byte_not-3.ensures ∙ tag.1))
          (stated at).1
          (stated at).2
          (not-false _ (sym c.byte_not-4.ensures ∙ last.1))
          (rw c.read_u64.ensures at (sym slots.known))
          (c.if-is_whole.true ∙ c.total.ensures ∙ ap (total a.k a.v) count),
      count,
    )

pub returns-else-is_whole : goal.returns-else-is_whole
returns-else-is_whole c n =
    let a = c.args in
    let count : c.in_ok-slots.slots.n ≡ slot_count a.book.now = c.in_ok-slots.ensures.count ∙ c.read_u64.ensures in
    c.if-is_whole.false (eqb-true _ _ (each_passed a.book.now a.k a.v n).8 ∙ sym (c.total.ensures ∙ ap (total a.k a.v) count))
