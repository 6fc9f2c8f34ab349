use mathlib.Core.Path.{refl, sym, ap₂, ◌∙◌}
use Prim.Native.Nat.{◌+◌, ◌-◌}
use native.Mathlib.Omega.{arith}
use lib.Dec.{eqb}
use lib.ListN.{length}
use Rattle.rules.proofs.BytesLaws.{Bytes, same_lengths, word_differs, word_same, word_last}
use Rattle.raw_table.proofs.search.equals.Goals as goal
use Rattle.raw_table.proofs.search.equals.Goals.{At-loop-i, else-loop-i-test, then-loop-i-test+else-read_u64+else-last-i-gt8}

ours : (c : At-loop-i) → Bytes c.args.a.now
ours c i = omega (arith, c.type_inv.a i)

theirs : (c : At-loop-i) → Bytes c.args.b.now
theirs c i = omega (arith, c.type_inv.b i)

pub returns-then-a-b : goal.returns-then-a-b
returns-then-a-b c = let a = c.args in sym (same_lengths a.a.now a.b.now c.if-a-b.true)

-- one word is the whole
pub returns-then-a-eq8 : goal.returns-then-a-eq8
returns-then-a-eq8 c =
    let a = c.args in
    ap₂ eqb c.read_u64.ensures c.read_u64-then-a-eq8.ensures
    ∙ word_last 8 0 a.a.now a.b.now (omega arith) (omega arith) (λ i. omega (arith, c.type_inv.a i)) (λ i. omega (arith, c.type_inv.b i)) 0 (omega arith) refl (omega arith)

pub loop-i-init : goal.loop-i-init
loop-i-init c = refl

pub read_u64-requires-in-loop-i : goal.read_u64-requires-in-loop-i
read_u64-requires-in-loop-i c = omega arith

pub read_u64-requires-in-loop-i-2 : goal.read_u64-requires-in-loop-i-2
read_u64-requires-in-loop-i-2 c = omega arith

pub returns-then-read_u64 : goal.returns-then-read_u64
returns-then-read_u64 c =
    let a = c.args in
    sym (word_differs 8 c.loop-i.i a.a.now a.b.now (λ e. c.if-read_u64.true (c.read_u64-in-loop-i.ensures ∙ e ∙ sym c.read_u64-in-loop-i-2.ensures)))

pub loop-i-preserved : goal.loop-i-preserved
loop-i-preserved c =
    let a = c.args in
    word_same 8 c.loop-i.i a.a.now a.b.now (omega arith) (omega arith) (ours (goal.at.loop-i-preserved c).At-loop-i) (theirs (goal.at.loop-i-preserved c).At-loop-i) c.loop-i.invariant
    (sym c.read_u64-in-loop-i.ensures ∙ c.if-read_u64.false ∙ c.read_u64-in-loop-i-2.ensures)

pub read_u64-requires-2 : goal.read_u64-requires-2
read_u64-requires-2 c = omega arith

pub read_u64-requires-3 : goal.read_u64-requires-3
read_u64-requires-3 c = omega arith

pub returns : goal.returns
returns c =
    let a = c.args in
    let at = (goal.at.returns c).At-loop-i in
    let last = word_last 8 (length a.a.now - 8) a.a.now a.b.now (omega arith) (omega arith) (ours at) (theirs at) in
    ap₂ eqb c.read_u64-2.ensures c.read_u64-3.ensures
    ∙ elim c.loop-i-test.branch [
      | else-loop-i-test w ↦ last c.loop-i.i w.loop-i-test.false c.loop-i.invariant (omega arith)
      | then-loop-i-test+else-read_u64+else-last-i-gt8 w ↦
          let i = c.loop-i.i in
          let read = sym w.read_u64-in-loop-i.ensures ∙ w.if-read_u64.false ∙ w.read_u64-in-loop-i-2.ensures in
          last (i + 8) (omega arith) (word_same 8 i a.a.now a.b.now (omega arith) (omega arith) (ours at) (theirs at) c.loop-i.invariant read) (omega arith)
    ]
