use mathlib.Core.Path.{◌≡◌}
use Prim.Native.Nat.{suc, ◌+◌, ◌-◌}
use native.Mathlib.Nat.{add-zero, sub-zero}
use native.Mathlib.Omega.{arith}
use lib.ListN.{length-set}
use Rattle.rules.specs.Bytes.{le_bytes}
use borrow.Author.Rules.{rules}
use Rattle.memory_layout.proofs.parts.put.Goals as goal

pub loop-i-init : goal.loop-i-init
loop-i-init c = (rw (add-zero c.args.at, sub-zero c.args.width), search rules, search rules)

pub loop-i-preserved : goal.loop-i-preserved
unfolding le_bytes
loop-i-preserved c =
    let l = c.loop-i in
    let a = c.args in
    let w : a.width - l.i ≡ suc (a.width - (l.i + 1)) = omega arith in
    let j : a.at + (l.i + 1) ≡ suc (a.at + l.i) = omega arith in
    (rw j (rw w at l.invariant.0), omega arith, simp length-set l.invariant.2)

pub returns : goal.returns
unfolding le_bytes
returns c =
    let l = c.loop-i in
    let z : c.args.width - l.i ≡ 0 = omega arith in
    rw z at l.invariant.0
