-- What is left to be written, over what is there now, makes the whole. Assumes nothing.
use mathlib.Core.Path.{refl, sym, ◌∙◌}
use native.Mathlib.Nat.{add-zero}
use native.Mathlib.Omega.{arith}
use lib.ListN.{length-set}
use Rattle.raw_table.proofs.WriteLaws.{sets_step, sets_end}
use Rattle.raw_table.proofs.insert.overwrite.Goals as goal

pub loop-i-init : goal.loop-i-init
loop-i-init c = (omega arith, refl, rw add-zero)

pub loop-i-preserved : goal.loop-i-preserved
loop-i-preserved c =
    let a = c.args in
    let l = c.loop-i in
    (omega arith, simp length-set l.invariant.1, l.invariant.2 ∙ sets_step l.dst a.at a.src.now l.i c.loop-i-test.true)

pub returns : goal.returns
returns c =
    let a = c.args in
    let l = c.loop-i in
    sym (l.invariant.2 ∙ sets_end l.dst a.at a.src.now l.i (omega arith))
