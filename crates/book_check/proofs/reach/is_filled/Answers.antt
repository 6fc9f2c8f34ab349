-- The slots that are looked at are the first of the probe order.
use Rattle.std.proofs.Common.{rules, ℕ, true, false, refl, arith}
use Rattle.std.proofs.lemmas.Iterator.{YieldsList-from_range, cases_from_all}
use Rattle.rules.specs.Probe.{slot_at}
use Rattle.rules.specs.Check.{filled}
use Rattle.memory_layout.specs.TableParts.{occupied_in}
use Rattle.book_check.proofs.RangeLaws.{Says, each_by}
use Rattle.book_check.proofs.reach.is_filled.Goals as goal

pub returns : goal.returns
unfolding filled
returns c =
    let a = c.args in
    let t = a.table.now in
    let passes = λ (m : ℕ). occupied_in t (slot_at a.b t.slots.n m) in
    each_by passes a.n c.all.result (cases_from_all _ _ c.all.result (Says passes a.n true) (Says passes a.n false) c.all.ensures.ran (YieldsList-from_range 0 a.n a.n refl (omega arith)) (λ x q k. (search rules, λ l. search rules)) (λ x q k l. search rules))
