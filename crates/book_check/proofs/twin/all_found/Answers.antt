-- Each slot is looked at.
use Rattle.std.proofs.Common.{rules, true, false, refl, arith}
use Rattle.std.proofs.lemmas.Iterator.{YieldsList-from_range, cases_from_all}
use Rattle.memory_layout.specs.TableParts.{in_table}
use Rattle.book_check.specs.Quick.{found_own}
use Rattle.book_check.proofs.RangeLaws.{Says, each_by}
use Rattle.book_check.proofs.twin.all_found.Goals as goal

pub returns : goal.returns
returns c =
    let t = c.args.table.now in
    let n = t.slots.n in
    each_by (in_table t found_own) n c.all.result (cases_from_all _ _ c.all.result (Says (in_table t found_own) n true) (Says (in_table t found_own) n false) c.all.ensures.ran (YieldsList-from_range 0 n n refl (omega arith)) (λ x q k. (search rules, λ l. search rules)) (λ x q k l. search rules))
