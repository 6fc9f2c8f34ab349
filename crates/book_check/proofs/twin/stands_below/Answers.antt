-- Each slot below is looked at.
use Rattle.std.proofs.Common.{rules, true, false, refl, arith}
use Rattle.std.proofs.lemmas.Iterator.{YieldsList-from_range, cases_from_any}
use Rattle.memory_layout.specs.TableParts.{in_table}
use Rattle.book_check.specs.Quick.{stands_in}
use Rattle.book_check.proofs.RangeLaws.{Says, some_by}
use Rattle.book_check.proofs.twin.stands_below.Goals as goal

pub returns : goal.returns
returns c =
    let t = c.args.table.now in
    let i = c.args.slot.0 in
    some_by (in_table t stands_in i) i c.any.result (cases_from_any _ _ c.any.result (Says (in_table t stands_in i) i true) (Says (in_table t stands_in i) i false) c.any.ensures.ran (YieldsList-from_range 0 i i refl (omega arith)) (λ x q k l. search rules) (λ x q k. (search rules, λ l. search rules)))
