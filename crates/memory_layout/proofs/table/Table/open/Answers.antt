-- What `check_header` tells, with the bytes and the sizes that it was asked of. Assumes nothing.
use mathlib.Core.Path.{sym}
use Rattle.std.proofs.lemmas.Result.{err_from_is_err_and}
use Rattle.memory_layout.specs.Said.{said_header}
use Rattle.memory_layout.specs.TableParts.{said_table}
use Rattle.memory_layout.proofs.CheckedLaws.{checks}
use Rattle.memory_layout.proofs.table.Table.open.Goals as goal

pub returns-in_err-slots-clause-answered : goal.returns-in_err-slots-clause-answered
unfolding said_header said_table
returns-in_err-slots-clause-answered c =
    let p = err_from_is_err_and c.from_residual.result c.from_residual.ensures.1 in
    rw (p.1, p.2) c.in_err-slots.ensures

pub invariant_of-sizes : goal.invariant_of-sizes
unfolding said_header
invariant_of-sizes c = record { in_range = (checks c.args.book.now c.args.k c.args.v _ (sym c.in_ok-slots.ensures)).passed.sizes }

pub invariant_of-result : goal.invariant_of-result
unfolding said_header
invariant_of-result c = record { long = (checks c.args.book.now c.args.k c.args.v _ (sym c.in_ok-slots.ensures)).passed.long }

pub returns-clause-answered : goal.returns-clause-answered
unfolding said_header said_table
returns-clause-answered c = c.in_ok-slots.ensures
