-- The header's rows decide, or else those of the body.
use Rattle.std.proofs.lemmas.Result.{err_from_is_err_and}
use Rattle.rules.specs.Check.{body_rows, check_answer}
use Rattle.memory_layout.specs.Said.{said_done}
use Rattle.memory_layout.specs.TableParts.{said_table}
use Rattle.raw_slots.proofs.OpenedLaws.{not_opened, later_rows}
use Rattle.book_check.proofs.check_book.Goals as goal

pub returns-in_err-table : goal.returns-in_err-table
unfolding said_done said_table check_answer
returns-in_err-table c =
    let a = c.args in
    let p = err_from_is_err_and c.from_residual.result c.from_residual.ensures.1 in
    rw (p.1, p.2) (not_opened a.book a.k a.v _ _ c.in_err-table.ensures.answered)

pub returns : goal.returns
unfolding said_table check_answer
returns c =
    let a = c.args in
    let e = c.in_ok-table.ensures in
    later_rows a.book a.k a.v c.in_ok-table.table e.answered e.opened c.body_row.result body_rows c.body_row.ensures
