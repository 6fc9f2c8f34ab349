-- The header's rows decide, or else the first occupied slot from `from` on.
use mathlib.Core.Path.{sym, ◌∙◌}
use Prim.Native.Nat.{◌-◌}
use Rattle.std.proofs.lemmas.Result.{err_from_is_err_and}
use Rattle.rules.specs.First.{numbers, first_of}
use Rattle.rules.specs.Layout.{occupied}
use Rattle.rules.specs.Calls.{by_rows, next_says, next_answer}
use Rattle.memory_layout.specs.TableParts.{said_table}
use Rattle.memory_layout.proofs.CheckedLaws.{fails}
use Rattle.raw_slots.specs.SaidIter.{said_next}
use Rattle.raw_slots.proofs.OpenedLaws.{of_book, no_rows}
use Rattle.raw_slots.proofs.iter.next_occupied.Goals as goal

pub returns-in_err-table : goal.returns-in_err-table
unfolding said_next said_table next_answer by_rows
returns-in_err-table c =
    let a = c.args in
    let p = err_from_is_err_and c.from_residual.result c.from_residual.ensures.1 in
    rw (p.1, p.2, fails a.book.now a.k a.v _ (sym c.in_err-table.ensures.answered))

pub returns : goal.returns
unfolding said_next said_table next_answer by_rows
returns c =
    let a = c.args in
    let t = c.in_ok-table.table in
    let e = c.in_ok-table.ensures in
    rw (no_rows a.book a.k a.v t e.answered e.opened)
    (c.occupied_from.ensures ∙ of_book a.book a.k a.v t e.answered e.opened (λ s k v n. next_says s k v n (first_of (occupied s k v n) (numbers a.from (n - a.from)))))
