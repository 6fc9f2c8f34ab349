-- The header's rows decide, or else rows 11 and 12 of the ten lowest slots.
use mathlib.Core.Path.{◌∙◌}
use mathlib.Core.List.{[], ◌∷◌}
use Rattle.std.proofs.lemmas.Result.{err_from_is_err_and}
use Rattle.rules.specs.Rows.{slot_rows}
use Rattle.rules.specs.Calls.{open_answer}
use Rattle.memory_layout.specs.Said.{said_done}
use Rattle.memory_layout.specs.TableParts.{said_table}
use Rattle.raw_slots.proofs.OpenedLaws.{not_opened, later_rows, one_row}
use Rattle.raw_slots.proofs.open.open.Goals as goal

pub returns-in_err-table : goal.returns-in_err-table
unfolding said_done said_table open_answer
returns-in_err-table c =
    let a = c.args in
    let p = err_from_is_err_and c.from_residual.result c.from_residual.ensures.1 in
    rw (p.1, p.2) (not_opened a.book a.k a.v _ _ c.in_err-table.ensures.answered)

pub returns : goal.returns
unfolding said_table open_answer
returns c =
    let a = c.args in
    let e = c.in_ok-table.ensures in
    later_rows a.book a.k a.v c.in_ok-table.table e.answered e.opened c.slot_rows.result (λ s k v n. slot_rows s k v n 10 ∷ [])
    (c.slot_rows.ensures ∙ one_row _)
