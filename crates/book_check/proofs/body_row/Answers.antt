-- The rows go in the document's order, and the first that applies ends the look.
use mathlib.Core.Path.{◌≡◌, ◌∙◌}
use mathlib.Core.List.{List, ◌∷◌}
use mathlib.Core.Option.{Option, none, some}
use Rattle.std.proofs.lemmas.Result.{err_from_is_err_and}
use Rattle.rules.specs.First.{first_some}
use Rattle.rules.specs.Rows.{Refusal}
use Rattle.rules.specs.Check.{body_rows}
use Rattle.memory_layout.specs.Said.{said_row}
use Rattle.raw_slots.proofs.OpenedLaws.{one_row}
use Rattle.book_check.proofs.body_row.Goals as goal

here : (row : Option Refusal) (later : List (Option Refusal)) (r : Refusal) → some r ≡ row → some r ≡ first_some (row ∷ later)
unfolding first_some
here row later r e = λ i. first_some (e i ∷ later)

after : (row : Option Refusal) (later : List (Option Refusal)) (o : Option Refusal) → none ≡ row → o ≡ first_some later → o ≡ first_some (row ∷ later)
unfolding first_some
after row later o n e = e ∙ (λ i. first_some (n i ∷ later))

pub returns-in_err-slot_rows : goal.returns-in_err-slot_rows
unfolding body_rows said_row
returns-in_err-slot_rows c =
    let p = err_from_is_err_and c.from_residual.result c.from_residual.ensures.1 in
    rw (p.1, p.2) (here _ _ _ c.in_err-slot_rows.ensures)

pub returns-in_err-mirror_row : goal.returns-in_err-mirror_row
unfolding body_rows said_row
returns-in_err-mirror_row c =
    let p = err_from_is_err_and c.from_residual-in_err-mirror_row.result c.from_residual-in_err-mirror_row.ensures.1 in
    rw (p.1, p.2) (after _ _ _ c.in_ok-slot_rows.ensures (here _ _ _ c.in_err-mirror_row.ensures))

pub returns-in_err-twin_row : goal.returns-in_err-twin_row
unfolding body_rows said_row
returns-in_err-twin_row c =
    let p = err_from_is_err_and c.from_residual-in_err-twin_row.result c.from_residual-in_err-twin_row.ensures.1 in
    rw (p.1, p.2) (after _ _ _ c.in_ok-slot_rows.ensures (after _ _ _ c.in_ok-mirror_row.ensures (here _ _ _ c.in_err-twin_row.ensures)))

pub returns : goal.returns
unfolding body_rows said_row
returns c =
    after _ _ _ c.in_ok-slot_rows.ensures
    (after _ _ _ c.in_ok-mirror_row.ensures (after _ _ _ c.in_ok-twin_row.ensures (c.lost_row.ensures ∙ one_row _)))
