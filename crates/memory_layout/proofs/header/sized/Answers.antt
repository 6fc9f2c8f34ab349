-- Each return by the tests that led there. Assumes nothing.
use mathlib.Core.Path.{◌≡◌, sym, ap, ◌∙◌}
use mathlib.Core.Bool.{true, false}
use lib.Dec.{eqb}
use borrow.Author.Tests.{eq-eqb, ne_eqb}
use Rattle.std.proofs.lemmas.Result.{err_from_is_err_and}
use Rattle.std.specs.Option.{is_some}
use Rattle.rules.specs.First.{first_some}
use Rattle.rules.specs.Layout.{is_slot_count, total}
use Rattle.rules.proofs.RowLaws.{first_if}
use Rattle.memory_layout.specs.Checked.{size_rows}
use Rattle.memory_layout.specs.Said.{said_row, said_refusal}
use Rattle.memory_layout.proofs.TryLaws.{given, lacking}
use Rattle.memory_layout.proofs.header.sized.Goals as goal
use Rattle.memory_layout.proofs.header.sized.Goals.{After-total}

pub returns-in_err-slots-clause-row : goal.returns-in_err-slots-clause-row
unfolding size_rows said_row said_refusal
returns-in_err-slots-clause-row c =
    let l = lacking _ _ _ _ c.ok_or.ensures.value c.in_err-slots.was in
    let p = err_from_is_err_and c.from_residual.result c.from_residual.ensures.1 in
    let no : is_slot_count c.args.n ≡ false = sym c.new.ensures.known ∙ ap is_some l.0 in
    rw (p.1, p.2, l.1) (simp (first_if, no))

counted : (c : After-total) → is_slot_count c.args.n ≡ true
counted c = sym c.new.ensures.known ∙ ap is_some (given _ _ _ _ c.ok_or.ensures.value c.in_ok-slots.was)

stated : (c : After-total) → c.in_ok-slots.slots.n ≡ c.args.n
stated c = let e = given _ _ _ _ c.ok_or.ensures.value c.in_ok-slots.was in rw e at c.new.ensures.count

pub returns-then-len-total-clause-row : goal.returns-then-len-total-clause-row
unfolding size_rows said_row said_refusal
returns-then-len-total-clause-row c =
    let a = c.args in
    let at = (goal.at.returns-then-len-total-clause-row c).After-total in
    let no : eqb a.len (total a.sizes.k a.sizes.v a.n) ≡ false = ne_eqb _ _ (λ h. c.if-len-total.true (h ∙ rw (← (stated at)) (sym c.total.ensures))) in
    simp (first_if, counted at, no)

pub returns-clause-row : goal.returns-clause-row
unfolding size_rows said_row first_some
returns-clause-row c =
    let a = c.args in
    let at = (goal.at.returns-clause-row c).After-total in
    let same : eqb a.len (total a.sizes.k a.sizes.v a.n) ≡ true = eq-eqb _ _ (c.if-len-total.false ∙ rw (← (stated at)) c.total.ensures) in
    simp (first_if, counted at, same)
