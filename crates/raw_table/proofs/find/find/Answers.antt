-- The opening decides whether a row applies, and the search the rest. Assumes nothing.
use mathlib.Core.Path.{◌≡◌, sym, ap, ◌∙◌}
use Rattle.std.proofs.lemmas.Result.{err_from_is_err_and}
use Rattle.rules.specs.Calls.{find_says, find_answer}
use Rattle.rules.proofs.CallLaws.{find_header, find_length, find_passes, find_refused, find_answer_says}
use Rattle.memory_layout.specs.Said.{said_refusal}
use Rattle.memory_layout.specs.TableParts.{said_table}
use Rattle.memory_layout.proofs.CheckedLaws.{fails}
use Rattle.raw_table.specs.declared.search.Spot.{Spot}
use Rattle.raw_table.specs.Said.{said_spot}
use Rattle.raw_table.proofs.OpenLaws.{opened, ends}
use Rattle.raw_table.proofs.find.find.Goals as goal
use Rattle.raw_table.proofs.find.find.Goals.{After-search}

pub returns-in_err-table : goal.returns-in_err-table
unfolding said_table
returns-in_err-table c =
    let a = c.args in
    let p = err_from_is_err_and c.from_residual.result c.from_residual.ensures.1 in
    rw (p.1, p.2)
    (sym (find_refused a.book.now a.k a.v a.key.now _ (find_header a.book.now a.k a.v a.key.now _ (fails a.book.now a.k a.v _ (sym c.in_err-table.ensures.answered)))))

pub returns-then-key-k : goal.returns-then-key-k
unfolding said_table said_refusal
returns-then-key-k c =
    let a = c.args in
    let o = opened a.book a.k a.v c.in_ok-table.table c.in_ok-table.ensures.answered c.in_ok-table.ensures.opened in
    sym (find_refused a.book.now a.k a.v a.key.now _ (find_length a.book.now a.k a.v a.key.now o.rows c.if-key-k.true))

-- no row applies, so find says what the search tells
told : (c : After-search)
    → find_answer c.args.book.now c.args.k c.args.v c.args.key.now
    ≡ find_says (said_spot c.search.result)
unfolding said_table
told c =
    let a = c.args in
    let t = c.in_ok-table.ensures in
    let o = opened a.book a.k a.v c.in_ok-table.table t.answered t.opened in
    find_answer_says a.book.now a.k a.v a.key.now (find_passes a.book.now a.k a.v a.key.now o.rows c.if-key-k.false)
    ∙ ap find_says (ends a.book a.k a.v c.in_ok-table.table t.answered t.opened a.key.now c.search.result c.search.ensures)

pub returns-in-Same : goal.returns-in-Same
unfolding find_says
returns-in-Same c = sym (told (goal.at.returns-in-Same c).After-search ∙ ap (λ (s : Spot). find_says (said_spot s)) c.in-Same.is)

pub returns-in-Free : goal.returns-in-Free
unfolding find_says
returns-in-Free c = sym (told (goal.at.returns-in-Free c).After-search ∙ ap (λ (s : Spot). find_says (said_spot s)) c.in-Free.is)

pub returns-in-Full : goal.returns-in-Full
unfolding find_says
returns-in-Full c = sym (told (goal.at.returns-in-Full c).After-search ∙ ap (λ (s : Spot). find_says (said_spot s)) c.in-Full.is)
