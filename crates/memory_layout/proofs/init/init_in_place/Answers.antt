-- Each refusal by the test that led there, before anything is written; past them no row applies. Assumes nothing.
use mathlib.Core.Path.{◌≡◌, sym, ap, ◌∙◌}
use mathlib.Core.Bool.{true, false}
use mathlib.Core.Option.{none}
use Rattle.std.proofs.lemmas.Result.{err_from_is_err_and}
use Rattle.std.specs.Option.{is_some}
use Rattle.std.specs.Prelude.{Ok}
use Rattle.memory_layout.specs.declared.kinds.SlotCount.{SlotCount}
use Rattle.rules.specs.First.{first_some}
use Rattle.rules.specs.Layout.{are_sizes}
use Rattle.rules.specs.Rows.{init_rows}
use Rattle.rules.specs.Calls.{init_answer, init_book, by_rows}
use Rattle.rules.proofs.RowLaws.{first_if, init_passed}
use Rattle.memory_layout.specs.Checked.{size_rows}
use Rattle.memory_layout.specs.Said.{said_done, said_row, said_refusal}
use Rattle.memory_layout.proofs.TryLaws.{given, lacking}
use Rattle.memory_layout.proofs.init.init_in_place.Goals as goal
use Rattle.memory_layout.proofs.init.init_in_place.Goals.{After-sized}

pub returns-in_err-sizes : goal.returns-in_err-sizes
unfolding said_done said_refusal init_answer init_book by_rows init_rows
returns-in_err-sizes c =
    let a = c.args in
    let l = lacking _ _ _ _ c.ok_or.ensures.value c.in_err-sizes.was in
    let p = err_from_is_err_and c.from_residual.result c.from_residual.ensures.1 in
    let no : are_sizes a.k a.v ≡ false = sym c.new.ensures.known ∙ ap is_some l.0 in
    record { answered = rw (p.1, p.2, l.1) (simp (first_if, no)); book_after = simp (first_if, no) }

stated : (c : After-sized) → (c.in_ok-sizes.sizes.k ≡ c.args.k) × (c.in_ok-sizes.sizes.v ≡ c.args.v)
stated c = let e = given _ _ _ _ c.ok_or.ensures.value c.in_ok-sizes.was in rw e at c.new.ensures.sizes

-- past row 1 the rows of the buffer's length decide
later : (c : After-sized) → said_row c.sized.result ≡ first_some (init_rows c.args.book.now c.args.k c.args.v c.args.slots)
unfolding init_rows size_rows
later c =
    let yes : are_sizes c.args.k c.args.v ≡ true = sym c.new.ensures.known ∙ ap is_some (given _ _ _ _ c.ok_or.ensures.value c.in_ok-sizes.was) in
    c.sized.ensures.row ∙ rw ((stated c).0, (stated c).1) (sym (simp (first_if, yes)))

pub returns-in_err-slots : goal.returns-in_err-slots
unfolding said_done said_row init_answer init_book by_rows
returns-in_err-slots c =
    let p = err_from_is_err_and c.from_residual-in_err-slots.result c.from_residual-in_err-slots.ensures.1 in
    let e = ap said_row (sym c.in_err-slots.was) ∙ later (goal.at.returns-in_err-slots c).After-sized in
    record { answered = rw (p.1, p.2, ← e); book_after = rw (← e) }

passed : (c : After-sized) → (slots : SlotCount) → c.sized.result ≡ Ok slots → first_some (init_rows c.args.book.now c.args.k c.args.v c.args.slots) ≡ none
unfolding said_row
passed c slots e = sym (later c) ∙ ap said_row e

pub write_book-requires : goal.write_book-requires
write_book-requires c =
    let a = c.args in
    let at = (goal.at.write_book-requires c).After-sized in
    rw ((stated at).0, (stated at).1, c.in_ok-slots.ensures.count)
    (init_passed a.book.now a.k a.v a.slots (passed at c.in_ok-slots.slots c.in_ok-slots.was)).long

pub returns : goal.returns
unfolding said_done init_answer init_book by_rows
returns c =
    let at = (goal.at.returns c).After-sized in
    let e = passed at c.in_ok-slots.slots c.in_ok-slots.was in
    record { answered = rw e; book_after = rw (e, c.write_book.ensures, (stated at).0, (stated at).1, c.in_ok-slots.ensures.count) }
