-- Rows 1 and 2 by the tests that led there; past them the later rows decide. Assumes nothing.
use mathlib.Core.Path.{◌≡◌, sym, ap, ◌∙◌}
use mathlib.Core.Bool.{true, false}
use lib.ListN.{length}
use borrow.Author.Tests.{lt-ltb, le-ltb}
use Rattle.std.proofs.lemmas.Result.{err_from_is_err_and}
use Rattle.std.specs.Option.{is_some}
use Rattle.rules.specs.Layout.{are_sizes}
use Rattle.rules.specs.Rows.{header_rows}
use Rattle.rules.proofs.RowLaws.{first_if}
use Rattle.memory_layout.specs.Said.{said_row, said_refusal}
use Rattle.memory_layout.proofs.TryLaws.{given, lacking}
use Rattle.memory_layout.proofs.header.first_row.Goals as goal

pub returns-in_err-sizes : goal.returns-in_err-sizes
unfolding header_rows said_row said_refusal
returns-in_err-sizes c =
    let a = c.args in
    let l = lacking _ _ _ _ c.ok_or.ensures.value c.in_err-sizes.was in
    let p = err_from_is_err_and c.from_residual.result c.from_residual.ensures.1 in
    let no : are_sizes a.k a.v ≡ false = sym c.new.ensures.known ∙ ap is_some l.0 in
    rw (p.1, p.2, l.1) (simp (first_if, no))

pub returns-then-is_short : goal.returns-then-is_short
unfolding header_rows said_row said_refusal
returns-then-is_short c =
    let s = c.args.book.now in
    let sized : are_sizes c.args.k c.args.v ≡ true = sym c.new.ensures.known ∙ ap is_some (given _ _ _ _ c.ok_or.ensures.value c.in_ok-sizes.was) in
    simp (first_if, sized, lt-ltb (length s) 32 c.if-is_short.true)

pub returns : goal.returns
unfolding header_rows
returns c =
    let s = c.args.book.now in
    let e = given _ _ _ _ c.ok_or.ensures.value c.in_ok-sizes.was in
    let sized : are_sizes c.args.k c.args.v ≡ true = sym c.new.ensures.known ∙ ap is_some e in
    let stated : (c.in_ok-sizes.sizes.k ≡ c.args.k) × (c.in_ok-sizes.sizes.v ≡ c.args.v) = rw e at c.new.ensures.sizes in
    c.stated.ensures ∙ rw (stated.0, stated.1) (sym (simp (first_if, sized, le-ltb (length s) 32 c.if-is_short.false)))
