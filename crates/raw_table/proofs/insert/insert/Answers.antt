-- The opening and the lengths decide whether a row applies, and then the search which of the two writers runs. Assumes nothing.
use mathlib.Core.Path.{◌≡◌, sym, ap, ap₂, subst, ◌∙◌}
use mathlib.Core.List.{◌++◌}
use mathlib.Core.Bool.{true}
use mathlib.Core.Option.{none}
use Prim.Native.Nat.{ℕ, ◌<◌}
use native.Mathlib.Omega.{arith}
use borrow.Author.Tests.{not-true, not-false}
use lib.Dec.{eqb}
use lib.ListN.{length, take, drop}
use lib.Seq.{sets}
use Rattle.std.proofs.lemmas.Result.{err_from_is_err_and}
use Rattle.rules.specs.First.{first_some}
use Rattle.rules.specs.Layout.{slot_count, entry_at, value_at}
use Rattle.rules.specs.Hash.{tag_of}
use Rattle.rules.specs.Group.{reports}
use Rattle.rules.specs.Search as Rule
use Rattle.rules.specs.Search.{spot_of}
use Rattle.rules.specs.Calls.{insert_rows, insert_says, set_control, written, old_value}
use Rattle.rules.proofs.TestLaws.{nots}
use Rattle.rules.proofs.SearchLaws.{Below, spot_below}
use Rattle.rules.proofs.CallLaws.{Fits, lengths, insert_header, insert_length, insert_passes, insert_refused, insert_answer_says}
use Rattle.memory_layout.specs.Said.{said_refusal}
use Rattle.memory_layout.specs.TableParts.{said_table}
use Rattle.memory_layout.proofs.CheckedLaws.{Checks, fails}
use Rattle.raw_table.specs.Said.{said_spot}
use Rattle.raw_table.proofs.OpenLaws as laws
use Rattle.raw_table.proofs.insert.insert.Goals as goal
use Rattle.raw_table.proofs.insert.insert.Goals.{After-search, Else-key-k, In-Free, In-Same}

opened : (c : Else-key-k) → Checks c.args.book.now c.args.k c.args.v c.in_ok-table.table.slots.n
unfolding said_table
opened c = let t = c.in_ok-table in laws.opened _ c.args.k c.args.v t.table t.ensures.answered t.ensures.opened

right : (c : Else-key-k)
    → Fits c.args.book.now c.args.k c.args.v c.args.key.now c.args.value.now c.args.old.now ≡ true
right c =
    let a = c.args in
    not-false _ (sym (nots (eqb (length a.key.now) a.k) (eqb (length a.value.now) a.v) (eqb (length a.old.now) a.v)) ∙ c.if-key-k.false)

sized : (c : Else-key-k)
    → (length c.args.key.now ≡ c.args.k)
    × (length c.args.value.now ≡ c.args.v)
    × (length c.args.old.now ≡ c.args.v)
sized c =
    let a = c.args in
    lengths a.book.now a.k a.v a.key.now a.value.now a.old.now (right c)

-- where the search ends, by the header's slot count
ends : (c : After-search)
    → spot_of c.args.book.now c.args.k c.args.v (slot_count c.args.book.now) c.args.key.now
    ≡ said_spot c.search.result
unfolding said_table
ends c = let t = c.in_ok-table in laws.ends _ c.args.k c.args.v t.table t.ensures.answered t.ensures.opened c.args.key.now c.search.result c.search.ensures

passes : (c : Else-key-k)
    → first_some (insert_rows c.args.book.now c.args.k c.args.v c.args.key.now c.args.value.now c.args.old.now) ≡ none
passes c =
    let a = c.args in
    insert_passes a.book.now a.k a.v a.key.now a.value.now a.old.now (opened c).rows (right c)

-- the slot that the search tells is below the slot count
below : (c : After-search) → Below c.in_ok-table.table.slots.n (said_spot c.search.result)
below c =
    let t = c.in_ok-table.table in
    rw c.search.ensures (spot_below 8 reports t.bytes.now t.sizes.k t.sizes.v t.slots.n c.args.key.now (omega (arith, t.slots.is_count.least)))

below_same : (c : In-Same) → c.in-Same.slot.0 < c.in_ok-table.table.slots.n
below_same c = subst (λ s. Below c.in_ok-table.table.slots.n (said_spot s)) c.in-Same.is (below (goal.at.In-Same c).After-search)

below_free : (c : In-Free) → c.in-Free.slot.0 < c.in_ok-table.table.slots.n
below_free c = subst (λ s. Below c.in_ok-table.table.slots.n (said_spot s)) c.in-Free.is (below (goal.at.In-Free c).After-search)

pub returns-in_err-table : goal.returns-in_err-table
unfolding said_table
returns-in_err-table c =
    let a = c.args in
    let p = err_from_is_err_and c.from_residual.result c.from_residual.ensures.1 in
    let f = fails a.book.now a.k a.v _ (sym c.in_err-table.ensures.answered) in
    let r = insert_refused a.book.now a.k a.v a.key.now a.value.now a.old.now _ (insert_header a.book.now a.k a.v a.key.now a.value.now a.old.now _ f) in
    record { answered = rw (p.1, p.2) (sym r.0); book_after = sym r.1; old_after = sym r.2 }

pub returns-then-key-k : goal.returns-then-key-k
unfolding said_table said_refusal
returns-then-key-k c =
    let a = c.args in
    let t = c.in_ok-table in
    let o = laws.opened _ a.k a.v t.table t.ensures.answered t.ensures.opened in
    let w = not-true _ (sym (nots (eqb (length a.key.now) a.k) (eqb (length a.value.now) a.v) (eqb (length a.old.now) a.v)) ∙ c.if-key-k.true) in
    let r = insert_refused a.book.now a.k a.v a.key.now a.value.now a.old.now _ (insert_length a.book.now a.k a.v a.key.now a.value.now a.old.now o.rows w) in
    record { answered = sym r.0; book_after = sym r.1; old_after = sym r.2 }

pub replace-requires : goal.replace-requires
replace-requires c =
    let at = (goal.at.replace-requires c).Else-key-k in
    let t = c.in_ok-table in
    let v = t.ensures.opened.2 in
    (ap (λ b. length b.now) (sym t.ensures.opened.0) ∙ t.table.long, below_same (goal.at.replace-requires c).In-Same, (sized at).1 ∙ sym v, (sized at).2 ∙ sym v)

pub write_new-requires : goal.write_new-requires
write_new-requires c =
    let at = (goal.at.write_new-requires c).Else-key-k in
    let t = c.in_ok-table in
    let o = t.ensures.opened in
    (ap (λ b. length b.now) (sym o.0) ∙ t.table.long, below_free (goal.at.write_new-requires c).In-Free, (sized at).0 ∙ sym o.1, (sized at).1 ∙ sym o.2)

pub returns-in-Same : goal.returns-in-Same
unfolding insert_says written old_value
returns-in-Same c =
    let a = c.args in
    let at = (goal.at.returns-in-Same c).Else-key-k in
    let o = c.in_ok-table.ensures.opened in
    let w = insert_answer_says a.book.now a.k a.v a.key.now a.value.now a.old.now (Rule.same c.in-Same.slot.0 c.in-Same.n) (passes at) (ends (goal.at.returns-in-Same c).After-search ∙ ap said_spot c.in-Same.is) in
    let r = c.replace.ensures in
    let s = c.in-Same.slot.0 in record {
      answered = sym w.0;
      book_after = r.book_after ∙ ap₂ (λ (k v : ℕ). sets a.book.now (value_at k v s) a.value.now) o.1 o.2 ∙ sym w.1;
      old_after = r.old_after ∙ ap₂ (λ (k v : ℕ). take v (drop (value_at k v s) a.book.now)) o.1 o.2 ∙ sym w.2;
    }

pub returns-in-Free : goal.returns-in-Free
unfolding insert_says written old_value
returns-in-Free c =
    let a = c.args in
    let at = (goal.at.returns-in-Free c).Else-key-k in
    let w = insert_answer_says a.book.now a.k a.v a.key.now a.value.now a.old.now (Rule.free c.in-Free.slot.0 c.in-Free.n) (passes at) (ends (goal.at.returns-in-Free c).After-search ∙ ap said_spot c.in-Free.is) in
    let o = c.in_ok-table.ensures.opened in
    let n = (opened at).count in
    let s = c.in-Free.slot.0 in
    let pair = a.key.now ++ a.value.now in record {
      answered = sym w.0;
      book_after = c.write_new.ensures
          ∙ (λ i. set_control (sets a.book.now (entry_at (o.1 i) (o.2 i) s) pair) (o.1 i) (o.2 i) (n i) s (tag_of a.key.now))
          ∙ sym w.1;
      old_after = sym w.2;
    }

pub returns-in-Full : goal.returns-in-Full
unfolding insert_says written old_value said_refusal
returns-in-Full c =
    let a = c.args in
    let w = insert_answer_says a.book.now a.k a.v a.key.now a.value.now a.old.now (Rule.full c.in-Full.n) (passes (goal.at.returns-in-Full c).Else-key-k) (ends (goal.at.returns-in-Full c).After-search ∙ ap said_spot c.in-Full.is) in
    record { answered = sym w.0; book_after = sym w.1; old_after = sym w.2 }
