-- What a call answers by a table that it opened, and by the row at which it could not open one. Assumes nothing.
use mathlib.Core.Path.{◌≡◌, refl, sym, ◌∙◌}
use mathlib.Core.List.{List, [], ◌∷◌, ◌++◌}
use mathlib.Core.Option.{Option, none, some}
use Prim.Native.Nat.{ℕ}
use denote.Bor.{Bor}
use Rattle.std.specs.Prelude.{Result, Ok, Err, ⊤}
use Rattle.rules.specs.First.{first_some}
use Rattle.rules.specs.Rows as rows
use Rattle.rules.specs.Rows.{header_rows}
use Rattle.rules.specs.Layout.{slot_count}
use Rattle.rules.specs.Calls.{refused, fine, by_rows, answered}
use Rattle.rules.proofs.AnswerLaws.{by_earlier, by_later}
use Rattle.memory_layout.specs.declared.refusal.Refusal.{Refusal}
use Rattle.memory_layout.specs.declared.table.Table.{Table}
use Rattle.memory_layout.specs.Checked.{passed, failed, checked}
use Rattle.memory_layout.specs.Said.{said_refusal, said_row, said_done}
use Rattle.memory_layout.proofs.CheckedLaws.{Checks, checks, fails}

-- done where no row applies
done_by : (r : Result ⊤ Refusal) → said_done r ≡ by_rows (said_row r) refused fine
unfolding said_done said_row by_rows
done_by (Ok x) = refl
done_by (Err e) = refl

-- a row alone
pub one_row : (row : Option rows.Refusal) → row ≡ first_some (row ∷ [])
unfolding first_some
one_row none = refl
one_row (some r) = refl

module _ (book : Bor (List ℕ)) (k v : ℕ) where
  pub not_opened : (r : Refusal) (later : List (Option rows.Refusal)) → failed (said_refusal r) ≡ checked book.now k v
      → refused (said_refusal r) ≡ answered (header_rows book.now k v ++ later) fine
  not_opened r later e = sym (by_earlier refused fine (header_rows book.now k v) later (said_refusal r) (fails book.now k v (said_refusal r) (sym e)))

  module _ (t : Table) (opened : passed t.slots.n ≡ checked book.now k v) (parts : (t.bytes ≡ book) × (t.sizes.k ≡ k) × (t.sizes.v ≡ v)) where
    known : Checks book.now k v t.slots.n
    known = checks book.now k v t.slots.n (sym opened)

    -- what is said of the table is said of the book
    pub of_book : {A : Type 0} (Says : List ℕ → ℕ → ℕ → ℕ → A) → Says t.bytes.now t.sizes.k t.sizes.v t.slots.n ≡ Says book.now k v (slot_count book.now)
    of_book Says = λ i. Says (parts.0 i).now (parts.1 i) (parts.2 i) (known.count i)

    pub no_rows : first_some (header_rows book.now k v) ≡ none
    no_rows = known.rows

    -- a call that tests further rows
    pub later_rows : (r : Result ⊤ Refusal) (later : List ℕ → ℕ → ℕ → ℕ → List (Option rows.Refusal)) → said_row r ≡ first_some (later t.bytes.now t.sizes.k t.sizes.v t.slots.n)
        → said_done r ≡ answered (header_rows book.now k v ++ later book.now k v (slot_count book.now)) fine
    later_rows r later e =
        done_by r
        ∙ rw (e ∙ of_book (λ s l w n. first_some (later s l w n))) (sym (by_later refused fine (header_rows book.now k v) (later book.now k v (slot_count book.now)) no_rows))
