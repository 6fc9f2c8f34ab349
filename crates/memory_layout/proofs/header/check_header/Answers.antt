-- What passes has no row that applies; to all else one applies, and that is the first. Assumes nothing.
use mathlib.Core.Path.{◌≡◌, sym}
use mathlib.Core.Option.{none}
use native.Mathlib.Omega.{arith}
use Rattle.rules.specs.First.{first_some}
use Rattle.rules.specs.Rows.{header_rows}
use Rattle.rules.specs.Calls.{by_rows}
use Rattle.memory_layout.specs.Checked.{checked}
use Rattle.memory_layout.specs.Said.{said_header, said_row}
use Rattle.memory_layout.proofs.PassLaws.{whole_header}
use Rattle.memory_layout.proofs.header.check_header.Goals as goal
use Rattle.memory_layout.proofs.header.check_header.Goals.{then-book-gt31+in_default, else-book-gt31}

pub returns-in-Some : goal.returns-in-Some
unfolding said_header checked by_rows
returns-in-Some c = rw (c.in-Some.ensures.0, c.in-Some.ensures.1)

-- where the ways past the quick test meet, a row applies: the second, or by that test
pub unreachable-requires : goal.unreachable-requires
unfolding said_row
unreachable-requires c =
    let n : first_some (header_rows c.args.book.now c.args.k c.args.v) ≡ none = sym c.in_default-first_row.ensures in
    elim c.if-book-gt31.branch [
      | then-book-gt31+in_default w ↦ w.in_default.ensures n
      | else-book-gt31 w ↦ absurd (omega (arith, w.if-book-gt31.false, whole_header c.args.book.now c.args.k c.args.v n))
    ]

pub returns : goal.returns
unfolding said_header said_row checked by_rows
returns c = rw (← c.in-Err.ensures)
