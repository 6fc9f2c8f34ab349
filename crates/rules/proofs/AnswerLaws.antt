-- An answer, or a buffer, by rows of which the earlier ones are known: the first of them that applies decides, else the later ones.
-- Assumes nothing.
use mathlib.Core.Path.{◌≡◌}
use mathlib.Core.List.{List, ◌++◌}
use mathlib.Core.Option.{Option, none, some}
use Rattle.rules.specs.First.{first_some}
use Rattle.rules.specs.Rows.{Refusal}
use Rattle.rules.specs.Calls.{by_rows}
use Rattle.rules.proofs.FirstLaws.{first_later, first_earlier}

module _ {A : Type 0} (refusing : Refusal → A) (accepting : A) where
  pub by_earlier : (rows later : List (Option Refusal)) (r : Refusal) → first_some rows ≡ some r → by_rows (first_some (rows ++ later)) refusing accepting ≡ refusing r
  unfolding by_rows
  by_earlier rows later r e = rw (first_earlier rows later r e)

  pub by_later : (rows later : List (Option Refusal)) → first_some rows ≡ none
      → by_rows (first_some (rows ++ later)) refusing accepting ≡ by_rows (first_some later) refusing accepting
  by_later rows later e = rw (first_later rows later e)
