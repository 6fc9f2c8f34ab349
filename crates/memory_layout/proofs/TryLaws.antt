-- What a `?` after `ok_or` tells of the option, on both its ways. Assumes nothing.
use mathlib.Core.Path.{◌≡◌, refl, sym, ◌∙◌}
use Rattle.std.specs.Prelude.{Option, Some, None, Result, Ok, Err}
use Rattle.std.specs.Option.{ok_or}
use Rattle.rules.proofs.TestLaws.{impossible}

module _ {T E : Type 0} where
  pub given : (o : Option T) (r : Result T E) (e : E) (x : T) → r ≡ ok_or o e → r ≡ Ok x → o ≡ Some x
  given (Some y) r e x a b = let h : y ≡ x = cc in λ i. Some (h i)
  given None r e x a b = let h : Err e ≡ Ok x = sym a ∙ b in impossible cc

  pub lacking : (o : Option T) (r : Result T E) (e y : E) → r ≡ ok_or o e → r ≡ Err y → (o ≡ None) × (y ≡ e)
  lacking (Some x) r e y a b = let h : Ok x ≡ Err y = sym a ∙ b in impossible cc
  lacking None r e y a b = (refl, cc)
