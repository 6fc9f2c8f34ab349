-- Digits with no leading zero are what is written of their value.
use Rattle.std.proofs.Common.{rules, ◌≡◌, ℕ, ◌^◌, ◌<◌, ◌⊎◌, List, length, get_or, sym, ap, ◌∙◌, arith, Option, Some, None, IfSome}
use Rattle.std.specs.Str.Parse.{AllDigits, digits_value}
use Rattle.std.specs.Fmt.{decimal}
use Rattle.std.proofs.lemmas.Fmt.{decimal-digits_value}
use Rattle.std.proofs.lemmas.Str.Parse.{numerals_by_value, tells_digits}
use Rattle.call_lines.proofs.fields.number_of.Goals as goal

written : (ds : List ℕ) (n : ℕ) → (((length ds ≡ 0) ⊎ ((get_or ds 0 0 ≡ 48) × (1 < length ds))) → ⊥)
    → AllDigits 10 ds × (n ≡ digits_value 10 ds) → n < 2 ^ 64 → ds ≡ decimal n
written ds n well (all, value) fits =
    let some : 0 < length ds = grind arith in
    let lead : get_or ds 0 0 ≡ 48 → length ds ≡ 1 = λ zero. grind arith in
    sym (ap decimal value ∙ decimal-digits_value (numerals_by_value (AllDigits 10) tells_digits) ds all some lead (omega arith))

written_if : (ds : List ℕ) (r : Option ℕ) → (((length ds ≡ 0) ⊎ ((get_or ds 0 0 ≡ 48) × (1 < length ds))) → ⊥)
    → IfSome r (λ n. AllDigits 10 ds × (n ≡ digits_value 10 ds)) → IfSome r (λ n. n < 2 ^ 64) → IfSome r (λ n. ds ≡ decimal n)
written_if ds None well is fits = tt
written_if ds (Some n) well is fits = written ds n well is fits

pub returns : goal.returns
returns c = written_if c.args.field.now c.value_of.result (search rules) c.value_of.ensures (search rules)
