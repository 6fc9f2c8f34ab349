-- One digit more is one place more.
use Rattle.std.proofs.Common.{rules, ◌≡◌, ℕ, ◌+◌, ◌-◌, ◌*◌, ◌≤◌, ◌<◌, List, [], ◌∷◌, ◌++◌, length, take, get_or, refl, sym, subst, arith}
use Rattle.std.proofs.lemmas.Bool.Decides.{nat_tests}
use Rattle.std.proofs.lemmas.List.{take_more}
use Rattle.std.specs.Char.{digit_value}
use Rattle.std.specs.Str.Parse.{AllDigits, digits_value, digits_value_after}
use Rattle.call_lines.proofs.fields.value_of.Goals as goal

digit_value_of_decimal : (c : ℕ) → 48 ≤ c → c ≤ 57 → digit_value c ≡ c - 48
digit_value_of_decimal c low high = grind (arith, nat_tests)

AllDigits-snoc : (xs : List ℕ) (c : ℕ) → AllDigits 10 xs → digit_value c < 10 → AllDigits 10 (xs ++ c ∷ [])
AllDigits-snoc [] c all h = (h, all)
AllDigits-snoc (x ∷ xs) c all h = (all.0, AllDigits-snoc xs c all.1 h)

digits_value_after-snoc : (n : ℕ) (xs : List ℕ) (c : ℕ) → digits_value_after 10 n (xs ++ c ∷ []) ≡ digits_value_after 10 n xs * 10 + digit_value c
digits_value_after-snoc n [] c = refl
digits_value_after-snoc n (x ∷ xs) c = digits_value_after-snoc (n * 10 + digit_value x) xs c

abbrev Writes : ℕ → List ℕ → Type 0
Writes n xs = AllDigits 10 xs × (n ≡ digits_value 10 xs)

one_more : (xs : List ℕ) (i n more : ℕ) → i < length xs → Writes n (take i xs) → 48 ≤ get_or xs i 0 → get_or xs i 0 ≤ 57
    → more ≡ n * 10 + (get_or xs i 0 - 48) → Writes more (take (i + 1) xs)
one_more xs i n more h (all, value) low high e =
    let worth = digit_value_of_decimal (get_or xs i 0) low high in
    let small : digit_value (get_or xs i 0) < 10 = omega arith in
    let snoc = digits_value_after-snoc 0 (take i xs) (get_or xs i 0) in
    subst (Writes more) (sym (take_more xs i 0 h)) (AllDigits-snoc (take i xs) (get_or xs i 0) all small, omega arith)

pub loop-digit-preserved : goal.loop-digit-preserved
loop-digit-preserved c =
    one_more c.args.digits.now c.loop-digit.digit-index c.loop-digit.n c.in_ok-n.n c.loop-digit-test.true c.loop-digit.invariant (search rules) (search rules) (search rules)
