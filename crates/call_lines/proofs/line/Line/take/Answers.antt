-- Where the newline stands says which part is the line's.
use Rattle.std.proofs.Common.{rules, ◌≡◌, ◌==◌, ◌<◌, ◌+◌, ◌-◌, ℕ, suc, List, ◌∷◌, ◌++◌, Option, None, Some, length, take, drop, get_or, position, sym, ap, ◌∙◌, take_all, take-append-drop, drop-cons, add-one}
use Rattle.std.specs.Option.{unwrap_or}
use Rattle.std.proofs.lemmas.List.{take_rest}
use Rattle.call_lines.specs.Line.{first_line}
use Rattle.call_lines.proofs.line.Line.take.Goals as goal

first_line_to : (xs : List ℕ) (end : Option ℕ) → end ≡ position (λ b. b == 10) xs → first_line xs ≡ take (unwrap_or end (length xs)) xs
first_line_to xs end e = ap (λ o. take (unwrap_or o (length xs)) xs) (sym e)

split_at_newline : (xs : List ℕ) (i : ℕ) → i < length xs → get_or xs i 0 ≡ 10
    → xs ≡ take i xs ++ 10 ∷ take (length xs - (i + 1)) (drop (i + 1) xs)
split_at_newline xs i h e =
    sym (take-append-drop i xs)
    ∙ ap (λ rest. take i xs ++ rest) (drop-cons xs i 0 h ∙ ap (λ x. x ∷ drop (suc i) xs) e ∙ ap (λ n. 10 ∷ drop n xs) (sym (add-one i)))
    ∙ ap (λ rest. take i xs ++ 10 ∷ rest) (sym (take_rest xs (i + 1)))

pub returns-in-Some-clause-line : goal.returns-in-Some-clause-line
returns-in-Some-clause-line g c =
    rw (first_line_to c.args.input.now (Some c.in-Some.end) (search rules)) (search rules)

pub returns-in-Some-clause-rest : goal.returns-in-Some-clause-rest
returns-in-Some-clause-rest g c =
    rw (first_line_to c.args.input.now (Some c.in-Some.end) (search rules)) (split_at_newline c.args.input.now c.in-Some.end (search rules) (search rules))

pub returns-in-None-clause-line : goal.returns-in-None-clause-line
returns-in-None-clause-line g c =
    rw (first_line_to c.args.input.now None (search rules), take_all (length c.args.input.now) c.args.input.now (search rules)) (search rules)

pub returns-in-None-clause-rest : goal.returns-in-None-clause-rest
returns-in-None-clause-rest g c =
    first_line_to c.args.input.now None (search rules) ∙ take_all _ _ (search rules)
