-- The lowest mark of the empty positions is the first empty one.
use Rattle.std.proofs.Common.{◌≡◌, ℕ, ◌*◌, ◌/◌, ◌<◌, length, sym, ap, ◌∙◌, ap₂, arith}
use mathlib.Core.Option.{some}
use lib.Count.{count_trailing_zeros}
use Rattle.group_query.specs.Marks.{word, empties}
use Rattle.group_query.proofs.MarkLaws.{lowest, lowest_word, length_empties, no_empty, some_empty}
use Rattle.group_query.proofs.GroupQuery.first_empty.Goals as goal

pub returns-then-mask-eq0 : goal.returns-then-mask-eq0
returns-then-mask-eq0 c = λ group n e. sym (no_empty group (sym e ∙ c.if-mask-eq0.true))

pub returns : goal.returns
returns c =
    λ group n e.
    let h : 0 < word (empties group) = omega (arith, c.if-mask-eq0.false) in
    let l : 64 ≡ length (empties group) * 8 = omega (arith, length_empties group) in
    let r : c.lowest_byte.result ≡ lowest (empties group) = c.lowest_byte.ensures ∙ ap₂ (λ (k m : ℕ). count_trailing_zeros k m / 8) l e ∙ lowest_word (empties group) h in
    ap some r ∙ sym (some_empty group h)
