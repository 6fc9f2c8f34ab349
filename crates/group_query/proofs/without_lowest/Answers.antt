-- A word of marks loses its lowest mark where it is joined with the number before it.
use Rattle.std.proofs.Common.{ℕ, ◌-◌, ◌<◌, ap, ◌∙◌, arith}
use lib.Bits.{bit_and}
use Rattle.group_query.specs.Marks.{word}
use Rattle.group_query.proofs.MarkLaws.{others_word, others_lt}
use Rattle.group_query.proofs.without_lowest.Goals as goal

pub returns : goal.returns
returns c =
    λ ms e.
    let h : 0 < word ms = omega (arith, c.requires) in
    let r = ap (λ (m : ℕ). bit_and m (m - 1)) e ∙ others_word ms h in
    (omega (arith, r, others_lt ms h), r)
