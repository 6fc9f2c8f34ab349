-- The lowest bit of a word of marks stands in the byte of its lowest mark.
use Rattle.std.proofs.Common.{◌≡◌, ℕ, ◌/◌, ◌<◌, ◌∷◌, sym, ap, ◌∙◌, ap₂, zero-add, arith}
use lib.Count.{count_trailing_zeros}
use Rattle.rules.specs.Group.{positions}
use Rattle.group_query.specs.Marks.{word, others}
use Rattle.group_query.proofs.MarkLaws.{lowest, lowest_lt, lowest_word, positions_some}
use Rattle.group_query.proofs.lowest_of.Goals as goal

pub returns : goal.returns
returns c =
    λ ms n e.
    let h : 0 < word ms = omega (arith, c.requires) in
    let r : c.lowest_byte.result ≡ lowest ms = c.lowest_byte.ensures ∙ ap₂ (λ (k m : ℕ). count_trailing_zeros k m / 8) (omega arith) e ∙ lowest_word ms h in
    (omega (arith, lowest_lt ms h), positions_some ms 0 h ∙ ap (λ (m : ℕ). m ∷ positions 0 (others ms)) (zero-add (lowest ms) ∙ sym r))
