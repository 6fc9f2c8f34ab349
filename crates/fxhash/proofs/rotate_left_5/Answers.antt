-- The bits that leave at the top come back below the others, which end in five zeros.
use Rattle.std.proofs.Common.{◌≡◌, ℕ, ◌*◌, ◌/◌, ◌%◌, ◌^◌, ap, ◌∙◌, bit_or, arith}
use lib.Bits.{or_shifted}
use Rattle.fxhash.proofs.rotate_left_5.Goals as goal

pub returns : goal.returns
returns c =
    let x = c.args.x in
    let e : x * 2 ^ 5 % 2 ^ 64 ≡ x % 2 ^ 59 * 2 ^ 5 = omega arith in
    c.rotate_left.ensures ∙ ap (λ (n : ℕ). bit_or n (x / 2 ^ 59)) e ∙ or_shifted (x % 2 ^ 59) 5 (x / 2 ^ 59) (omega arith)
