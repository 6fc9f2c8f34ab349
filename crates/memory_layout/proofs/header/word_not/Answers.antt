-- Four bytes have the number n exactly when they are its bytes: the law `same_word`. Assumes nothing.
use mathlib.Core.Path.{ap}
use mathlib.Core.Bool.{not}
use native.Mathlib.Omega.{arith}
use Rattle.rules.proofs.BytesLaws.{bytes_part, length_part, same_word}
use Rattle.rules.specs.Bytes.{part}
use Rattle.memory_layout.proofs.header.word_not.Goals as goal

pub returns : goal.returns
returns c =
    let a = c.args in
    let s = a.book.now in
    let b = bytes_part 4 a.at s (λ i. omega (arith, c.shared_slice_known-1.given i)) in
    rw c.read_u32.ensures (ap not (same_word 4 a.n (part 4 a.at s) (omega arith) (length_part 4 a.at s c.requires) b))
