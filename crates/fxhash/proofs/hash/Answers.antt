-- Eight bytes are one chunk.
use Rattle.std.proofs.Common.{ap, sym, ◌∙◌, take_all, length, arith}
use Rattle.rules.specs.Bytes.{le}
use Rattle.rules.proofs.HashLaws.{hash_of_8}
use Rattle.fxhash.proofs.ReadLaws.{worth_le}
use Rattle.fxhash.proofs.hash.Goals as goal

pub returns-in-Some : goal.returns-in-Some
returns-in-Some c =
    let s = c.args.bytes.now in
    let key = c.in-Some.ensures.cases in
    let read = c.from_le_bytes.ensures ∙ worth_le c.in-Some.key.now 7 (ap length key.same ∙ key.long) ∙ ap le (key.same ∙ sym (take_all 8 s (omega arith))) in
    rw (c.low.ensures, c.add_to_hash.ensures, read) (sym (hash_of_8 s key.long))
