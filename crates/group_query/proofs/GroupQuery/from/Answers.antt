-- The two masks are the bit trick's, by its law at eight bytes.
use Rattle.std.proofs.Common.{ℕ, ap, ◌∙◌, ap₂, arith}
use lib.Bits.{bit_and, bit_xor, xor_lt}
use Rattle.rules.specs.Bytes.{le, part}
use Rattle.rules.proofs.BytesLaws.{bytes_part, length_part}
use Rattle.group_query.proofs.QueryLaws.{query_at, empties_at}
use Rattle.group_query.proofs.GroupQuery.from.Goals as goal

pub returns : goal.returns
unfolding le
returns c =
    let a = c.args in
    let bs = part 8 a.at a.metadata.now in
    let n = length_part 8 a.at a.metadata.now c.requires in
    let h = bytes_part 8 a.at a.metadata.now (λ i. omega (arith, c.type_inv.metadata i)) in (
      query_at 8 a.h2 (omega arith) bs n h _ _
          (ap₂ bit_xor c.read_u64-group.ensures c.repeat.ensures)
          (omega arith)
          (omega (arith, xor_lt 64 c.read_u64-group.result c.repeat.result c.read_u64-group.type_inv c.repeat.type_inv)),
      ap (λ (x : ℕ). bit_and x 0x8080_8080_8080_8080) c.read_u64-group.ensures ∙ empties_at 8 bs n h,
    )
