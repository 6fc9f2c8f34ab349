-- What is left to come of the hash stays the same by each chunk that goes in, and by each width that too few bytes are left for.
use Rattle.std.proofs.Common.{◌≡◌, ◌∷◌, [], ◌%◌, ◌/◌, ◌^◌, ℕ, length, arith, sym, ap, ◌∙◌, rules}
use Rattle.rules.specs.Hash.{hash_of, chunks, eights}
use Rattle.fxhash.proofs.ChunkLaws.{eight_more, eight_none, once_more, once_none, last_more, last_none}
use Rattle.fxhash.proofs.hash_any.Goals as goal
use Rattle.fxhash.proofs.hash_any.Goals.{in-Some-split_first_chunk, in_default-split_first_chunk, in-Some-split_first_chunk-2, in_default-split_first_chunk-2, in-Some-first, in_default-first}

pub loop-chunk-preserved : goal.loop-chunk-preserved
loop-chunk-preserved c =
    let l = c.loop-chunk in
    let some = c.in-Some in
    sym (eight_more l.hash l.rest.now some.chunk.now some.after.now some.ensures.cases _ c.from_le_bytes.ensures _ c.add_to_hash-hash.ensures) ∙ l.invariant

pub returns : goal.returns
unfolding hash_of
returns c =
    let n = eights (length c.args.bytes.now / 8) 0 c.args.bytes.now in
    let l = c.loop-chunk in
    let four = c.match-split_first_chunk-2 in
    let two = c.match-split_first_chunk-3 in
    let e : chunks (4 ∷ 2 ∷ 1 ∷ []) l.hash l.rest.now ≡ n = sym (eight_none l.hash l.rest.now (search rules)) ∙ l.invariant in
    let f : chunks (2 ∷ 1 ∷ []) four.hash four.rest.now ≡ n =
    elim four.branch [
      | in-Some-split_first_chunk w ↦
          let some = w.in-Some-split_first_chunk in
          let read = w.from.ensures ∙ w.from_le_bytes-in-Some-split_first_chunk.ensures in
          rw (w.hash-is, w.rest-is)
          (sym (once_more l.hash l.rest.now 3 (2 ∷ 1 ∷ []) some.chunk.now some.after.now some.ensures.cases _ read _ w.add_to_hash-hash-in-Some-split_first_chunk.ensures) ∙ e)
      | in_default-split_first_chunk w ↦ rw (w.hash-is, w.rest-is) (sym (once_none l.hash l.rest.now 4 (2 ∷ 1 ∷ []) w.in_default-split_first_chunk.ensures.cases) ∙ e)
    ]
    in
    let g : chunks (1 ∷ []) two.hash two.rest.now ≡ n =
    elim two.branch [
      | in-Some-split_first_chunk-2 w ↦
          let some = w.in-Some-split_first_chunk-2 in
          let read = w.from-in-Some-split_first_chunk-2.ensures ∙ w.from_le_bytes-in-Some-split_first_chunk-2.ensures in
          rw (w.hash-is, w.rest-is)
          (sym (once_more four.hash four.rest.now 1 (1 ∷ []) some.chunk.now some.after.now some.ensures.cases _ read _ w.add_to_hash-hash-in-Some-split_first_chunk-2.ensures) ∙ f)
      | in_default-split_first_chunk-2 w ↦ rw (w.hash-is, w.rest-is) (sym (once_none four.hash four.rest.now 2 (1 ∷ []) w.in_default-split_first_chunk-2.ensures.cases) ∙ f)
    ]
    in
    c.low.ensures ∙ ap (λ (n : ℕ). n % 2 ^ 32) {x = c.match-first.hash}
    (elim c.match-first.branch [
      | in-Some-first w ↦
          let byte = w.in-Some-first.ensures.item.3 in
          rw w.hash-is (sym (last_more two.hash two.rest.now byte.0 _ (w.from-in-Some-first.ensures ∙ byte.1 0) _ w.add_to_hash-hash-in-Some-first.ensures) ∙ g)
      | in_default-first w ↦ rw w.hash-is (sym (last_none two.hash two.rest.now (omega (arith, w.in_default-first.ensures.item.3))) ∙ g)
    ])
