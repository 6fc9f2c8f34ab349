-- One pair more is one byte more, which is put before the pairs that are left.
use Rattle.std.proofs.Common.{rules, ◌≡◌, ℕ, suc, ◌+◌, ◌*◌, ◌<◌, List, [], ◌∷◌, ◌++◌, length, take, drop, get_or, slice_set, sym, ap, ◌∙◌, arith, drop-cons}
use Rattle.std.proofs.Math.Seq.{take-add}
use Rattle.std.proofs.lemmas.List.{take_more_set, drop-set-lt, flat_map_more}
use Rattle.std.specs.List.{flat_map}
use Rattle.call_lines.specs.Hex.{hex_of_byte}
use Rattle.call_lines.proofs.fields.unhex.Goals as goal

two_at : (xs : List ℕ) (k : ℕ) → k + 1 < length xs → drop k xs ≡ get_or xs k 0 ∷ get_or xs (k + 1) 0 ∷ drop (k + 2) xs
two_at xs k h =
    let one : suc k ≡ k + 1 = omega arith in
    let two : suc (k + 1) ≡ k + 2 = omega arith in
    drop-cons xs k 0 (omega arith)
    ∙ ap (λ r. get_or xs k 0 ∷ r) (ap (λ n. drop n xs) one ∙ drop-cons xs (k + 1) 0 h ∙ ap (λ n. get_or xs (k + 1) 0 ∷ drop n xs) two)

pair_more : (old field : List ℕ) (i b : ℕ) → 2 * i + 1 < length old → length field ≡ length old
    → take (2 * i) old ≡ flat_map hex_of_byte (take i field) → drop (2 * i) field ≡ drop (2 * i) old
    → hex_of_byte b ≡ get_or field (2 * i) 0 ∷ get_or field (2 * i + 1) 0 ∷ []
    → (take (2 * (i + 1)) old ≡ flat_map hex_of_byte (take (i + 1) (slice_set field i b)))
    × (drop (2 * (i + 1)) (slice_set field i b) ≡ drop (2 * (i + 1)) old)
pair_more old field i b long same front back pair =
    let next : 2 * (i + 1) ≡ 2 * i + 2 = omega arith in
    let theirs = two_at old (2 * i) long in
    let split : get_or field (2 * i) 0 ∷ get_or field (2 * i + 1) 0 ∷ drop (2 * i + 2) field ≡ get_or old (2 * i) 0 ∷ get_or old (2 * i + 1) 0 ∷ drop (2 * i + 2) old
    = sym (two_at field (2 * i) (omega arith)) ∙ back ∙ theirs in
    let rest : drop (2 * i + 2) field ≡ drop (2 * i + 2) old = cc in
    let read : get_or old (2 * i) 0 ∷ get_or old (2 * i + 1) 0 ∷ [] ≡ hex_of_byte b = cc in
    let grown = ap (flat_map hex_of_byte) (take_more_set field i b (omega arith)) ∙ sym (flat_map_more hex_of_byte [] (take i field) b) in (
      ap (λ n. take n old) next ∙ take-add (2 * i) 2 old ∙ ap (λ r. take (2 * i) old ++ take 2 r) theirs
          ∙ ap (λ t. t ++ get_or old (2 * i) 0 ∷ get_or old (2 * i + 1) 0 ∷ []) front
          ∙ ap (λ t. flat_map hex_of_byte (take i field) ++ t) read ∙ sym grown,
      drop-set-lt (2 * (i + 1)) field i b (omega arith) ∙ ap (λ n. drop n field) next ∙ rest ∙ ap (λ n. drop n old) (sym next),
    )

pub loop-i-preserved : goal.loop-i-preserved
loop-i-preserved c =
    pair_more c.args.field.now c.loop-i.field c.loop-i.i c.in_ok-field.field-0 (omega arith) (search rules) c.loop-i.invariant.0 c.loop-i.invariant.1 (search rules)
