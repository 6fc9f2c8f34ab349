-- One byte more is two digits more.
use Rattle.std.proofs.Common.{rules, ◌≡◌, ℕ, ◌+◌, ◌<◌, ◌/◌, ◌%◌, false, List, [], ◌∷◌, ◌++◌, length, take, get_or, sym, ap, ◌∙◌, append_assoc}
use Rattle.std.proofs.Output.{has_written_append, has_written_of_eq}
use Rattle.std.proofs.lemmas.List.{take_more, flat_map_more}
use Rattle.std.specs.Fmt.{digit_glyph}
use Rattle.std.specs.List.{flat_map}
use Rattle.call_lines.specs.Hex.{hex_of_byte}
use Rattle.call_answers.proofs.hex.HexDisplay.fmt.Goals as goal

hex_of_more : (xs : List ℕ) (i : ℕ) → i < length xs
    → (flat_map hex_of_byte (take i xs) ++ digit_glyph false (get_or xs i 0 / 16) ∷ []) ++ digit_glyph false (get_or xs i 0 % 16) ∷ []
    ≡ flat_map hex_of_byte (take (i + 1) xs)
hex_of_more xs i h =
    append_assoc (flat_map hex_of_byte (take i xs)) (digit_glyph false (get_or xs i 0 / 16) ∷ []) (digit_glyph false (get_or xs i 0 % 16) ∷ [])
    ∙ flat_map_more hex_of_byte [] (take i xs) (get_or xs i 0)
    ∙ ap (flat_map hex_of_byte) (sym (take_more xs i 0 h))

pub loop-byte-preserved : goal.loop-byte-preserved
loop-byte-preserved g c = λ plain.
    has_written_of_eq _ _ _ _ _ (hex_of_more c.args.self.now.0.now c.loop-byte.byte-index c.loop-byte-test.true)
    (has_written_append _ _ _ _ _ _ (has_written_append _ _ _ _ _ c.write_str.new.self (c.loop-byte.invariant plain) (search rules)) (search rules))
