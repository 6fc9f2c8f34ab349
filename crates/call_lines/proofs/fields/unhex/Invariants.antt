-- The pairs so far stand for the bytes so far, and the others are as they were.
use Rattle.std.proofs.Common.{◌≡◌, ◌*◌, take, drop}
use Rattle.std.specs.List.{flat_map}
use Rattle.call_lines.specs.Hex.{hex_of_byte}
use Rattle.call_lines.proofs.fields.unhex.Given as goal

abbrev pub invariant-loop-i : goal.invariant-loop-i
invariant-loop-i l =
    (take (2 * l.i) l.initial.field ≡ flat_map hex_of_byte (take l.i l.field)) × (drop (2 * l.i) l.field ≡ drop (2 * l.i) l.initial.field)
