-- The probe order among S slots, from the start b, for groups of any width w that divides 16.
use Rattle.std.specs.Prelude.{ℕ, ◌+◌, ◌*◌, ◌/◌, ◌%◌}

-- where pair q starts, before it is taken mod S; a pair is sixteen slots in a row
abbrev pub pair_start : ℕ → ℕ → ℕ
pair_start b q = b + 8 * (q * (q + 1))

-- where group j starts: its pair, and how far into the pair
unfoldable pub group_start : ℕ → ℕ → ℕ → ℕ → ℕ
group_start w b S j = (pair_start b (w * j / 16) + w * j % 16) % S

-- the slot that position m of the group at p stands for
abbrev pub slot_of : ℕ → ℕ → ℕ → ℕ
slot_of S p m = (p + m) % S

-- the same order slot by slot
abbrev pub slot_at : ℕ → ℕ → ℕ → ℕ
slot_at b S n = group_start 1 b S n
