-- The probe's state before group j, in closed form.
use Rattle.std.specs.Prelude.{ℕ, ◌*◌, ◌/◌, ◌%◌}
use Rattle.rules.specs.Probe.{pair_start, group_start}
use Rattle.raw_table.specs.declared.probe.ProbeSeq.{ProbeSeq}

-- group j of 8 slots, its pair, its half of the pair, and what the last step between pairs was
unfoldable pub seq_at : ℕ → ℕ → ℕ → ProbeSeq
seq_at b S j = record { index = group_start 8 b S j; base = pair_start b (j / 2); chunk = 8 * (j % 2); stride = 16 * (j / 2) }
