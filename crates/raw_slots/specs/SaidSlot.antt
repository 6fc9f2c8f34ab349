-- A slot by its number, and one that a search among slots may find.
use Rattle.std.specs.Prelude.{ℕ, Option, Some, None}
use Rattle.std.proofs.Math.Option as rules
use Rattle.memory_layout.specs.declared.kinds.Slot.{Slot}

abbrev pub slot : ℕ → Slot
slot i = record { 0 = i }

unfoldable pub said_slot : Option Slot → rules.Option ℕ
said_slot (Some s) = rules.some s.0
said_slot None = rules.none
