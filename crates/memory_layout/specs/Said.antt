-- What the answers of this crate say, in the numbers of document 01.
use Rattle.std.specs.Prelude.{Result, Ok, Err, ⊤}
use Rattle.std.proofs.Math.Option.{Option, none, some}
use Rattle.rules.specs.Rows as rows
use Rattle.rules.specs.Calls.{Answer, fine, refused}
use Rattle.memory_layout.specs.declared.kinds.SlotCount.{SlotCount}
use Rattle.memory_layout.specs.declared.refusal.Refusal.{Refusal}
use Rattle.memory_layout.specs.declared.refusal.Refusal.TheVariants as is
use Rattle.memory_layout.specs.declared.numbers.RefusalNumbers.{RefusalNumbers}
use Rattle.memory_layout.specs.Checked.{Checked, passed, failed}

-- the row of a refusal, with what it tells
unfoldable pub said_refusal : Refusal → rows.Refusal
said_refusal is.Sizes = rows.refusal 1
said_refusal is.ShortHeader = rows.refusal 2
said_refusal is.Tag = rows.refusal 3
said_refusal is.Version = rows.refusal 4
said_refusal is.MetadataSize = rows.refusal 5
said_refusal is.KeySize = rows.refusal 6
said_refusal is.ValueSize = rows.refusal 7
said_refusal is.HeaderSize = rows.refusal 8
said_refusal is.SlotCount = rows.refusal 9
said_refusal is.Length = rows.refusal 10
said_refusal (is.NotZero slot) = rows.fault_at 11 slot.0
said_refusal (is.WrongTag slot expected found) = rows.wrong_tag slot.0 expected found
said_refusal is.Buffers = rows.refusal 13
said_refusal (is.NoEnd count) = rows.no_end count
said_refusal (is.Mirror slot) = rows.fault_at 15 slot.0
said_refusal (is.Twin slot) = rows.fault_at 16 slot.0
said_refusal (is.Lost slot) = rows.fault_at 17 slot.0

-- the same record of five numbers
abbrev pub said_numbers : RefusalNumbers → rows.Refusal
said_numbers n = record { row = n.row; slot = n.slot; expected = n.expected; found = n.found; count = n.count }

-- a header's slot count, or the refusal
unfoldable pub said_header : Result SlotCount Refusal → Checked
said_header (Ok slots) = passed slots.n
said_header (Err r) = failed (said_refusal r)

-- the row that applies, if one does
unfoldable pub said_row : {A : Type 0} → Result A Refusal → Option rows.Refusal
said_row (Ok x) = none
said_row (Err r) = some (said_refusal r)

-- what a call answers that tells nothing but that it is done
unfoldable pub said_done : Result ⊤ Refusal → Answer
said_done (Ok x) = fine
said_done (Err r) = refused (said_refusal r)
