-- What stands in the slots of a table, by the rules of the layout.
use Rattle.std.specs.Prelude.{ℕ, ◌+◌, Bool, List, Result, Ok, Err}
use Rattle.rules.specs.Bytes.{part}
use Rattle.rules.specs.Layout.{entry_at, key_of, value_of, control, occupied}
use Rattle.memory_layout.specs.declared.refusal.Refusal.{Refusal}
use Rattle.memory_layout.specs.declared.table.Table.{Table}
use Rattle.memory_layout.specs.Checked.{Checked, passed, failed}
use Rattle.memory_layout.specs.Said.{said_refusal}

-- an opened book's slot count, or the refusal
unfoldable pub said_table : Result Table Refusal → Checked
said_table (Ok t) = passed t.slots.n
said_table (Err r) = failed (said_refusal r)

-- what the rules say of a book's bytes, sizes and slot count, said of a table
abbrev pub in_table : {A : Type 0} → Table → (List ℕ → ℕ → ℕ → ℕ → A) → A
in_table t says = says t.bytes.now t.sizes.k t.sizes.v t.slots.n

module _ (t : Table) (i : ℕ) where
  abbrev pub control_in : ℕ
  control_in = control t.bytes.now t.sizes.k t.sizes.v t.slots.n i

  abbrev pub occupied_in : Bool
  occupied_in = occupied t.bytes.now t.sizes.k t.sizes.v t.slots.n i

  abbrev pub key_in : List ℕ
  key_in = key_of t.bytes.now t.sizes.k t.sizes.v i

  abbrev pub value_in : List ℕ
  value_in = value_of t.bytes.now t.sizes.k t.sizes.v i

  -- the key and the value
  abbrev pub entry_in : List ℕ
  entry_in = part (t.sizes.k + t.sizes.v) (entry_at t.sizes.k t.sizes.v i) t.bytes.now
