-- At each return the tests before it have failed, and its own holds. Assumes nothing.
use mathlib.Core.Path.{sym, ◌∙◌}
use Rattle.rules.specs.Rows.{header_rows}
use Rattle.rules.specs.Bytes.{le_bytes}
use Rattle.rules.proofs.RowLaws.{first_if}
use Rattle.memory_layout.specs.Checked.{size_rows}
use Rattle.memory_layout.specs.Said.{said_row, said_refusal}
use Rattle.memory_layout.proofs.header.stated.Goals as goal

pub returns-then-other_tag : goal.returns-then-other_tag
unfolding header_rows said_row said_refusal le_bytes
returns-then-other_tag c = simp (first_if, sym c.if-other_tag.ensures)

pub returns-then-other_version : goal.returns-then-other_version
unfolding header_rows said_row said_refusal le_bytes
returns-then-other_version c = simp (first_if, sym c.if-other_tag.ensures, sym c.if-other_version.ensures)

pub returns-then-other_metadata : goal.returns-then-other_metadata
unfolding header_rows said_row said_refusal le_bytes
returns-then-other_metadata c = simp (first_if, sym c.if-other_tag.ensures, sym c.if-other_version.ensures, sym c.if-other_metadata.ensures)

pub returns-then-other_key : goal.returns-then-other_key
unfolding header_rows said_row said_refusal le_bytes
returns-then-other_key c = simp (first_if, sym c.if-other_tag.ensures, sym c.if-other_version.ensures, sym c.if-other_metadata.ensures, sym c.if-other_key.ensures)

pub returns-then-other_value : goal.returns-then-other_value
unfolding header_rows said_row said_refusal le_bytes
returns-then-other_value c = simp (first_if, sym c.if-other_tag.ensures, sym c.if-other_version.ensures, sym c.if-other_metadata.ensures, sym c.if-other_key.ensures, sym c.if-other_value.ensures)

pub returns-then-other_header : goal.returns-then-other_header
unfolding header_rows said_row said_refusal le_bytes
returns-then-other_header c = simp (first_if, sym c.if-other_tag.ensures, sym c.if-other_version.ensures, sym c.if-other_metadata.ensures, sym c.if-other_key.ensures, sym c.if-other_value.ensures, sym c.if-other_header.ensures)

pub returns : goal.returns
unfolding header_rows size_rows le_bytes
returns c = rw (c.sized.ensures.row, c.read_u64.ensures) (sym (simp (first_if, sym c.if-other_tag.ensures, sym c.if-other_version.ensures, sym c.if-other_metadata.ensures, sym c.if-other_key.ensures, sym c.if-other_value.ensures, sym c.if-other_header.ensures)))
