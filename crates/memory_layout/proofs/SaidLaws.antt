-- No two answers say the same: so a contract `said r ≡ rule ..` leaves one answer. Assumes nothing.
use mathlib.Core.Path.{◌≡◌, refl, sym, ap, subst, ◌∙◌}
use Prim.Native.Nat.{ℕ}
use mathlib.Core.Bool.{cond}
use lib.Dec.{eqb}
use Rattle.std.specs.Prelude.{Result, Ok, Err, ⊤}
use Rattle.rules.specs.Rows as rows
use Rattle.rules.specs.Bounds.{Slots}
use Rattle.rules.proofs.TestLaws.{impossible}
use Rattle.rules.proofs.BoundsLaws.{slots_prop}
use Rattle.memory_layout.specs.declared.kinds.SlotCount.{SlotCount}
use Rattle.memory_layout.specs.declared.refusal.Refusal.{Refusal}
use Rattle.memory_layout.specs.declared.refusal.Refusal.TheVariants as is
use Rattle.memory_layout.specs.Said.{said_refusal, said_header, said_row, said_done}

-- the refusal with a row's number; it is read off what the refusal says
of_row : rows.Refusal → Refusal
of_row r =
    cond (eqb r.row 1) is.Sizes
    (cond (eqb r.row 2) is.ShortHeader
    (cond (eqb r.row 3) is.Tag
    (cond (eqb r.row 4) is.Version
    (cond (eqb r.row 5) is.MetadataSize
    (cond (eqb r.row 6) is.KeySize
    (cond (eqb r.row 7) is.ValueSize
    (cond (eqb r.row 8) is.HeaderSize
    (cond (eqb r.row 9) is.SlotCount
    (cond (eqb r.row 10) is.Length
    (cond (eqb r.row 11) (is.NotZero (record { 0 = r.slot }))
    (cond (eqb r.row 12) (is.WrongTag (record { 0 = r.slot }) r.expected r.found)
    (cond (eqb r.row 13) is.Buffers
    (cond (eqb r.row 14) (is.NoEnd r.count)
    (cond (eqb r.row 15) (is.Mirror (record { 0 = r.slot }))
    (cond (eqb r.row 16) (is.Twin (record { 0 = r.slot }))
    (is.Lost (record { 0 = r.slot })))))))))))))))))

read : (a : Refusal) → of_row (said_refusal a) ≡ a
unfolding said_refusal rows.refusal rows.fault_at rows.wrong_tag rows.no_end of_row
read is.Sizes = refl
read is.ShortHeader = refl
read is.Tag = refl
read is.Version = refl
read is.MetadataSize = refl
read is.KeySize = refl
read is.ValueSize = refl
read is.HeaderSize = refl
read is.SlotCount = refl
read is.Length = refl
read (is.NotZero slot) = refl
read (is.WrongTag slot expected found) = refl
read is.Buffers = refl
read (is.NoEnd count) = refl
read (is.Mirror slot) = refl
read (is.Twin slot) = refl
read (is.Lost slot) = refl

pub refusal_once : (a b : Refusal) → said_refusal a ≡ said_refusal b → a ≡ b
refusal_once a b e = sym (read a) ∙ ap of_row e ∙ read b

slots_once : (a b : SlotCount) → a.n ≡ b.n → a ≡ b
slots_once a b e =
    subst (λ (n : ℕ). (is_count : Slots n) → a ≡ record { n = n; is_count = is_count }) e
    (λ is_count i. record { n = a.n; is_count = slots_prop a.n a.is_count is_count i }) b.is_count

pub header_once : (a b : Result SlotCount Refusal) → said_header a ≡ said_header b → a ≡ b
unfolding said_header
header_once (Ok m) (Ok n) e = let h : m.n ≡ n.n = cc in ap Ok (slots_once m n h)
header_once (Ok m) (Err r) e = impossible cc
header_once (Err q) (Ok n) e = impossible cc
header_once (Err q) (Err r) e = let h : said_refusal q ≡ said_refusal r = cc in ap Err (refusal_once q r h)

pub row_once : (a b : Result ⊤ Refusal) → said_row a ≡ said_row b → a ≡ b
unfolding said_row
row_once (Ok x) (Ok y) e = refl
row_once (Ok x) (Err r) e = impossible cc
row_once (Err q) (Ok y) e = impossible cc
row_once (Err q) (Err r) e = let h : said_refusal q ≡ said_refusal r = cc in ap Err (refusal_once q r h)

pub done_once : (a b : Result ⊤ Refusal) → said_done a ≡ said_done b → a ≡ b
unfolding said_done
done_once (Ok x) (Ok y) e = refl
done_once (Ok x) (Err r) e = impossible cc
done_once (Err q) (Ok y) e = impossible cc
done_once (Err q) (Err r) e = let h : said_refusal q ≡ said_refusal r = cc in ap Err (refusal_once q r h)
