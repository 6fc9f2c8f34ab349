-- No two answers say the same: so a contract `said r ≡ rule ..` leaves one answer. Assumes nothing.
use mathlib.Core.Path.{◌≡◌, ap}
use Rattle.std.specs.Prelude.{Result, Ok, Err}
use Rattle.rules.proofs.TestLaws.{impossible}
use Rattle.memory_layout.specs.declared.refusal.Refusal.{Refusal}
use Rattle.memory_layout.specs.Said.{said_refusal}
use Rattle.memory_layout.proofs.SaidLaws.{refusal_once}
use Rattle.raw_table.specs.declared.search.Spot.{Spot}
use Rattle.raw_table.specs.declared.search.Spot.TheVariants.{Same, Free, Full}
use Rattle.raw_table.specs.declared.find.Found as Find
use Rattle.raw_table.specs.declared.find.Found.TheVariants.{At, Absent}
use Rattle.raw_table.specs.declared.insert.Inserted as Insert
use Rattle.raw_table.specs.declared.insert.Inserted.TheVariants.{New, Replaced}
use Rattle.raw_table.specs.Said.{said_spot, said_found, said_inserted}

pub spot_once : (a b : Spot) → said_spot a ≡ said_spot b → a ≡ b
spot_once (Same s m) (Same t n) e = let h : s.0 ≡ t.0 = cc in let g : m ≡ n = cc in λ i. Same (record { 0 = h i }) (g i)
spot_once (Same s m) (Free t n) e = impossible cc
spot_once (Same s m) (Full n) e = impossible cc
spot_once (Free s m) (Same t n) e = impossible cc
spot_once (Free s m) (Free t n) e = let h : s.0 ≡ t.0 = cc in let g : m ≡ n = cc in λ i. Free (record { 0 = h i }) (g i)
spot_once (Free s m) (Full n) e = impossible cc
spot_once (Full m) (Same t n) e = impossible cc
spot_once (Full m) (Free t n) e = impossible cc
spot_once (Full m) (Full n) e = let g : m ≡ n = cc in ap Full g

pub found_once : (a b : Result Find.Found Refusal) → said_found a ≡ said_found b → a ≡ b
found_once (Ok (At s m)) (Ok (At t n)) e = let h : s.0 ≡ t.0 = cc in let g : m ≡ n = cc in λ i. Ok (At (record { 0 = h i }) (g i))
found_once (Ok (At s m)) (Ok (Absent n)) e = impossible cc
found_once (Ok (At s m)) (Err r) e = impossible cc
found_once (Ok (Absent m)) (Ok (At t n)) e = impossible cc
found_once (Ok (Absent m)) (Ok (Absent n)) e = let g : m ≡ n = cc in λ i. Ok (Absent (g i))
found_once (Ok (Absent m)) (Err r) e = impossible cc
found_once (Err q) (Ok (At t n)) e = impossible cc
found_once (Err q) (Ok (Absent n)) e = impossible cc
found_once (Err q) (Err r) e = let h : said_refusal q ≡ said_refusal r = cc in ap Err (refusal_once q r h)

pub inserted_once : (a b : Result Insert.Inserted Refusal) → said_inserted a ≡ said_inserted b → a ≡ b
inserted_once (Ok (New s m)) (Ok (New t n)) e = let h : s.0 ≡ t.0 = cc in let g : m ≡ n = cc in λ i. Ok (New (record { 0 = h i }) (g i))
inserted_once (Ok (New s m)) (Ok (Replaced t n)) e = impossible cc
inserted_once (Ok (New s m)) (Err r) e = impossible cc
inserted_once (Ok (Replaced s m)) (Ok (New t n)) e = impossible cc
inserted_once (Ok (Replaced s m)) (Ok (Replaced t n)) e = let h : s.0 ≡ t.0 = cc in let g : m ≡ n = cc in λ i. Ok (Replaced (record { 0 = h i }) (g i))
inserted_once (Ok (Replaced s m)) (Err r) e = impossible cc
inserted_once (Err q) (Ok (New t n)) e = impossible cc
inserted_once (Err q) (Ok (Replaced t n)) e = impossible cc
inserted_once (Err q) (Err r) e = let h : said_refusal q ≡ said_refusal r = cc in ap Err (refusal_once q r h)
