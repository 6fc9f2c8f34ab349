-- No two answers of iterating say the same: so its contract leaves one answer. Assumes nothing.
use mathlib.Core.Path.{◌≡◌, refl, ap}
use Prim.Native.Nat.{ℕ}
use Rattle.std.specs.Prelude.{Option, Some, None, Result, Ok, Err}
use Rattle.rules.proofs.TestLaws.{impossible}
use Rattle.memory_layout.specs.declared.kinds.Slot.{Slot}
use Rattle.memory_layout.specs.declared.refusal.Refusal.{Refusal}
use Rattle.memory_layout.specs.Said.{said_refusal}
use Rattle.memory_layout.proofs.SaidLaws.{refusal_once}
use Rattle.raw_slots.specs.SaidIter.{said_occupied, said_next}

pub occupied_once : (a b : Option (Slot × ℕ)) → said_occupied a ≡ said_occupied b → a ≡ b
unfolding said_occupied
occupied_once (Some p) (Some q) e =
    let h : p.0.0 ≡ q.0.0 = cc in
    let g : p.1 ≡ q.1 = cc in
    λ i. Some (record { 0 = h i }, g i)
occupied_once (Some p) None e = impossible cc
occupied_once None (Some q) e = impossible cc
occupied_once None None e = refl

pub next_once : (a b : Result (Option (Slot × ℕ)) Refusal) → said_next a ≡ said_next b → a ≡ b
unfolding said_next said_occupied
next_once (Ok a) (Ok b) e = ap Ok (occupied_once a b e)
next_once (Ok (Some p)) (Err r) e = impossible cc
next_once (Ok None) (Err r) e = impossible cc
next_once (Err q) (Ok (Some p)) e = impossible cc
next_once (Err q) (Ok None) e = impossible cc
next_once (Err q) (Err r) e = let h : said_refusal q ≡ said_refusal r = cc in ap Err (refusal_once q r h)
