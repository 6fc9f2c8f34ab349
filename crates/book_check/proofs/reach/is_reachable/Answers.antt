-- The place that is found is the first at which the probe order meets the slot.
use Rattle.std.proofs.Common.{rules, tests, ◌≡◌, ℕ, Option, Some, None, true, false, eqb, sym, ap, ◌∙◌, arith}
use Rattle.std.proofs.lemmas.Iterator.{first_from_Range}
use Rattle.std.proofs.lemmas.Option.{MatchOption-at_some}
use Rattle.rules.specs.Probe.{slot_at}
use Rattle.rules.specs.Check.{place_of, reachable_at, reachable}
use Rattle.memory_layout.specs.TableParts.{in_table}
use Rattle.book_check.proofs.RangeLaws.{said_number, Says, first_by}
use Rattle.book_check.proofs.reach.is_reachable.Goals as goal
use Rattle.book_check.proofs.reach.is_reachable.Goals.{After-find, In-Some}

met : (c : After-find) → said_number c.find.result ≡ place_of c.key_start-b.result c.args.table.now.slots.n c.args.slot.0
unfolding place_of
met c =
    let n = c.args.table.now.slots.n in
    let at = λ (m : ℕ). eqb (slot_at c.key_start-b.result n m) c.args.slot.0 in
    first_by at n c.find.result (first_from_Range _ _ _ c.find.result (Says at n true) (Says at n false) c.find.ensures.ran (λ x q k l. search (rules, tests)) (λ x q k. (search rules, λ l. search (rules, tests))))

-- what was found decides
decides : (c : After-find) (r : Option ℕ) → c.find.result ≡ r → in_table c.args.table.now reachable_at c.key_start-b.result (said_number r) ≡ in_table c.args.table.now reachable c.args.slot.0
unfolding reachable
decides c r e = rw (← c.key_start-b.ensures.0) (ap (in_table c.args.table.now reachable_at c.key_start-b.result) (ap said_number (sym e) ∙ met c))

pub is_filled-requires : goal.is_filled-requires
is_filled-requires c =
    let n = c.args.table.now.slots.n in
    let w = MatchOption-at_some _ _ c.in-Some.n c.in-Some.is (first_from_Range _ _ _ c.find.result (λ i. Unit {0}) (λ i. Unit {0}) c.find.ensures.ran (λ x q k. tt) (λ x q k. (search rules, tt))) in
    (c.key_start-b.ensures.1, omega (arith, w.1))

pub returns-in-Some : goal.returns-in-Some
unfolding reachable_at said_number
returns-in-Some c = c.is_filled.ensures ∙ decides (goal.at.returns-in-Some c).After-find (Some c.in-Some.n) c.in-Some.is

pub returns-in-None : goal.returns-in-None
unfolding reachable_at said_number
returns-in-None c = decides (goal.at.returns-in-None c).After-find None c.in-None.is
