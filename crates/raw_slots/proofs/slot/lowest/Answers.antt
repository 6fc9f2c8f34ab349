-- `find` goes over the slots of the range, and asks the test of each that it comes to.
use Rattle.std.proofs.Common.{rules, ◌+◌, ◌-◌, ◌<◌, true, false, refl, sym, ◌∙◌, arith}
use Rattle.std.proofs.lemmas.Iterator.{YieldsList-from_range, YieldsList-from_map, first_from_find}
use Rattle.std.proofs.lemmas.Iterator.Adapters.{serves_from_places}
use Rattle.raw_slots.specs.SaidSlot.{slot}
use Rattle.raw_slots.proofs.FindLaws.{long, nth, within, Says, first_slot}
use Rattle.raw_slots.proofs.slot.lowest.Goals as goal

pub find-requires-clause-callable : goal.find-requires-clause-callable
find-requires-clause-callable g c =
    let a = c.args.among in
    serves_from_places (YieldsList-from_map _ slot (YieldsList-from_range a.start a.end (a.end - a.start) c.map.ensures.source refl) c.map.ensures.closure (λ x r q k. search rules))
    (λ x q k. search rules)
    (λ x i l e y h.
    let m : i < a.end - a.start = omega (arith, long a.start a.end) in
    rw (h ∙ e ∙ nth a.start a.end i x m) (c.requires (a.start + i) (omega arith) (omega arith)))

pub returns-clause-within : goal.returns-clause-within
returns-clause-within g c =
    let a = c.args.among in
    within a.start a.end (λ b s. Unit {0}) c.find.result (first_from_find _ _ c.find.result (λ s. Unit {0}) (λ s. Unit {0}) c.find.ensures.ran
    (YieldsList-from_map _ slot (YieldsList-from_range a.start a.end (a.end - a.start) c.map.ensures.source refl) c.map.ensures.closure (λ x r q k. search rules))
    (λ x q k. tt)
    (λ x q k. (search rules, tt)))

pub returns-clause-first : goal.returns-clause-first
returns-clause-first g c =
    let a = c.args.among in
    λ passes is. first_slot passes a.start a.end c.find.result (first_from_find _ _ c.find.result (Says passes a.start a.end true) (Says passes a.start a.end false) c.find.ensures.ran
    (YieldsList-from_map _ slot (YieldsList-from_range a.start a.end (a.end - a.start) c.map.ensures.source refl) c.map.ensures.closure (λ x r q k. search rules))
    (λ x q k h. sym (is x.0 true h (search rules)))
    (λ x q k. (search rules, λ h. sym (is x.0 false h (search rules)))))
