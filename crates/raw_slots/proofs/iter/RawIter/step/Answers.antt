-- The walk moves as the rule says by the answer. That place fits, by the law `next_within`.
use Rattle.std.proofs.Common.{◌≡◌, ℕ, Option, Some, None, sym, ap, ◌∙◌, arith}
use native.Mathlib.Numerals.{add-one}
use Rattle.rules.specs.Calls.{next_answer, moved_to, step_to}
use Rattle.memory_layout.specs.declared.kinds.Slot.{Slot}
use Rattle.raw_slots.specs.declared.iter.RawIter.{RawIter}
use Rattle.raw_slots.specs.SaidIter.{said_next, said_occupied}
use Rattle.raw_slots.proofs.WalkLaws.{next_within}
use Rattle.raw_slots.proofs.iter.RawIter.step.Goals as goal
use Rattle.raw_slots.proofs.iter.RawIter.step.Goals.{In_ok-answer}

abbrev moves : RawIter → ℕ → RawIter
moves w n = record { table = w.table; k = w.k; v = w.v; next = n }

-- what the rule answers is the occupied slot that was found, or that there is none
answers : (c : In_ok-answer) (found : Option (Slot × ℕ)) → c.in_ok-answer.answer ≡ found
    → said_occupied found ≡ next_answer c.args.self.now.table.now c.args.self.now.k c.args.self.now.v c.args.self.now.next
unfolding said_next
answers c found e = ap said_occupied (sym e) ∙ c.in_ok-answer.ensures

pub returns-in_err-answer-clause-moved : goal.returns-in_err-answer-clause-moved
unfolding step_to moved_to said_next
returns-in_err-answer-clause-moved c = ap (λ n. moves c.args.self.now (moved_to c.args.self.now.next n)) c.in_err-answer.ensures

pub overflow_add-self : goal.overflow_add-self
unfolding said_occupied
overflow_add-self c =
    let w = c.args.self.now in
    let e = answers (goal.at.overflow_add-self c).In_ok-answer (Some (c.in-Some.slot, c.in-Some.field-0-1)) c.in-Some.is in
    let f = next_within w.table.now w.k w.v w.next c.in-Some.slot.0 c.in-Some.field-0-1 (sym e) in
    omega (arith, f)

pub returns-in-Some-clause-moved : goal.returns-in-Some-clause-moved
unfolding step_to moved_to said_occupied
returns-in-Some-clause-moved c =
    let w = c.args.self.now in
    ap (moves w) (add-one c.in-Some.slot.0 ∙ ap (moved_to w.next) (answers (goal.at.returns-in-Some-clause-moved c).In_ok-answer (Some (c.in-Some.slot, c.in-Some.field-0-1)) c.in-Some.is))

pub returns-in_default-clause-moved : goal.returns-in_default-clause-moved
unfolding step_to moved_to said_occupied
returns-in_default-clause-moved c =
    let w = c.args.self.now in
    ap (moves w) (ap (moved_to w.next) (answers (goal.at.returns-in_default-clause-moved c).In_ok-answer None c.in_default.is))
