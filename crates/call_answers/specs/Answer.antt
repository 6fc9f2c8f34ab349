-- What a contract reads of an `Answer`: what it is made of, and its words.
use Rattle.std.specs.Prelude.{ℕ, List, ◌++◌, Option, Some, None, Result, Ok, Err, ⊤, codes}
use Rattle.std.specs.Fmt.{decimal}
use Rattle.rules.specs.Rows as rows
use Rattle.memory_layout.specs.declared.kinds.Slot.{Slot}
use Rattle.memory_layout.specs.declared.refusal.Refusal.{Refusal}
use Rattle.memory_layout.specs.Said.{said_refusal}
use Rattle.raw_table.specs.declared.find.Found.{Found}
use Rattle.raw_table.specs.declared.find.Found.TheVariants as found
use Rattle.raw_table.specs.declared.insert.Inserted.{Inserted}
use Rattle.raw_table.specs.declared.insert.Inserted.TheVariants as inserted
use Rattle.call_answers.specs.declared.answer.Answer.{Answer}
use Rattle.call_answers.specs.declared.answer.Answer.TheVariants.{Fine, At, Absent, New, Replaced, Occupied, Done, Refused}

abbrev pub answer_of_done : Result ⊤ Refusal → Answer
answer_of_done (Ok done) = Fine
answer_of_done (Err refusal) = Refused refusal

abbrev pub answer_of_found : Result Found Refusal → Answer
answer_of_found (Ok (found.At slot count)) = At slot count
answer_of_found (Ok (found.Absent count)) = Absent count
answer_of_found (Err refusal) = Refused refusal

abbrev pub answer_of_inserted : Result Inserted Refusal → Answer
answer_of_inserted (Ok (inserted.New slot count)) = New slot count
answer_of_inserted (Ok (inserted.Replaced slot count)) = Replaced slot count
answer_of_inserted (Err refusal) = Refused refusal

abbrev pub answer_of_next : Result (Option (Slot × ℕ)) Refusal → Answer
answer_of_next (Ok (Some at)) = Occupied at.0 at.1
answer_of_next (Ok None) = Done
answer_of_next (Err refusal) = Refused refusal

-- two numbers with a space between
abbrev pub pair_text : ℕ → ℕ → List ℕ
pair_text m n = decimal m ++ (codes " " ++ decimal n)

-- the row of a refusal and its four further numbers
abbrev pub refusal_text : rows.Refusal → List ℕ
refusal_text r = codes "no " ++ (decimal r.row ++ (codes " " ++ (decimal r.slot ++ (codes " " ++ (decimal r.expected ++ (codes " " ++ pair_text r.found r.count))))))

-- an answer in the list's words
abbrev pub answer_text : Answer → List ℕ
answer_text Fine = codes "ok"
answer_text (At slot count) = codes "at " ++ pair_text slot.0 count
answer_text (Absent count) = codes "absent " ++ decimal count
answer_text (New slot count) = codes "new " ++ pair_text slot.0 count
answer_text (Replaced slot count) = codes "replaced " ++ pair_text slot.0 count
answer_text (Occupied slot control) = codes "slot " ++ pair_text slot.0 control
answer_text Done = codes "done"
answer_text (Refused refusal) = refusal_text (said_refusal refusal)
