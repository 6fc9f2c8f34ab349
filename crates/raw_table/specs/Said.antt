-- What each answer of the code says in the rules' terms.
use Rattle.std.specs.Prelude.{Result, Ok, Err}
use Rattle.rules.specs.Search as Rule
use Rattle.rules.specs.Calls as Calls
use Rattle.rules.specs.Calls.{Answer}
use Rattle.memory_layout.specs.declared.refusal.Refusal.{Refusal}
use Rattle.memory_layout.specs.Said.{said_refusal}
use Rattle.raw_table.specs.declared.search.Spot.{Spot}
use Rattle.raw_table.specs.declared.search.Spot.TheVariants.{Same, Free, Full}
use Rattle.raw_table.specs.declared.find.Found.{Found}
use Rattle.raw_table.specs.declared.find.Found.TheVariants as found
use Rattle.raw_table.specs.declared.insert.Inserted.{Inserted}
use Rattle.raw_table.specs.declared.insert.Inserted.TheVariants as inserted

abbrev pub said_spot : Spot → Rule.Spot
said_spot (Same s n) = Rule.same s.0 n
said_spot (Free s n) = Rule.free s.0 n
said_spot (Full n) = Rule.full n

abbrev pub said_found : Result Found Refusal → Answer
said_found (Ok (found.At s n)) = Calls.at_slot s.0 n
said_found (Ok (found.Absent n)) = Calls.absent n
said_found (Err r) = Calls.refused (said_refusal r)

abbrev pub said_inserted : Result Inserted Refusal → Answer
said_inserted (Ok (inserted.New s n)) = Calls.new s.0 n
said_inserted (Ok (inserted.Replaced s n)) = Calls.replaced s.0 n
said_inserted (Err r) = Calls.refused (said_refusal r)
