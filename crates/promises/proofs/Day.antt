-- One history, computed: the desk example of document 01 with a refused call and a replaced value. So there are histories, and the definitions
-- give on one what the promises say of all. Assumes nothing.
use mathlib.Core.Path.{◌≡◌, refl}
use mathlib.Core.List.{List, [], ◌∷◌}
use mathlib.Core.Option.{none, some}
use Prim.Native.Nat.{ℕ, zero, suc}
use lib.ListN.{replicate}
use Rattle.rules.specs.Bytes.{le, le_bytes, same_bytes}
use Rattle.rules.specs.First.{numbers, first_of, first_some}
use Rattle.rules.specs.Layout.{slot_limit, are_sizes, is_power, is_slot_count, header, fresh_book}
use Rattle.rules.specs.Hash.{mixed, chunks, eights, hash_of}
use Rattle.rules.specs.Group.{hit, reports_after, reports, positions, first_empty}
use Rattle.rules.specs.Probe.{group_start}
use Rattle.rules.specs.Search.{decided, equal_key, examined, search_from, search_by}
use Rattle.rules.specs.Rows.{no_end, header_rows, init_rows}
use Rattle.rules.specs.Calls.{refused, by_rows, init_answer, init_book, find_rows, find_says, find_answer}
use Rattle.rules.specs.Calls.{insert_rows, insert_says, insert_answer, insert_book, set_control, written}
use Rattle.promises.specs.History.{Call, answer, History, after, accepted, given, last_accepted, value_found, lookup, book_of, last_of}

abbrev call : ℕ → ℕ → Call
call key value = record { k = 1; v = 1; key = key ∷ []; value = value ∷ []; old = 0 ∷ [] }

-- 01, 11, a key that is too long, 01 again
abbrev pub day : History 1 1 16
unfolding slot_limit are_sizes is_power is_slot_count init_rows init_answer by_rows first_some
day = record {
  buffer = replicate 96 0;
  count = 0;
  load = 0;
  made = refl;
  calls = call 0x01 0x0a ∷ call 0x11 0x0b ∷ record { k = 1; v = 1; key = 0x11 ∷ 0x00 ∷ []; value = 0x0c ∷ []; old = 0 ∷ [] } ∷ call 0x01 0x0d ∷ [];
}

-- sixteen keys in sixteen slots
abbrev calls : ℕ → ℕ → List Call
calls key zero = []
calls key (suc n) = call key 0 ∷ calls (suc key) n

abbrev pub crowd : History 1 1 16
unfolding slot_limit are_sizes is_power is_slot_count init_rows init_answer by_rows first_some
crowd = record { buffer = replicate 96 0; count = 0; load = 0; made = refl; calls = calls 0 16 }

pub computed : (lookup (book_of day) 1 1 (0x01 ∷ []) ≡ some (0x0d ∷ []))
    × (last_of day (0x01 ∷ []) ≡ some (0x0d ∷ []))
    × (lookup (book_of day) 1 1 (0x11 ∷ []) ≡ some (0x0b ∷ []))
    × (lookup (book_of day) 1 1 (0x03 ∷ []) ≡ none)
    × (answer (book_of crowd) (call 16 0) ≡ refused (no_end 2))
unfolding le le_bytes same_bytes numbers first_of first_some slot_limit are_sizes is_power is_slot_count header fresh_book mixed chunks eights hash_of hit reports_after
    reports positions first_empty group_start decided equal_key examined search_from search_by header_rows init_rows by_rows init_answer init_book find_rows find_says
    find_answer insert_rows insert_says insert_answer insert_book set_control written after accepted given last_accepted value_found lookup
computed = (refl, refl, refl, refl, refl)
