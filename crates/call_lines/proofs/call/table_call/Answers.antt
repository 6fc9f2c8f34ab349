-- The longest line: its word, two numbers and three byte strings, each before what was left behind it.
use Rattle.std.proofs.Common.{rules, arith, ◌≡◌, ℕ, List, ◌++◌}
use Rattle.std.proofs.lemmas.Slice.Eq.{text_from_reads}
use Rattle.std.specs.Prelude.{codes}
use Rattle.call_lines.specs.Call.{number_then, bytes_then}
use Rattle.call_lines.proofs.call.table_call.Goals as goal

inserted : (word r0 r1 r2 r3 r4 r5 : List ℕ) (k v : ℕ) (key value old : List ℕ) → word ≡ codes "insert"
    → r0 ≡ number_then k r1 → r1 ≡ number_then v r2 → r2 ≡ bytes_then key r3 → r3 ≡ bytes_then value r4 → r4 ≡ bytes_then old r5
    → word ++ r0 ≡ codes "insert" ++ number_then k (number_then v (bytes_then key (bytes_then value (bytes_then old r5))))
inserted word r0 r1 r2 r3 r4 r5 k v key value old w e0 e1 e2 e3 e4 = rw (w, e0, e1, e2, e3, e4)

pub returns-in_ok-bytes-in-insert-3-clause-line : goal.returns-in_ok-bytes-in-insert-3-clause-line
returns-in_ok-bytes-in-insert-3-clause-line c =
    inserted _ _ _ _ _ _ _ _ _ _ _ _ (text_from_reads c.args.word.now (codes "insert") (omega arith) (search rules))
    c.in_ok-k.ensures.number c.in_ok-v.ensures.number c.in_ok-bytes-in-insert.ensures.bytes c.in_ok-bytes-in-insert-2.ensures.bytes
    c.in_ok-bytes-in-insert-3.ensures.bytes
