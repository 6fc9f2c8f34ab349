-- The first group decides, or the whole is what the rest gives: after its first candidate it is examined again, and where it has none it is left behind.
-- Assumes nothing.
use mathlib.Core.Path.{◌≡◌, sym, ap, ◌∙◌}
use mathlib.Core.Option.{none, some}
use Prim.Native.Nat.{ℕ, ◌/◌, ◌%◌, ◌≤◌, ◌<◌}
use native.Mathlib.Nat.{mod-lt}
use native.Mathlib.Omega.{arith}
use Rattle.rules.specs.Bytes.{same_bytes}
use Rattle.rules.specs.Layout.{key_of}
use Rattle.rules.specs.Hash.{tag, tag_of, start_of}
use Rattle.rules.specs.Group.{reports, first_empty}
use Rattle.rules.specs.Probe.{group_start}
use Rattle.rules.specs.Search.{group_at, equal_key, same, free, spot_of}
use Rattle.rules.proofs.GroupLaws.{empty_lt}
use Rattle.rules.proofs.SearchLaws.{Rest, at_start, at_same, at_free, at_next}
use Rattle.group_query.specs.Marks.{word, said_first}
use Rattle.raw_table.specs.Seq.{seq_at}
use Rattle.memory_layout.proofs.CheckedLaws.{passed_in}
use Rattle.raw_table.proofs.SeqLaws.{seq_stands, seq_room}
use Rattle.raw_table.proofs.TurnLaws.{Left, group_long, all_left, none_left, lowest_lt, tried_yes}
use Rattle.raw_table.proofs.search.search.Goals as goal
use Rattle.raw_table.proofs.search.search.Goals.{After-first_empty, After-new-ps, After-query_at-query, Else-has_candidate, In-Some, Joined-has_candidate, else-has_candidate+in_default, then-has_candidate+else-holds}

-- the probe before its first group, and where that starts
begun : (c : After-new-ps) → c.new-ps.result ≡ seq_at (start_of c.args.table.now.slots.n c.args.key.now) c.args.table.now.slots.n 0
begun c =
    let S = c.args.table.now.slots.n in
    c.new-ps.ensures ∙ ap (λ (h : ℕ). seq_at (h % S) S 0) (c.h1.ensures.0 ∙ c.hash-hash.ensures)

stands : (c : After-new-ps)
    → (c.new-ps.result.index ≡ group_start 8 (start_of c.args.table.now.slots.n c.args.key.now) c.args.table.now.slots.n 0) × (c.new-ps.result.index < c.args.table.now.slots.n)
stands c = let a = c.args in let t = a.table.now in seq_stands (start_of t.slots.n a.key.now) t.slots.n 0 c.new-ps.result (begun c) t.slots.is_count

some_group : (c : After-new-ps) → 0 < c.args.table.now.slots.n / 8
some_group c = omega (arith, c.args.table.now.slots.is_count.least)

tag_is : (c : After-new-ps) → c.h2-h2.result ≡ tag_of c.args.key.now
tag_is c = c.h2-h2.ensures.0 ∙ ap tag c.hash-hash.ensures

-- the candidates, all of which are still to be tried
left_is : (c : After-query_at-query) → Left c.args.table.now.bytes.now c.args.key.now c.args.table.now.sizes.k c.args.table.now.sizes.v c.args.table.now.slots.n c.new-ps.result.index c.query_at-query.result.eq
left_is c =
    let a = c.args in
    let t = a.table.now in
    let p = c.new-ps.result.index in
    all_left t.bytes.now a.key.now t.sizes.k t.sizes.v t.slots.n p (passed_in t) (stands (goal.at.After-query_at-query c).After-new-ps).1 c.query_at-query.result.eq
    (c.query_at-query.ensures.0 ∙ ap (λ (h : ℕ). word (reports h (group_at 8 t.bytes.now t.sizes.k t.sizes.v t.slots.n p))) (tag_is (goal.at.After-query_at-query c).After-new-ps))

-- there is none
no_key : (c : Else-has_candidate) → equal_key 8 reports c.args.table.now.bytes.now c.args.table.now.sizes.k c.args.table.now.sizes.v c.args.table.now.slots.n c.args.key.now c.new-ps.result.index ≡ none
no_key c =
    let a = c.args in
    let t = a.table.now in
    none_left t.bytes.now a.key.now t.sizes.k t.sizes.v t.slots.n c.new-ps.result.index c.query_at-query.result.eq (left_is (goal.at.Else-has_candidate c).After-query_at-query) c.if-has_candidate.false

-- what the query says of the group's empty positions
empty_is : (c : After-first_empty)
    → said_first c.first_empty.result ≡ first_empty (group_at 8 c.args.table.now.bytes.now c.args.table.now.sizes.k c.args.table.now.sizes.v c.args.table.now.slots.n c.new-ps.result.index)
empty_is c =
    let a = c.args in
    let t = a.table.now in
    let p = c.new-ps.result.index in
    c.first_empty.ensures (group_at 8 t.bytes.now t.sizes.k t.sizes.v t.slots.n p) (group_long t.bytes.now a.key.now t.sizes.k t.sizes.v t.slots.n p (passed_in t) (stands (goal.at.After-first_empty c).After-new-ps).1) c.query_at-query.ensures.1

-- the first empty position, where the query tells one
hole_is : (c : In-Some)
    → first_empty (group_at 8 c.args.table.now.bytes.now c.args.table.now.sizes.k c.args.table.now.sizes.v c.args.table.now.slots.n c.new-ps.result.index) ≡ some c.in-Some.m
hole_is c = sym (empty_is (goal.at.In-Some c).After-first_empty) ∙ ap said_first c.in-Some.is

-- where the ways past the first group meet, the rest of the search is still to come
joined : (c : Joined-has_candidate)
    → (c.if-has_candidate.n ≤ c.args.table.now.slots.n / 8)
    × (c.if-has_candidate.ps ≡ seq_at (start_of c.args.table.now.slots.n c.args.key.now) c.args.table.now.slots.n c.if-has_candidate.n)
    × (spot_of c.args.table.now.bytes.now c.args.table.now.sizes.k c.args.table.now.sizes.v c.args.table.now.slots.n c.args.key.now
    ≡ Rest 8 reports c.args.table.now.bytes.now c.args.table.now.sizes.k c.args.table.now.sizes.v c.args.table.now.slots.n c.args.key.now (c.args.table.now.slots.n / 8) c.if-has_candidate.n)
joined c =
    let a = c.args in
    let t = a.table.now in
    let b = start_of t.slots.n a.key.now in
    let whole = at_start 8 reports t.bytes.now t.sizes.k t.sizes.v t.slots.n a.key.now in
    let r = goal.at.Joined-has_candidate c in
    let p = c.new-ps.result.index in
    let group = group_at 8 t.bytes.now t.sizes.k t.sizes.v t.slots.n p in
    elim c.if-has_candidate.branch [
      | then-has_candidate+else-holds w ↦ (omega (arith, w.n-is), rw (w.ps-is, w.n-is) (begun r.After-new-ps), rw w.n-is whole)
      | else-has_candidate+in_default w ↦
          let key = none_left t.bytes.now a.key.now t.sizes.k t.sizes.v t.slots.n p c.query_at-query.result.eq (left_is r.After-query_at-query) w.if-has_candidate.false in
          let hole = w.first_empty.ensures group (group_long t.bytes.now a.key.now t.sizes.k t.sizes.v t.slots.n p (passed_in t) (stands r.After-new-ps).1) c.query_at-query.ensures.1 in (
            omega (arith, some_group r.After-new-ps),
            rw (w.ps-is, w.n-is) (w.advance-ps.ensures b 0 (begun r.After-new-ps)),
            rw w.n-is (whole ∙ at_next 8 reports t.bytes.now t.sizes.k t.sizes.v t.slots.n a.key.now (t.slots.n / 8) 0 p (some_group r.After-new-ps) (stands r.After-new-ps).0 key (sym hole ∙ ap said_first w.in_default.is)),
          )
    ]

pub query_at-query-requires : goal.query_at-query-requires
query_at-query-requires c = (stands c).1

pub slot_of-slot-requires : goal.slot_of-slot-requires
slot_of-slot-requires c =
    let a = c.args in
    let t = a.table.now in
    let l = lowest_lt t.bytes.now a.key.now t.sizes.k t.sizes.v t.slots.n c.new-ps.result.index c.query_at-query.result.eq c.lowest_of.result (left_is (goal.at.slot_of-slot-requires c).After-query_at-query) c.lowest_of.ensures in
    ((stands (goal.at.slot_of-slot-requires c).After-new-ps).1, omega (arith, l))

pub returns-then-holds : goal.returns-then-holds
returns-then-holds c =
    let a = c.args in
    let t = a.table.now in
    let p = c.new-ps.result.index in
    let m = c.lowest_of in
    let slot = c.slot_of-slot.ensures.0 in
    let h = ap (λ (i : ℕ). same_bytes (key_of t.bytes.now t.sizes.k t.sizes.v i) a.key.now) (sym slot) ∙ sym c.holds.ensures ∙ c.if-holds.true in
    let k = tried_yes t.bytes.now a.key.now t.sizes.k t.sizes.v t.slots.n p c.query_at-query.result.eq m.result (left_is (goal.at.returns-then-holds c).After-query_at-query) m.ensures h in
    ap (λ (i : ℕ). same i 1) slot
    ∙ sym (at_start 8 reports t.bytes.now t.sizes.k t.sizes.v t.slots.n a.key.now ∙ at_same 8 reports t.bytes.now t.sizes.k t.sizes.v t.slots.n a.key.now (t.slots.n / 8) 0 p (some_group (goal.at.returns-then-holds c).After-new-ps) (stands (goal.at.returns-then-holds c).After-new-ps).0 m.result k)

pub slot_of-requires : goal.slot_of-requires
slot_of-requires c =
    let a = c.args in
    let t = a.table.now in
    let p = c.new-ps.result.index in
    let l = empty_lt (group_at 8 t.bytes.now t.sizes.k t.sizes.v t.slots.n p) c.in-Some.m (hole_is c) in
    ((stands (goal.at.slot_of-requires c).After-new-ps).1, omega (arith, l, group_long t.bytes.now a.key.now t.sizes.k t.sizes.v t.slots.n p (passed_in t) (stands (goal.at.slot_of-requires c).After-new-ps).1))

pub returns-in-Some : goal.returns-in-Some
returns-in-Some c =
    let a = c.args in
    let t = a.table.now in
    ap (λ (i : ℕ). free i 1) c.slot_of.ensures.0
    ∙ sym (at_start 8 reports t.bytes.now t.sizes.k t.sizes.v t.slots.n a.key.now ∙ at_free 8 reports t.bytes.now t.sizes.k t.sizes.v t.slots.n a.key.now (t.slots.n / 8) 0 c.new-ps.result.index (some_group (goal.at.returns-in-Some c).After-new-ps) (stands (goal.at.returns-in-Some c).After-new-ps).0 c.in-Some.m (no_key (goal.at.returns-in-Some c).Else-has_candidate) (hole_is (goal.at.returns-in-Some c).In-Some))

pub advance-ps-requires : goal.advance-ps-requires
advance-ps-requires c =
    let a = c.args in
    let t = a.table.now in
    let s = t.slots.is_count in
    seq_room (start_of t.slots.n a.key.now) t.slots.n 0 c.new-ps.result (begun (goal.at.advance-ps-requires c).After-new-ps) s (mod-lt _ (omega (arith, s.least))) (some_group (goal.at.advance-ps-requires c).After-new-ps)

pub search_from-requires : goal.search_from-requires
search_from-requires c = let j = joined (goal.at.search_from-requires c).Joined-has_candidate in (tag_is (goal.at.search_from-requires c).After-new-ps, j.0, j.1)

pub returns : goal.returns
returns c = c.search_from.ensures ∙ sym (joined (goal.at.returns c).Joined-has_candidate).2
