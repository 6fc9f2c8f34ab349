use mathlib.Core.Path.{◌≡◌, refl, sym, ap, ◌∙◌}
use mathlib.Core.Option.{none, some}
use Prim.Native.Nat.{ℕ, ◌+◌, ◌/◌, ◌<◌}
use native.Mathlib.Nat.{mod-lt}
use native.Mathlib.Numerals.{add-one}
use native.Mathlib.Omega.{arith}
use Rattle.rules.specs.Bytes.{same_bytes}
use Rattle.rules.specs.Layout.{key_of}
use Rattle.rules.specs.Hash.{start_of}
use Rattle.rules.specs.Group.{reports, first_empty}
use Rattle.rules.specs.Probe.{group_start}
use Rattle.rules.specs.Search.{group_at, same, free, full, equal_key}
use Rattle.rules.proofs.GroupLaws.{empty_lt}
use Rattle.rules.proofs.SearchLaws.{at_end, at_same, at_free, at_next}
use Rattle.group_query.specs.Marks.{word, said_first}
use Rattle.raw_table.specs.Said.{said_spot}
use Rattle.raw_table.specs.Seq.{seq_at}
use Rattle.memory_layout.proofs.CheckedLaws.{passed_in}
use Rattle.raw_table.proofs.SeqLaws.{seq_stands, seq_room}
use Rattle.raw_table.proofs.TurnLaws.{Holds, group_long, all_left, none_left, lowest_lt, tried_yes, tried_no, rest_less}
use Rattle.raw_table.proofs.search.search_from.Goals as goal
use Rattle.raw_table.proofs.search.search_from.Goals.{After-first_empty, After-holds, After-loop-left, In-Some, In-search}

-- where a turn's group starts
start_is : (c : In-search)
    → (c.search.ps.index ≡ group_start 8 (start_of c.args.table.slots.n c.args.key.now) c.args.table.slots.n c.search.n)
    × (c.search.ps.index < c.args.table.slots.n)
start_is c =
    let a = c.args in
    let t = a.table in
    seq_stands (start_of t.slots.n a.key.now) t.slots.n c.search.n c.search.ps c.search.invariant.1 t.slots.is_count

-- what the query says of the group's empty positions
empty_is : (c : After-first_empty)
    → said_first c.first_empty.result ≡ first_empty (group_at 8 c.args.table.bytes.now c.args.table.sizes.k c.args.table.sizes.v c.args.table.slots.n c.search.ps.index)
empty_is c =
    let a = c.args in
    let t = a.table in
    let p = c.search.ps.index in
    c.first_empty.ensures (group_at 8 t.bytes.now t.sizes.k t.sizes.v t.slots.n p) (group_long t.bytes.now a.key.now t.sizes.k t.sizes.v t.slots.n p (passed_in t) (start_is (goal.at.After-first_empty c).In-search).1) c.query_at-query.ensures.1

-- no candidate has the key
no_key : (c : After-loop-left)
    → equal_key 8 reports c.args.table.bytes.now c.args.table.sizes.k c.args.table.sizes.v c.args.table.slots.n c.args.key.now c.search.ps.index ≡ none
no_key c =
    let a = c.args in
    let t = a.table in
    none_left t.bytes.now a.key.now t.sizes.k t.sizes.v t.slots.n c.search.ps.index c.loop-left.left c.loop-left.invariant.0 c.loop-left-test.false

-- the lowest candidate has the key, or not
tried_is : (c : After-holds)
    → Holds c.args.table.bytes.now c.args.key.now c.args.table.sizes.k c.args.table.sizes.v c.args.table.slots.n c.search.ps.index c.lowest_of.result ≡ c.holds.result
tried_is c =
    let a = c.args in
    let t = a.table in
    ap (λ (i : ℕ). same_bytes (key_of t.bytes.now t.sizes.k t.sizes.v i) a.key.now) (sym c.slot_of-slot.ensures.0) ∙ sym c.holds.ensures

-- the first empty position, where the query tells one
hole_is : (c : In-Some)
    → first_empty (group_at 8 c.args.table.bytes.now c.args.table.sizes.k c.args.table.sizes.v c.args.table.slots.n c.search.ps.index) ≡ some c.in-Some.m
hole_is c = sym (empty_is (goal.at.In-Some c).After-first_empty) ∙ ap said_first c.in-Some.is

pub search-init : goal.search-init
search-init c = (c.requires.1, c.requires.2, refl, refl)

pub query_at-query-requires : goal.query_at-query-requires
query_at-query-requires c = (start_is (goal.at.query_at-query-requires c).In-search).1

pub loop-left-init : goal.loop-left-init
loop-left-init c =
    let a = c.args in
    let t = a.table in
    let p = c.search.ps.index in
    let e = c.query_at-query.ensures.0 ∙ ap (λ (h : ℕ). word (reports h (group_at 8 t.bytes.now t.sizes.k t.sizes.v t.slots.n p))) c.requires.0 in
    (all_left t.bytes.now a.key.now t.sizes.k t.sizes.v t.slots.n p (passed_in t) (start_is (goal.at.loop-left-init c).In-search).1 c.query_at-query.result.eq e, refl)

pub slot_of-slot-requires : goal.slot_of-slot-requires
slot_of-slot-requires c =
    let a = c.args in
    let t = a.table in
    let l = lowest_lt t.bytes.now a.key.now t.sizes.k t.sizes.v t.slots.n c.search.ps.index c.loop-left.left c.lowest_of.result c.loop-left.invariant.0 c.lowest_of.ensures in
    ((start_is (goal.at.slot_of-slot-requires c).In-search).1, omega (arith, l))

pub loop-left-smaller : goal.loop-left-smaller
loop-left-smaller c =
    let l = c.loop-left in
    let a = c.args in
    let t = a.table in
    rest_less t.bytes.now a.key.now t.sizes.k t.sizes.v t.slots.n c.search.ps.index l.left c.without_lowest-left.result l.invariant.0 c.without_lowest-left.ensures

pub loop-left-preserved : goal.loop-left-preserved
loop-left-preserved c =
    let l = c.loop-left in
    let a = c.args in
    let t = a.table in (
      tried_no t.bytes.now a.key.now t.sizes.k t.sizes.v t.slots.n c.search.ps.index l.left c.lowest_of.result c.without_lowest-left.result
          l.invariant.0 c.lowest_of.ensures c.without_lowest-left.ensures (tried_is (goal.at.loop-left-preserved c).After-holds ∙ c.if-holds.false),
      l.invariant.1,
    )

pub slot_of-requires : goal.slot_of-requires
slot_of-requires c =
    let a = c.args in
    let t = a.table in
    let p = c.search.ps.index in
    let l = empty_lt (group_at 8 t.bytes.now t.sizes.k t.sizes.v t.slots.n p) c.in-Some.m (hole_is c) in
    ((start_is (goal.at.slot_of-requires c).In-search).1, omega (arith, l, group_long t.bytes.now a.key.now t.sizes.k t.sizes.v t.slots.n p (passed_in t) (start_is (goal.at.slot_of-requires c).In-search).1))

pub advance-ps-requires : goal.advance-ps-requires
advance-ps-requires c =
    let a = c.args in
    let t = a.table in
    let s = t.slots.is_count in
    seq_room (start_of t.slots.n a.key.now) t.slots.n c.search.n c.search.ps c.search.invariant.1 s (mod-lt _ (omega (arith, s.least))) c.search-test.true

pub search-preserved : goal.search-preserved
search-preserved c =
    let a = c.args in
    let t = a.table in
    let l = c.search in
    let b = start_of t.slots.n a.key.now in (
      omega (arith, c.search-test.true),
      c.advance-ps.ensures b l.n l.invariant.1 ∙ ap (seq_at b t.slots.n) (sym (add-one l.n)),
      c.loop-left.invariant.1 ∙ l.invariant.2,
      l.invariant.3 ∙ at_next 8 reports t.bytes.now t.sizes.k t.sizes.v t.slots.n a.key.now (t.slots.n / 8) l.n l.ps.index c.search-test.true (start_is (goal.at.search-preserved c).In-search).0 (no_key (goal.at.search-preserved c).After-loop-left)
          (sym (empty_is (goal.at.search-preserved c).After-first_empty) ∙ ap said_first c.in_default.is),
    )

pub returns-after-search : goal.returns-after-search
returns-after-search c =
    let a = c.args in
    let t = a.table in
    let l = c.search in
    ap said_spot l.invariant.2 ∙ ap full (omega arith)
    ∙ sym (l.invariant.3 ∙ at_end 8 reports t.bytes.now t.sizes.k t.sizes.v t.slots.n a.key.now (t.slots.n / 8) l.n (omega arith))

pub returns-then-holds : goal.returns-then-holds
returns-then-holds c =
    let a = c.args in
    let t = a.table in
    let l = c.search in
    let o = c.loop-left in
    let m = c.lowest_of in
    let k = tried_yes t.bytes.now a.key.now t.sizes.k t.sizes.v t.slots.n l.ps.index o.left m.result o.invariant.0 m.ensures (tried_is (goal.at.returns-then-holds c).After-holds ∙ c.if-holds.true) in
    ap (λ (i : ℕ). same i (l.n + 1)) c.slot_of-slot.ensures.0
    ∙ sym (l.invariant.3 ∙ at_same 8 reports t.bytes.now t.sizes.k t.sizes.v t.slots.n a.key.now (t.slots.n / 8) l.n l.ps.index c.search-test.true (start_is (goal.at.returns-then-holds c).In-search).0 m.result k)

pub returns-in-Some : goal.returns-in-Some
returns-in-Some c =
    let a = c.args in
    let t = a.table in
    let l = c.search in
    ap (λ (i : ℕ). free i (l.n + 1)) c.slot_of.ensures.0
    ∙ sym (l.invariant.3 ∙ at_free 8 reports t.bytes.now t.sizes.k t.sizes.v t.slots.n a.key.now (t.slots.n / 8) l.n l.ps.index c.search-test.true (start_is (goal.at.returns-in-Some c).In-search).0 c.in-Some.m (no_key (goal.at.returns-in-Some c).After-loop-left) (hole_is (goal.at.returns-in-Some c).In-Some))
