-- What a search says of a sound book, for any width that divides 16 and any honest query. A key that stands somewhere is found, since each slot
-- before its own is occupied, its control byte is its tag, and mirrors stand for the wrap; an empty slot is the first of the key's order; and only
-- a book without an empty slot is full, since the groups hold each slot. Assumes nothing.
use mathlib.Core.Path.{◌≡◌, refl, sym, ap, ◌∙◌}
use mathlib.Core.Logic.{dite, ◌↔◌}
use mathlib.Core.Bool.{Bool, true, false, not}
use mathlib.Core.List.{List}
use mathlib.Core.Option.{none, some}
use Prim.Native.Nat.{ℕ, ◌+◌, ◌-◌, ◌*◌, ◌/◌, ◌%◌, ◌<◌}
use native.Mathlib.Nat.{zero-add, add_assoc, add-mod_left, mod-eq_of_lt, mod-lt, div-add-mod}
use native.Mathlib.Decide.{ℕ_discrete, dec_lt}
use native.Mathlib.Omega.{arith}
use lib.ListN.{length}
use Rattle.rules.specs.Bytes.{byte_at, part, same_bytes}
use Rattle.rules.specs.Layout.{control_at, key_of, control, occupied, is_empty}
use Rattle.rules.specs.Hash.{tag_of, start_of}
use Rattle.rules.specs.Group.{first_empty}
use Rattle.rules.specs.Probe.{group_start, slot_of, slot_at}
use Rattle.rules.specs.Search.{Spot, same, free, full, equal_key, search_by}
use Rattle.rules.specs.Bounds.{Passed, Slots}
use Rattle.rules.proofs.TestLaws.{impossible}
use Rattle.rules.proofs.BytesLaws.{part_at, length_part, same_is, same_self}
use Rattle.rules.proofs.FirstLaws.{none_fails, some_lowest}
use Rattle.rules.proofs.LayoutLaws.{group_fits, low_tag}
use Rattle.rules.proofs.HashLaws.{tag_lt}
use Rattle.rules.proofs.RowLaws.{passed}
use Rattle.rules.proofs.GroupLaws.{Honest, marked_some, marked_none}
use Rattle.rules.proofs.ProbeLaws.{start_lt, w_most, slot_group}
use Rattle.promises.specs.Sound.{Has, Nowhere, SomeEmpty, NoneEmpty, Reachable, Sound}
use Rattle.promises.proofs.Order.{order_once, order_onto, place_lt, within, group_lt, at_place, group_most}
use Rattle.promises.proofs.Ends.{equal, empty, Undecided, Ends, ends, equal_within, empty_within, full_groups}

module _ (s : List ℕ) (k v S : ℕ) (g : Sound s k v S) where
  pub sound_passed : Passed s k v S
  sound_passed = rw g.count at (passed s k v g.rows)

  pub sound_slots : Slots S
  sound_slots = sound_passed.slots

  pub some_slots : 0 < S
  some_slots = omega (arith, sound_slots.least)

  -- a position of a group is its slot: the mirrors stand for the wrap
  pub wrapped : (p m : ℕ) → p < S → m < 16 → control s k v S (p + m) ≡ control s k v S (slot_of S p m)
  wrapped p m h u =
      dite (dec_lt (p + m) S) (λ l. rw (mod-eq_of_lt l))
      (λ n. let r : ℕ = p + m - S in
      let e : p + m ≡ S + r = omega arith in
      let q : (p + m) % S ≡ r = ap (λ (x : ℕ). x % S) e ∙ add-mod_left S r ∙ mod-eq_of_lt (omega (arith, sound_slots.least)) in
      ap (control s k v S) e ∙ g.mirrors r (omega arith) ∙ ap (control s k v S) (sym q))

  module _ (w c : ℕ) (whole : w * c ≡ 16) (query : ℕ → List ℕ → List Bool) (honest : Honest query) (key : List ℕ) where
    abbrev b : ℕ
    b = start_of S key

    abbrev p : ℕ → ℕ
    p j = group_start w b S j

    abbrev bytes : ℕ → List ℕ
    bytes j = part w (control_at k v S (p j)) s

    abbrev slot : ℕ → ℕ → ℕ
    slot j m = slot_of S (p j) m

    abbrev spot : Spot
    spot = search_by w query s k v S key

    p_lt : (j : ℕ) → p j < S
    p_lt j = start_lt w b S j some_slots

    slot_lt : (j m : ℕ) → slot j m < S
    slot_lt j m = mod-lt (p j + m) some_slots

    group_long : (j : ℕ) → length (bytes j) ≡ w
    group_long j =
        length_part w (control_at k v S (p j)) s
        (omega (arith, sound_passed.long, group_fits k v S sound_passed.sizes sound_slots (p j) w (p_lt j) (w_most w c whole)))

    byte_is : (j m : ℕ) → m < w → byte_at (bytes j) m ≡ control s k v S (slot j m)
    byte_is j m h =
        part_at w (control_at k v S (p j)) m s h
        ∙ ap (byte_at s) (add_assoc (32 + S * (k + v)) (p j) m)
        ∙ wrapped (p j) m (p_lt j) (omega (arith, w_most w c whole))

    -- ---- what a group decides

    equal_has : (j m : ℕ) → equal w query s k v S key j ≡ some m → Has s k v S key (slot j m)
    unfolding equal_key
    equal_has j m e =
        let r = marked_some (λ i. same_bytes (key_of s k v (slot j i)) key) (query (tag_of key) (bytes j)) 0 m e in
        let at : r.0 ≡ m = omega (arith, r.1) in
        let low : byte_at (bytes j) m < 128 = rw at at (honest.low (tag_of key) (bytes j) r.0 (tag_lt key) r.2) in
        record {
          slot = slot_lt j m;
          taken = low_tag (control s k v S (slot j m)) (omega (arith, byte_is j m (equal_within w query s k v S key honest j m e)));
          key_is = same_is (key_of s k v (slot j m)) key r.3;
        }

    equal_misses : (j m : ℕ) → m < w → equal w query s k v S key j ≡ none → Has s k v S key (slot j m) → ⊥
    unfolding equal_key
    equal_misses j m h e f =
        let tag : byte_at (bytes j) m ≡ tag_of key = byte_is j m h ∙ g.tags key (slot j m) f in
        let mark = honest.tagged (tag_of key) (bytes j) m (omega (arith, group_long j)) tag in
        let differs : same_bytes (key_of s k v (slot j m)) key ≡ false =
        rw zero-add at (marked_none (λ i. same_bytes (key_of s k v (slot j i)) key) (query (tag_of key) (bytes j)) 0 m e mark) in
        let equals : same_bytes (key_of s k v (slot j m)) key ≡ true = rw f.key_is (same_self key) in
        impossible cc

    empty_here : (j m : ℕ) → empty w query s k v S key j ≡ some m → occupied s k v S (slot j m) ≡ false
    unfolding first_empty
    empty_here j m e =
        let l = some_lowest (λ i. is_empty (byte_at (bytes j) i)) 0 (length (bytes j)) m e in
        ap not (rw (byte_is j m (omega (arith, l.below, group_long j))) at l.passes)

    before_empty : (j m i : ℕ) → empty w query s k v S key j ≡ some m → i < m → occupied s k v S (slot j i) ≡ true
    unfolding first_empty
    before_empty j m i e h =
        let l = some_lowest (λ n. is_empty (byte_at (bytes j) n)) 0 (length (bytes j)) m e in
        ap not (rw (byte_is j i (omega (arith, l.below, group_long j))) at (l.least i (omega arith) h))

    no_empty : (j m : ℕ) → m < w → empty w query s k v S key j ≡ none → occupied s k v S (slot j m) ≡ true
    unfolding first_empty
    no_empty j m h e =
        ap not (rw (byte_is j m h) at (none_fails (λ n. is_empty (byte_at (bytes j) n)) 0 (length (bytes j)) e m (omega arith) (omega (arith, group_long j))))

    -- ---- what an ended search has seen

    -- before the first empty position all is occupied
    seen : (j m : ℕ) → empty w query s k v S key j ≡ some m → Undecided w query s k v S key 0 j
        → (x : ℕ) → x < w * j + m → occupied s k v S (slot_at b S x) ≡ true
    seen j m e u x l =
        rw (← (at_place S b sound_slots w c whole x))
        (dite (dec_lt (x / w) j) (λ a. no_empty (x / w) (x % w) (within S b sound_slots w c whole x) (u (x / w) (omega arith) a).1)
        (λ a. let lt : m < w = empty_within w query s k v S key j m e in
        let q : x / w ≡ j = omega (arith, group_most S b sound_slots w c whole x j m (omega arith) lt) in
        let d : w * j + x % w ≡ x = rw q at (div-add-mod x w) in
        rw q (before_empty j m (x % w) e (omega arith))))

    -- a key that stands somewhere is not passed by
    not_passed : (x : ℕ) → x < S → Has s k v S key (slot_at b S x) → equal w query s k v S key (x / w) ≡ none → ⊥
    not_passed x h f e =
        equal_misses (x / w) (x % w) (within S b sound_slots w c whole x) e (rw (at_place S b sound_slots w c whole x) f)

    found : (i : ℕ) → Has s k v S key i → (r : Spot) → spot ≡ r → Ends w query s k v S key 0 (S / w) r → (n : ℕ) × (spot ≡ same i n)
    unfolding Ends
    found i f (same i' n) e d =
        (n, e ∙ ap (λ (x : ℕ). same x n) (g.once key i' i (rw d.place at (equal_has d.j d.m d.by)) f))
    found i f (free i' n) e d =
        let o = order_onto S b sound_slots i f.slot in
        let y : ℕ = w * d.j + d.m in
        let lt : d.m < w = empty_within w query s k v S key d.j d.m d.by.1 in
        let hole : occupied s k v S (slot_at b S y) ≡ false = rw (slot_group w c whole b S d.j d.m lt) (empty_here d.j d.m d.by.1) in
        let missed : equal w query s k v S key (o.0 / w) ≡ none → ⊥ = not_passed o.0 o.1 (rw o.2 f) in
        absurd (dite (dec_lt y o.0) (λ l. let full : occupied s k v S (slot_at b S y) ≡ true = g.reached key i f o.0 y o.1 o.2 l in impossible cc)
        (λ l. dite (ℕ_discrete (o.0 / w) d.j) (λ q. missed (rw q d.by.0))
        (λ q. missed (d.before (o.0 / w) (omega arith) (omega (arith, group_most S b sound_slots w c whole o.0 d.j d.m (omega arith) lt))).0)))
    found i f (full n) e (c', u) =
        let o = order_onto S b sound_slots i f.slot in
        absurd (not_passed o.0 o.1 (rw o.2 f) (u (o.0 / w) (omega arith) (group_lt S b sound_slots w c whole o.0 o.1)).0)

    pub finds : (i : ℕ) → Has s k v S key i → (n : ℕ) × (spot ≡ same i n)
    finds i f = found i f spot refl (ends w query s k v S key)

    pub is_there : (i n : ℕ) → spot ≡ same i n → Has s k v S key i
    unfolding Ends
    is_there i n e =
        let d : Ends w query s k v S key 0 (S / w) (same i n) = rw e at (ends w query s k v S key) in
        rw d.place at (equal_has d.j d.m d.by)

    -- what is not found the same stands nowhere
    pub not_there : ((i n : ℕ) → spot ≡ same i n → ⊥) → Nowhere s k v S key
    not_there h i f = let r = finds i f in h i r.0 r.1

    -- the free slot: it is empty, and the key would be reachable in it
    pub free_slot : (i n : ℕ) → spot ≡ free i n → (i < S) × (occupied s k v S i ≡ false) × Reachable s k v S key i
    unfolding Ends
    free_slot i n e =
        let d : Ends w query s k v S key 0 (S / w) (free i n) = rw e at (ends w query s k v S key) in
        let lt : d.m < w = empty_within w query s k v S key d.j d.m d.by.1 in
        let y : ℕ = w * d.j + d.m in
        let at_y : slot_at b S y ≡ i = slot_group w c whole b S d.j d.m lt ∙ d.place in (
          rw (← d.place) (slot_lt d.j d.m),
          rw d.place at (empty_here d.j d.m d.by.1),
          λ x z h q l. let same : x ≡ y = order_once S b sound_slots x y h (place_lt S b sound_slots w c whole d.j d.m d.to lt) (q ∙ sym at_y) in
              seen d.j d.m d.by.1 d.before z (omega arith),
        )

    pub full_book : (n : ℕ) → spot ≡ full n → (i : ℕ) → i < S → occupied s k v S i ≡ true
    unfolding Ends
    full_book n e i h =
        let d : Ends w query s k v S key 0 (S / w) (full n) = rw e at (ends w query s k v S key) in
        let o = order_onto S b sound_slots i h in
        let x : ℕ = o.0 in
        rw (at_place S b sound_slots w c whole x ∙ o.2) at
        (no_empty (x / w) (x % w) (within S b sound_slots w c whole x) (d.1 (x / w) (omega arith) (group_lt S b sound_slots w c whole x o.1)).1)

    -- ---- each answer, exactly

    pub same_exactly : (i : ℕ) → ((n : ℕ) × (spot ≡ same i n)) ↔ Has s k v S key i
    same_exactly i = (λ r. is_there i r.0 r.1, finds i)

    pub free_exactly : ((i : ℕ) × (n : ℕ) × (spot ≡ free i n)) ↔ (Nowhere s k v S key × SomeEmpty s k v S)
    free_exactly = (
      λ r. let f = free_slot r.0 r.1 r.2 in (not_there (λ i n e. impossible (cc (e, r.2))), (r.0, f.0, f.1)),
      λ r. go r.0 r.1 spot refl,
    )
      where
        go : Nowhere s k v S key → SomeEmpty s k v S → (r : Spot) → spot ≡ r → (i : ℕ) × (n : ℕ) × (spot ≡ free i n)
        go absent room (same i n) e = absurd (absent i (is_there i n e))
        go absent room (free i n) e = (i, n, e)
        go absent room (full n) e = impossible (cc (full_book n e room.0 room.1, room.2))

    pub full_exactly : (spot ≡ full (S / w)) ↔ (Nowhere s k v S key × NoneEmpty s k v S)
    full_exactly = (λ e. (not_there (λ i n q. impossible (cc (q, e))), full_book (S / w) e), λ r. go r.0 r.1 spot refl)
      where
        go : Nowhere s k v S key → NoneEmpty s k v S → (r : Spot) → spot ≡ r → spot ≡ full (S / w)
        go absent taken (same i n) e = absurd (absent i (is_there i n e))
        go absent taken (free i n) e = let f = free_slot i n e in impossible (cc (taken i f.0, f.1))
        go absent taken (full n) e = e ∙ ap full (full_groups w query s k v S key n e)
