-- How a search ends, on any book, for any width and any query: at the first group that has an equal key or an empty position, whose number is
-- the count, or after all groups. By induction over the groups that are left, with the search's own step laws. Assumes nothing.
use mathlib.Core.Path.{◌≡◌, refl, sym, ap, ◌∙◌}
use mathlib.Core.Logic.{dite}
use mathlib.Core.Bool.{Bool, true, false}
use mathlib.Core.List.{List}
use mathlib.Core.Option.{Option, none, some}
use Prim.Native.Nat.{ℕ, zero, suc, ◌+◌, ◌-◌, ◌/◌, ◌≤◌, ◌<◌}
use native.Mathlib.Decide.{ℕ_discrete, dec_lt}
use native.Mathlib.Omega.{arith}
use lib.ListN.{length, drop, length-take, get_or-eq_default}
use Rattle.rules.specs.Bytes.{part, same_bytes}
use Rattle.rules.specs.Layout.{control_at, key_of}
use Rattle.rules.specs.Hash.{tag_of, start_of}
use Rattle.rules.specs.Group.{first_empty}
use Rattle.rules.specs.Probe.{group_start, slot_of}
use Rattle.rules.specs.Search.{Spot, same, free, full, equal_key, search_by}
use Rattle.rules.proofs.TestLaws.{impossible}
use Rattle.rules.proofs.GroupLaws.{Honest, marked_some, empty_lt}
use Rattle.rules.proofs.SearchLaws.{Rest, at_start, at_end, at_same, at_free, at_next}
use Rattle.promises.specs.Sound.{InGroup}

module _ (w : ℕ) (query : ℕ → List ℕ → List Bool) (s : List ℕ) (k v S : ℕ) (key : List ℕ) where
  -- where group j starts, its bytes, the position of an equal key in it, and its first empty position
  abbrev pub start : ℕ → ℕ
  start j = group_start w (start_of S key) S j

  abbrev pub group : ℕ → List ℕ
  group j = part w (control_at k v S (start j)) s

  abbrev pub equal : ℕ → Option ℕ
  equal j = equal_key w query s k v S key (start j)

  abbrev pub empty : ℕ → Option ℕ
  empty j = first_empty (group j)

  -- the groups from f up to t have neither
  abbrev pub Undecided : ℕ → ℕ → Type 0
  Undecided f t = (j : ℕ) → f ≤ j → j < t → (equal j ≡ none) × (empty j ≡ none)

  -- an equal key decides, or else an empty position
  abbrev pub ByKey : ℕ → ℕ → Type 0
  ByKey j m = equal j ≡ some m

  abbrev pub ByEmpty : ℕ → ℕ → Type 0
  ByEmpty j m = (equal j ≡ none) × (empty j ≡ some m)

  -- group j, one of those from f up to G, is the first that decides: by its position m, which stands for slot i
  pub record Decides (By : ℕ → ℕ → Type 0) (f G i n : ℕ) : Type 0 where
    pub j : ℕ
    pub m : ℕ
    pub count : n ≡ suc j
    pub from : f ≤ j
    pub to : j < G
    pub place : slot_of S (start j) m ≡ i
    pub by : By j m
    pub before : Undecided f j

  unfoldable pub Ends : ℕ → ℕ → Spot → Type 0
  Ends f G (same i n) = Decides ByKey f G i n
  Ends f G (free i n) = Decides ByEmpty f G i n
  Ends f G (full n) = (n ≡ G) × Undecided f G

  -- group f decides nothing, so what decides later decides
  sooner : (f t : ℕ) → equal f ≡ none → empty f ≡ none → Undecided (f + 1) t → Undecided f t
  sooner f t a b u j l h = dite (ℕ_discrete j f) (λ e. rw e (a, b)) (λ d. u j (omega arith) h)

  later : (By : ℕ → ℕ → Type 0) (f G i n : ℕ) → equal f ≡ none → empty f ≡ none → Decides By (f + 1) G i n → Decides By f G i n
  later By f G i n a b d = record {
    j = d.j;
    m = d.m;
    count = d.count;
    from = omega (arith, d.from);
    to = d.to;
    place = d.place;
    by = d.by;
    before = sooner f d.j a b d.before;
  }

  later_ends : (f G : ℕ) (r : Spot) → equal f ≡ none → empty f ≡ none → Ends (f + 1) G r → Ends f G r
  unfolding Ends
  later_ends f G (same i n) a b d = later ByKey f G i n a b d
  later_ends f G (free i n) a b d = later ByEmpty f G i n a b d
  later_ends f G (full n) a b (c, u) = (c, sooner f G a b u)

  here : (By : ℕ → ℕ → Type 0) (f G m : ℕ) → f < G → By f m → Decides By f G (slot_of S (start f) m) (f + 1)
  here By f G m h e = record {
    j = f;
    m = m;
    count = omega arith;
    from = omega arith;
    to = h;
    place = refl;
    by = e;
    before = λ j l u. absurd (omega arith);
  }

  abbrev rest : ℕ → ℕ → Spot
  rest G f = Rest w query s k v S key G f

  from_here : (G left f : ℕ) → f + left ≡ G → Ends f G (rest G f)
  unfolding Ends
  from_here G zero f e = rw (at_end w query s k v S key G f (omega arith)) (omega arith, λ j l h. absurd (omega arith))
  from_here G (suc left) f e = go (equal f) refl (empty f) refl (from_here G left (f + 1) (omega arith))
    where
      h : f < G
      h = omega arith

      go : (o : Option ℕ) → equal f ≡ o → (p : Option ℕ) → empty f ≡ p → Ends (f + 1) G (rest G (f + 1)) → Ends f G (rest G f)
      go (some m) a p b r = rw (at_same w query s k v S key G f (start f) h refl m a) (here ByKey f G m h a)
      go none a (some m) b r = rw (at_free w query s k v S key G f (start f) h refl m a b) (here ByEmpty f G m h (a, b))
      go none a none b r = rw (at_next w query s k v S key G f (start f) h refl a b) (later_ends f G (rest G (f + 1)) a b r)

  pub ends : Ends 0 (S / w) (search_by w query s k v S key)
  ends = rw (at_start w query s k v S key) (from_here (S / w) (S / w) 0 (omega arith))

  -- ---- the count

  group_most : (j : ℕ) → length (group j) ≤ w
  group_most j = omega (arith, length-take w (drop (control_at k v S (start j)) s))

  pub empty_within : (j m : ℕ) → empty j ≡ some m → m < w
  empty_within j m e = omega (arith, empty_lt (group j) m e, group_most j)

  pub equal_within : Honest query → (j m : ℕ) → equal j ≡ some m → m < w
  unfolding equal_key
  equal_within honest j m e =
      let marks : List Bool = query (tag_of key) (group j) in
      let r = marked_some (λ i. same_bytes (key_of s k v (slot_of S (start j) i)) key) marks 0 m e in
      dite (dec_lt m w) (λ h. h)
      (λ h. let out : length marks ≤ r.0 = omega (arith, r.1, honest.long (tag_of key) (group j), group_most j) in
      let z : true ≡ false = sym r.2 ∙ get_or-eq_default marks false out in
      impossible cc)

  in_group : (By : ℕ → ℕ → Type 0) (i n : ℕ) → ((j m : ℕ) → By j m → m < w) → Decides By 0 (S / w) i n → InGroup w (start_of S key) S i n
  in_group By i n lt d = record {
    least = omega (arith, d.count);
    most = omega (arith, d.count, d.to);
    position = d.m;
    within = lt d.j d.m d.by;
    place = let e : n - 1 ≡ d.j = omega (arith, d.count) in ap (λ (x : ℕ). slot_of S (start x) d.m) e ∙ d.place;
  }

  pub same_group : Honest query → (i n : ℕ) → search_by w query s k v S key ≡ same i n → InGroup w (start_of S key) S i n
  unfolding Ends
  same_group honest i n e = in_group ByKey i n (equal_within honest) (rw e at ends)

  pub free_group : (i n : ℕ) → search_by w query s k v S key ≡ free i n → InGroup w (start_of S key) S i n
  unfolding Ends
  free_group i n e = in_group ByEmpty i n (λ j m b. empty_within j m b.1) (rw e at ends)

  pub full_groups : (n : ℕ) → search_by w query s k v S key ≡ full n → n ≡ S / w
  unfolding Ends
  full_groups n e = let z : Ends 0 (S / w) (full n) = rw e at ends in z.0
