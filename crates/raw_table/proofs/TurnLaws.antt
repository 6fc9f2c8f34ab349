-- One turn of the search: its group lies within the book, and going through its candidates decides what `equal_key` says.
-- `Left` is the state of that: the marks that are still to be tried decide the group. Assumes nothing.
use mathlib.Core.Path.{◌≡◌, refl, sym, ap, ◌∙◌}
use mathlib.Core.Bool.{Bool, true, false}
use mathlib.Core.List.{List, ◌∷◌}
use mathlib.Core.Option.{none, some}
use Prim.Native.Nat.{ℕ, ◌<◌}
use native.Mathlib.Omega.{arith}
use lib.ListN.{length}
use Rattle.rules.specs.Bounds.{Passed}
use Rattle.rules.specs.Bytes.{part, same_bytes}
use Rattle.rules.specs.First.{first_of}
use Rattle.rules.specs.Layout.{key_of, control_at}
use Rattle.rules.specs.Hash.{tag_of}
use Rattle.rules.specs.Group.{reports, positions}
use Rattle.rules.specs.Probe.{slot_of}
use Rattle.rules.specs.Search.{equal_key}
use Rattle.rules.proofs.BytesLaws.{length_part}
use Rattle.rules.proofs.GroupLaws.{length_reports}
use Rattle.rules.proofs.SearchLaws.{try_yes, try_no, try_none}
use Rattle.group_query.specs.Marks.{word, others}
use Rattle.group_query.proofs.MarkLaws.{positions_none, length_others}

module _ (s key : List ℕ) (k v S p : ℕ) where
  -- whether position m of the group at p stands for a slot with the key
  abbrev pub Holds : ℕ → Bool
  Holds m = same_bytes (key_of s k v (slot_of S p m)) key

  abbrev pub Left : ℕ → Type 0
  Left left = (ms : List Bool) × (length ms ≡ 8) × (left ≡ word ms) × (equal_key 8 reports s k v S key p ≡ first_of Holds (positions 0 ms))

  -- what `lowest_of` and `without_lowest` ensure of a mask
  abbrev pub Lowest : ℕ → ℕ → Type 0
  Lowest left m = (ms : List Bool) → length ms ≡ 8 → left ≡ word ms → (m < 8) × (positions 0 ms ≡ m ∷ positions 0 (others ms))

  abbrev pub Less : ℕ → ℕ → Type 0
  Less left rest = (ms : List Bool) → left ≡ word ms → (rest < left) × (rest ≡ word (others ms))

  -- the group's eight bytes are bytes of the book
  pub group_long : (passed : Passed s k v S) → p < S → length (part 8 (control_at k v S p) s) ≡ 8
  group_long passed h = length_part 8 (control_at k v S p) s (omega (arith, passed.long))

  pub all_left : (passed : Passed s k v S) → p < S → (eq : ℕ) → eq ≡ word (reports (tag_of key) (part 8 (control_at k v S p) s)) → Left eq
  unfolding equal_key
  all_left passed h eq e = (
    reports (tag_of key) (part 8 (control_at k v S p) s),
    length_reports (tag_of key) (part 8 (control_at k v S p) s) ∙ group_long passed h,
    e,
    refl,
  )

  pub none_left : (left : ℕ) → Left left → left ≡ 0 → equal_key 8 reports s k v S key p ≡ none
  none_left left l z = l.3 ∙ try_none Holds (positions 0 l.0) (positions_none l.0 0 (sym l.2 ∙ z))

  pub lowest_lt : (left m : ℕ) → Left left → Lowest left m → m < 8
  lowest_lt left m l o = (o l.0 l.1 l.2).0

  pub tried_yes : (left m : ℕ) → Left left → Lowest left m → Holds m ≡ true → equal_key 8 reports s k v S key p ≡ some m
  tried_yes left m l o h = l.3 ∙ ap (first_of Holds) (o l.0 l.1 l.2).1 ∙ try_yes Holds m (positions 0 (others l.0)) h

  pub tried_no : (left m rest : ℕ) → Left left → Lowest left m → Less left rest → Holds m ≡ false → Left rest
  tried_no left m rest l o r h = (
    others l.0,
    length_others l.0 ∙ l.1,
    (r l.0 l.2).1,
    l.3 ∙ ap (first_of Holds) (o l.0 l.1 l.2).1 ∙ try_no Holds m (positions 0 (others l.0)) h,
  )

  pub rest_less : (left rest : ℕ) → Left left → Less left rest → rest < left
  rest_less left rest l r = (r l.0 l.2).0
