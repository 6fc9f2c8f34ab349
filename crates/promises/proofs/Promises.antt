-- The promises, each proved: what is left after the other files is to put the search at eight bytes a group, and fresh books before calls.
-- Assumes nothing.
use mathlib.Core.Path.{◌≡◌, refl, sym, ap, ◌∙◌}
use mathlib.Core.Logic.{◌⊎◌, ⊎_elim}
use mathlib.Core.Bool.{true, false}
use mathlib.Core.List.{List, [], ◌∷◌}
use mathlib.Core.Option.{Option, none, some}
use Prim.Native.Nat.{ℕ, ◌/◌, ◌≤◌}
use native.Mathlib.Omega.{arith}
use lib.ListN.{length}
use Rattle.rules.specs.First.{first_some}
use Rattle.rules.specs.Layout.{key_of, value_of}
use Rattle.rules.specs.Group.{reports}
use Rattle.rules.specs.Search.{Spot, same, free, full, spot_of}
use Rattle.rules.specs.Rows.{Refusal, no_end}
use Rattle.rules.specs.Calls.{refused}
use Rattle.rules.proofs.TestLaws.{impossible}
use Rattle.rules.proofs.GroupLaws.{reports_honest}
use Rattle.promises.specs.Sound.{Has, Nowhere, Sound}
use Rattle.promises.specs.History.{Call, answer, accepted, lookup, History, fresh_of, book_of, last_of}
use Rattle.promises.specs.Promises as the
use Rattle.promises.specs.Promises.{groups_of, WellFormed}
use Rattle.promises.proofs.Order as order
use Rattle.promises.proofs.Ends as ends
use Rattle.promises.proofs.Found as found
use Rattle.promises.proofs.Step.{Done, Crowded, fitting_step, call_sound}
use Rattle.promises.proofs.Fresh as fresh
use Rattle.promises.proofs.Lookup as lookups
use Rattle.promises.proofs.Passes as passes
use Rattle.promises.proofs.Changes as changes

-- ---- sound books

pub fresh_is_sound : the.FreshIsSound
fresh_is_sound = fresh.fresh_sound

pub calls_keep_sound : the.CallsKeepSound
calls_keep_sound = call_sound

pub sound_opens : the.SoundOpens
sound_opens = passes.opens

pub sound_passes : the.SoundPasses
sound_passes = passes.checks

-- ---- what an insert changes

pub refused_changes_nothing : the.RefusedChangesNothing
refused_changes_nothing = changes.refused_nothing

pub new_changes_its_slot : the.NewChangesItsSlot
new_changes_its_slot = changes.new_slot

pub replaced_changes_its_value : the.ReplacedChangesItsValue
replaced_changes_its_value = changes.replaced_value

pub length_stays : the.LengthStays
length_stays = changes.length_stays

-- ---- the search

pub same_count : the.SameCount
same_count s k v S key = ends.same_group 8 reports s k v S key reports_honest

pub free_count : the.FreeCount
free_count = ends.free_group 8 reports

pub full_count : the.FullCount
full_count = ends.full_groups 8 reports

pub at_most_an_eighth : the.AtMostAnEighth
unfolding groups_of
at_most_an_eighth s k v S key = go (spot_of s k v S key) refl
  where
    go : (r : Spot) → spot_of s k v S key ≡ r → groups_of (spot_of s k v S key) ≤ S / 8
    go (same i n) e = rw e (same_count s k v S key i n e).most
    go (free i n) e = rw e (free_count s k v S key i n e).most
    go (full n) e = rw e (omega (arith, full_count s k v S key n e))

pub one_group : the.OneGroup
one_group b S i n m slots = order.one_group S b slots 8 2 refl i n m

pub same_exactly : the.SameExactly
same_exactly s k v S g = found.same_exactly s k v S g 8 2 refl reports reports_honest

pub free_exactly : the.FreeExactly
free_exactly s k v S g = found.free_exactly s k v S g 8 2 refl reports reports_honest

pub free_is_first : the.FreeIsFirst
free_is_first s k v S g = found.free_slot s k v S g 8 2 refl reports reports_honest

pub full_exactly : the.FullExactly
full_exactly s k v S g = found.full_exactly s k v S g 8 2 refl reports reports_honest

-- ---- sound books as maps

pub call_changes_its_key : the.CallChangesItsKey
call_changes_its_key = lookups.lookup_call

-- a well-formed insert is done, or finds the book crowded
insert_ends : (s : List ℕ) (k v S : ℕ) → Sound s k v S → (c : Call) → WellFormed k v c
    → Done s k v S c.key c.value c.old ⊎ Crowded s k v S c.key c.value c.old
insert_ends s k v S g c f = fitting_step s k v S g c.key c.value c.old (record {
  header = g.rows;
  key_fits = f.key_fits;
  value_fits = f.value_fits;
  old_fits = f.old_fits;
})

-- one that is refused is not done
crowded : (s : List ℕ) (k v S : ℕ) → Sound s k v S → (c : Call) (r : Refusal) → WellFormed k v c → answer s c ≡ refused r
    → Crowded s k v S c.key c.value c.old
unfolding accepted
crowded s k v S g c r f e =
    ⊎_elim
    (λ (d : Done s k v S c.key c.value c.old).
    let z : false ≡ true = sym (ap accepted e) ∙ rw (f.key_size, f.value_size) d.said in
    impossible cc)
    (λ q. q) (insert_ends s k v S g c f)

pub full_exactly_refused : the.FullExactlyRefused
full_exactly_refused s k v S g c f = (
  λ e. let q = crowded s k v S g c e.0 f e.1 in
      λ i h. (q.all_taken i h, λ d. q.new i (record { slot = h; taken = q.all_taken i h; key_is = d })),
  λ held. ⊎_elim
      (λ (d : Done s k v S c.key c.value c.old).
      let h = held d.slot d.place.slot in
      absurd (h.1 (d.place.only (key_of s k v d.slot) (record { slot = d.place.slot; taken = h.0; key_is = refl }))))
      (λ (q : Crowded s k v S c.key c.value c.old). (no_end (S / 8), rw (f.key_size, f.value_size) q.said))
      (insert_ends s k v S g c f),
)

one_refusal : (q r : Refusal) → refused q ≡ refused r → q ≡ r
one_refusal q r e = cc

pub refused_as_full : the.RefusedAsFull
refused_as_full s k v S g c r f e =
    let said : answer s c ≡ refused (no_end (S / 8)) = rw (f.key_size, f.value_size) (crowded s k v S g c r f e).said in
    one_refusal r (no_end (S / 8)) (sym e ∙ said)

pub keys_apart : the.KeysApart
keys_apart s k v S g key key' i n m l l' e e' =
    sym (lookups.found_has s k v S g key l i n e).key_is ∙ (lookups.found_has s k v S g key' l' i m e').key_is

-- ---- histories

pub history_is_sound : the.HistoryIsSound
history_is_sound k v S h =
    lookups.calls_sound k v S h.calls (fresh_of h) (fresh_is_sound h.buffer k v S h.count h.load h.made)

pub history_opens : the.HistoryOpens
history_opens k v S h = sound_opens (book_of h) k v S (history_is_sound k v S h)

pub history_passes : the.HistoryPasses
history_passes k v S h = sound_passes (book_of h) k v S (history_is_sound k v S h)

-- the first of something and nothing
or_none : {A : Type 0} (x : Option A) → first_some (x ∷ none ∷ []) ≡ x
unfolding first_some
or_none none = refl
or_none (some a) = refl

pub lookup_is_last : the.LookupIsLast
lookup_is_last k v S h key l =
    let g = fresh_is_sound h.buffer k v S h.count h.load h.made in
    let empty = fresh.fresh_empty h.buffer k v S h.count h.load h.made key in
    lookups.lookup_calls k v S key l h.calls (fresh_of h) g
    ∙ ap (λ (o : Option (List ℕ)). first_some (last_of h key ∷ o ∷ [])) (lookups.lookup_nowhere (fresh_of h) k v S g key l empty)
    ∙ or_none (last_of h key)

module _ (k v S : ℕ) (h : History k v S) (key : List ℕ) (l : length key ≡ k) where
  g : Sound (book_of h) k v S
  g = history_is_sound k v S h

  -- a key stands in the book of a history exactly if it was given a value
  given_has : (value : List ℕ) → last_of h key ≡ some value → (i : ℕ) × (Has (book_of h) k v S key i) × (value_of (book_of h) k v i ≡ value)
  given_has value e =
      ⊎_elim
      (λ (f : (i : ℕ) × Has (book_of h) k v S key i).
      (f.0, f.1, cc (lookups.lookup_has (book_of h) k v S g key l f.0 f.1, lookup_is_last k v S h key l, e)))
      (λ (f : Nowhere (book_of h) k v S key). impossible (cc (lookups.lookup_nowhere (book_of h) k v S g key l f, lookup_is_last k v S h key l, e)))
      (lookups.stands (book_of h) k v S g key l)

  never_has : last_of h key ≡ none → Nowhere (book_of h) k v S key
  never_has e i f = impossible (cc (lookups.lookup_has (book_of h) k v S g key l i f, lookup_is_last k v S h key l, e))

  has_never : Nowhere (book_of h) k v S key → last_of h key ≡ none
  has_never f = sym (lookup_is_last k v S h key l) ∙ lookups.lookup_nowhere (book_of h) k v S g key l f

pub found_if_given : the.FoundIfGiven
found_if_given k v S h key value l e =
    let f = given_has k v S h key l value e in
    let q = lookups.find_has (book_of h) k v S (history_is_sound k v S h) key l f.0 f.1 in
    (f.0, q.0, q.1, f.2)

pub absent_if_never : the.AbsentIfNever
absent_if_never k v S h key l e =
    lookups.find_nowhere (book_of h) k v S (history_is_sound k v S h) key l (never_has k v S h key l e)

pub history_keys_apart : the.HistoryKeysApart
history_keys_apart k v S h = keys_apart (book_of h) k v S (history_is_sound k v S h)

pub history_refused_exactly : the.HistoryRefusedExactly
history_refused_exactly k v S h c f =
    let q = full_exactly_refused (book_of h) k v S (history_is_sound k v S h) c f in (
      λ e. (
        has_never k v S h c.key f.key_fits (crowded (book_of h) k v S (history_is_sound k v S h) c e.0 f e.1).new,
        q.0 e,
      ),
      λ e. q.1 e.1,
    )

pub history_refused_as_full : the.HistoryRefusedAsFull
history_refused_as_full k v S h = refused_as_full (book_of h) k v S (history_is_sound k v S h)

pub same_bytes_same_answers : the.SameBytesSameAnswers
same_bytes_same_answers k v S h h' key l e =
    let same : lookup (book_of h) k v key ≡ lookup (book_of h') k v key = ap (λ (s : List ℕ). lookup s k v key) e in
    (same, sym (lookup_is_last k v S h key l) ∙ same ∙ lookup_is_last k v S h' key l)

pub different_answers_different_bytes : the.DifferentAnswersDifferentBytes
different_answers_different_bytes k v S h h' key l d e = d (same_bytes_same_answers k v S h h' key l e).1
