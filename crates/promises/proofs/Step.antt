-- One call of insert. On any book it changes bytes of the answered slot alone, and none if it is refused. On a sound book it writes the key where
-- the key may stand, or it leaves the book; so the book stays sound. Assumes nothing.
use mathlib.Core.Path.{◌≡◌, refl, sym, ap, ◌∙◌}
use mathlib.Core.Logic.{◌⊎◌, inl, inr, ⊎_elim}
use mathlib.Core.Bool.{true, false}
use mathlib.Core.List.{List, ◌++◌}
use mathlib.Core.Option.{Option, none, some}
use Prim.Native.Nat.{ℕ, ◌+◌, ◌/◌, ◌≤◌, ◌<◌}
use native.Mathlib.Nat.{add_assoc}
use native.Mathlib.Omega.{arith}
use lib.ListN.{length, length-append, get_or-append}
use lib.Seq.{sets, length-sets, get_or-append-add}
use Rattle.rules.specs.Bytes.{byte_at, part}
use Rattle.rules.specs.First.{first_some}
use Rattle.rules.specs.Layout.{entry_at, value_at, control_at, total}
use Rattle.rules.specs.Hash.{tag_of}
use Rattle.rules.specs.Group.{reports}
use Rattle.rules.specs.Search.{Spot, same, free, full, spot_of}
use Rattle.rules.specs.Rows.{Refusal, no_end}
use Rattle.rules.specs.Calls.{refused, insert_rows, insert_says, insert_answer, insert_book, set_control, written, old_value}
use Rattle.rules.specs.Bounds.{Passed}
use Rattle.rules.proofs.TestLaws.{impossible}
use Rattle.rules.proofs.BytesLaws.{same_part, part_is}
use Rattle.rules.proofs.LayoutLaws.{entry_fits}
use Rattle.rules.proofs.StoreLaws.{sets_beside, sets_here, length_control, control_beside, control_here, mirror_here}
use Rattle.rules.proofs.CallLaws.{Fitting, fitting, fitting_passes, Inserts, insert_answer_says, insert_refused}
use Rattle.rules.proofs.RowLaws.{key_stated, value_stated}
use Rattle.rules.proofs.GroupLaws.{reports_honest}
use Rattle.promises.specs.Sound.{Has, Nowhere, NoneEmpty, Sound, Outside}
use Rattle.promises.specs.History.{Call, answer, book, accepted}
use Rattle.promises.proofs.Ends.{full_groups}
use Rattle.promises.proofs.Found.{sound_passed, sound_slots, finds, is_there, not_there, free_slot, full_book}
use Rattle.promises.proofs.Wrote.{Place, Wrote, still_sound}

-- ---- what is written, in any book

module _ (s : List ℕ) (k v S : ℕ) (key value : List ℕ) (i : ℕ) (lk : length key ≡ k) (lv : length value ≡ v) where
  abbrev entered : List ℕ
  entered = sets s (entry_at k v i) (key ++ value)

  pub free_elsewhere : (x : ℕ) → Outside k v S i x → byte_at (set_control entered k v S i (tag_of key)) x ≡ byte_at s x
  free_elsewhere x out =
      control_beside entered k v S i (tag_of key) x out.control_byte out.mirror
      ∙ sets_beside (key ++ value) s (entry_at k v i) x (λ n h e. out.entry n (omega (arith, length-append key value)) e)

  -- a new key
  module _ (passed : Passed s k v S) (slot : i < S) where
    long : length entered ≡ total k v S
    long = length-sets s (entry_at k v i) (key ++ value) ∙ passed.long

    fits : entry_at k v i + (k + v) ≤ control_at k v S 0
    fits = entry_fits k v S passed.sizes passed.slots i slot

    -- the entry's bytes lie below the control bytes
    entry_is : (n : ℕ) → n < k + v → byte_at (set_control entered k v S i (tag_of key)) (entry_at k v i + n) ≡ byte_at (key ++ value) n
    entry_is n h =
        control_beside entered k v S i (tag_of key) (entry_at k v i + n) (λ e. omega (arith, fits)) (λ l e. omega (arith, fits))
        ∙ sets_here (key ++ value) s (entry_at k v i) n (omega (arith, length-append key value)) (omega (arith, fits, passed.long, length-append key value))

    whole : length (set_control entered k v S i (tag_of key)) ≡ total k v S
    whole = length_control entered k v S i (tag_of key) ∙ long

    pub free_wrote : Wrote s (set_control entered k v S i (tag_of key)) k v S key value i
    free_wrote = record {
      long = whole ∙ sym passed.long;
      elsewhere = free_elsewhere;
      key_there =
          ap (λ (n : ℕ). part n (entry_at k v i) (set_control entered k v S i (tag_of key))) (sym lk)
          ∙ part_is (entry_at k v i) (set_control entered k v S i (tag_of key)) key (omega (arith, fits, whole))
          (λ n h. entry_is n (omega arith) ∙ get_or-append key value 0 n h);
      value_there =
          ap (λ (n : ℕ). part n (value_at k v i) (set_control entered k v S i (tag_of key))) (sym lv)
          ∙ part_is (value_at k v i) (set_control entered k v S i (tag_of key)) value (omega (arith, fits, whole))
          (λ n h. rw (add_assoc (entry_at k v i) k n) (entry_is (k + n) (omega arith)
          ∙ ap (λ (m : ℕ). byte_at (key ++ value) (m + n)) (sym lk) ∙ get_or-append-add key value n 0));
      tag_there = control_here entered k v S i (tag_of key) long slot;
      mirror_there = mirror_here entered k v S i (tag_of key) long slot;
    }

  -- an old key
  abbrev replacing : List ℕ
  replacing = sets s (value_at k v i) value

  module _ (g : Sound s k v S) (f : Has s k v S key i) where
    end : entry_at k v i + (k + v) ≤ control_at k v S 0
    end = entry_fits k v S (sound_passed s k v S g).sizes (sound_slots s k v S g) i f.slot

    beside : (x : ℕ) → ((n : ℕ) → n < v → x ≡ value_at k v i + n → ⊥) → byte_at replacing x ≡ byte_at s x
    beside x b = sets_beside value s (value_at k v i) x (λ n h e. b n (omega arith) e)

    pub same_wrote : Wrote s replacing k v S key value i
    same_wrote = record {
      long = length-sets s (value_at k v i) value;
      elsewhere = λ x out. beside x (λ n h e. out.entry (k + n) (omega arith) (omega arith));
      key_there =
          same_part k (entry_at k v i) replacing s (length-sets s (value_at k v i) value)
          (λ n h. beside (entry_at k v i + n) (λ m l e. omega arith)) ∙ f.key_is;
      value_there =
          ap (λ (n : ℕ). part n (value_at k v i) replacing) (sym lv)
          ∙ part_is (value_at k v i) replacing value (omega (arith, end, (sound_passed s k v S g).long, length-sets s (value_at k v i) value))
          (λ n h. sets_here value s (value_at k v i) n h (omega (arith, end, (sound_passed s k v S g).long)));
      tag_there = beside (control_at k v S i) (λ n h e. omega (arith, end)) ∙ g.tags key i f;
      mirror_there = λ h. beside (control_at k v S (S + i)) (λ n l e. omega (arith, end)) ∙ g.mirrors i h ∙ g.tags key i f;
    }

-- ---- an insert into a sound book whose rows pass

-- it was accepted: it wrote the key where the key may stand
pub record Done (s : List ℕ) (k v S : ℕ) (key value old : List ℕ) : Type 0 where
  pub slot : ℕ
  pub place : Place s k v S key slot
  pub wrote : Wrote s (insert_book s k v key value old) k v S key value slot
  pub said : accepted (insert_answer s k v key value old) ≡ true

-- it was refused as full, and changed nothing
pub record Crowded (s : List ℕ) (k v S : ℕ) (key value old : List ℕ) : Type 0 where
  pub said : insert_answer s k v key value old ≡ refused (no_end (S / 8))
  pub left : insert_book s k v key value old ≡ s
  pub new : Nowhere s k v S key
  pub all_taken : NoneEmpty s k v S

module _ (s : List ℕ) (k v S : ℕ) (g : Sound s k v S) (key : List ℕ) where
  abbrev pub spot : Spot
  spot = spot_of s k v S key

  -- the generic laws of the search, at eight bytes a group
  pub finds_8 : (i : ℕ) → Has s k v S key i → (n : ℕ) × (spot ≡ same i n)
  finds_8 = finds s k v S g 8 2 refl reports reports_honest key

  pub is_there_8 : (i n : ℕ) → spot ≡ same i n → Has s k v S key i
  is_there_8 = is_there s k v S g 8 2 refl reports reports_honest key

  pub not_there_8 : ((i n : ℕ) → spot ≡ same i n → ⊥) → Nowhere s k v S key
  not_there_8 = not_there s k v S g 8 2 refl reports reports_honest key

  pub same_place : (i : ℕ) → Has s k v S key i → Place s k v S key i
  same_place i f = record {
    slot = f.slot;
    only = λ key' h. sym h.key_is ∙ f.key_is;
    alone = λ j h. g.once key j i h f;
    reach = g.reached key i f;
  }

  pub free_place : (i n : ℕ) → spot ≡ free i n → Place s k v S key i
  free_place i n e =
      let r = free_slot s k v S g 8 2 refl reports reports_honest key i n e in
      record {
        slot = r.0;
        only = λ key' h. impossible (cc (r.1, h.taken));
        alone = λ j h. impossible (cc (e, (finds_8 j h).1));
        reach = r.2;
      }

  module _ (value old : List ℕ) (f : Fitting s k v key value old) where
    passes : first_some (insert_rows s k v key value old) ≡ none
    passes = fitting_passes s k v key value old f

    decided : (r : Spot) → spot ≡ r → Inserts s k v key value old (insert_says r) (written s k v S key value r) (old_value s k v old r)
    decided r e = rw g.count at (insert_answer_says s k v key value old r passes (rw g.count e))

    says : (r : Spot) → spot ≡ r → insert_answer s k v key value old ≡ insert_says r
    says r e = (decided r e).0

    writes : (r : Spot) → spot ≡ r → insert_book s k v key value old ≡ written s k v S key value r
    writes r e = (decided r e).1

    by_spot : (r : Spot) → spot ≡ r → Done s k v S key value old ⊎ Crowded s k v S key value old
    unfolding insert_says written accepted
    by_spot (same i n) e =
        let h = is_there_8 i n e in
        inl (record {
          slot = i;
          place = same_place i h;
          wrote = rw (writes (same i n) e) (same_wrote s k v S key value i f.key_fits f.value_fits g h);
          said = rw (says (same i n) e);
        })
    by_spot (free i n) e =
        let p = free_place i n e in
        inl (record {
          slot = i;
          place = p;
          wrote = rw (writes (free i n) e) (free_wrote s k v S key value i f.key_fits f.value_fits (sound_passed s k v S g) p.slot);
          said = rw (says (free i n) e);
        })
    by_spot (full n) e =
        inr (record {
          said = says (full n) e ∙ ap (λ (m : ℕ). refused (no_end m)) (full_groups 8 reports s k v S key n e);
          left = writes (full n) e;
          new = not_there_8 (λ i m q. impossible (cc (q, e)));
          all_taken = full_book s k v S g 8 2 refl reports reports_honest key n e;
        })

    pub fitting_step : Done s k v S key value old ⊎ Crowded s k v S key value old
    fitting_step = by_spot spot refl

-- ---- any call on a sound book

-- it is accepted, and then its sizes are the book's
pub record Accepted (s : List ℕ) (k v S : ℕ) (c : Call) : Type 0 where
  pub key_size : c.k ≡ k
  pub value_size : c.v ≡ v
  pub done : Done s k v S c.key c.value c.old

-- or it is not, and nothing is changed
pub record Refused (s : List ℕ) (c : Call) : Type 0 where
  pub said : accepted (answer s c) ≡ false
  pub left : book s c ≡ s

module _ (s : List ℕ) (k v S : ℕ) (g : Sound s k v S) where
  pub step : (c : Call) → Accepted s k v S c ⊎ Refused s c
  unfolding accepted
  step c = go (first_some (insert_rows s c.k c.v c.key c.value c.old)) refl
    where
      go : (o : Option Refusal) → first_some (insert_rows s c.k c.v c.key c.value c.old) ≡ o → Accepted s k v S c ⊎ Refused s c
      go (some r) e =
          let q = insert_refused s c.k c.v c.key c.value c.old r e in
          inr (record { said = rw q.0; left = q.1 })
      go none e =
          let f = fitting s c.k c.v c.key c.value c.old e in
          let ek : c.k ≡ k = sym (key_stated s c.k c.v f.header) ∙ key_stated s k v g.rows in
          let ev : c.v ≡ v = sym (value_stated s c.k c.v f.header) ∙ value_stated s k v g.rows in
          let fits : Fitting s k v c.key c.value c.old = rw (ek, ev) at f in
          ⊎_elim (λ (d : Done s k v S c.key c.value c.old). inl (record { key_size = ek; value_size = ev; done = d }))
          (λ (q : Crowded s k v S c.key c.value c.old). inr (record { said = rw (ek, ev, q.said); left = rw (ek, ev) q.left }))
          (fitting_step s k v S g c.key c.value c.old fits)

  pub call_sound : (c : Call) → Sound (book s c) k v S
  call_sound c =
      ⊎_elim
      (λ (a : Accepted s k v S c). rw (a.key_size, a.value_size)
      (still_sound s (insert_book s k v c.key c.value c.old) k v S c.key c.value a.done.slot g a.done.place a.done.wrote))
      (λ (r : Refused s c). rw r.left g) (step c)
