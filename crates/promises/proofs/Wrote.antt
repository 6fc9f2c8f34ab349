-- A key written where it may stand leaves a sound book. `Place` says where that is, be the slot empty or the key's own, and `Wrote` what is
-- written: so a new key and a replaced value are one case, and every other slot is as it was, byte for byte. Assumes nothing.
use mathlib.Core.Path.{◌≡◌, sym, ◌∙◌}
use mathlib.Core.Logic.{dite}
use mathlib.Core.Bool.{true, false}
use mathlib.Core.List.{List}
use Prim.Native.Nat.{ℕ, suc, ◌+◌, ◌*◌, ◌≤◌, ◌<◌}
use native.Mathlib.Nat.{add_assoc, mul-le-mul_right}
use native.Mathlib.Decide.{ℕ_discrete, dec_lt}
use native.Mathlib.Omega.{arith}
use lib.ListN.{length}
use Rattle.rules.specs.Bytes.{byte_at}
use Rattle.rules.specs.Layout.{entry_at, control_at, key_of, value_of, control, occupied}
use Rattle.rules.specs.Hash.{tag_of, start_of}
use Rattle.rules.specs.Probe.{slot_at}
use Rattle.rules.proofs.TestLaws.{impossible}
use Rattle.rules.proofs.BytesLaws.{same_part}
use Rattle.rules.proofs.LayoutLaws.{entry_fits, low_tag}
use Rattle.rules.proofs.HashLaws.{tag_lt}
use Rattle.rules.proofs.ProbeLaws.{start_lt}
use Rattle.rules.proofs.RowLaws.{same_rows, same_count}
use Rattle.promises.specs.Sound.{Has, Reachable, Sound, Outside}
use Rattle.promises.proofs.Found.{sound_passed, sound_slots, some_slots}

-- slot i is where the key may stand: it has no other key, no other slot has this one, and the key is reachable there
pub record Place (s : List ℕ) (k v S : ℕ) (key : List ℕ) (i : ℕ) : Type 0 where
  pub slot : i < S
  pub only : (key' : List ℕ) → Has s k v S key' i → key' ≡ key
  pub alone : (j : ℕ) → Has s k v S key j → j ≡ i
  pub reach : Reachable s k v S key i

-- t is s with the key, the value and the key's tag in slot i
pub record Wrote (s t : List ℕ) (k v S : ℕ) (key value : List ℕ) (i : ℕ) : Type 0 where
  pub long : length t ≡ length s
  pub elsewhere : (x : ℕ) → Outside k v S i x → byte_at t x ≡ byte_at s x
  pub key_there : key_of t k v i ≡ key
  pub value_there : value_of t k v i ≡ value
  pub tag_there : control t k v S i ≡ tag_of key
  pub mirror_there : i < 16 → control t k v S (S + i) ≡ tag_of key

-- entries of two slots lie apart
apart : (e i j n m : ℕ) → (j ≡ i → ⊥) → n < e → m < e → j * e + n ≡ i * e + m → ⊥
apart e i j n m d hn hm q =
    dite (dec_lt j i) (λ l. let r : suc j * e ≤ i * e = mul-le-mul_right e l in omega arith)
    (λ l. let u : i < j = omega arith in
    let r : suc i * e ≤ j * e = mul-le-mul_right e u in
    omega arith)

module _ (s t : List ℕ) (k v S : ℕ) (key value : List ℕ) (i : ℕ) (g : Sound s k v S) (at : Place s k v S key i) (o : Wrote s t k v S key value i) where
  ends : (j : ℕ) → j < S → entry_at k v j + (k + v) ≤ control_at k v S 0
  ends j h = entry_fits k v S (sound_passed s k v S g).sizes (sound_slots s k v S g) j h

  header_same : (x : ℕ) → x < 32 → byte_at t x ≡ byte_at s x
  header_same x h = o.elsewhere x (record {
    entry = λ n l e. omega arith;
    control_byte = λ e. omega arith;
    mirror = λ l e. omega arith;
  })

  control_same : (q : ℕ) → (q ≡ i → ⊥) → (i < 16 → q ≡ S + i → ⊥) → control t k v S q ≡ control s k v S q
  control_same q d m = o.elsewhere (control_at k v S q) (record {
    entry = λ n l e. omega (arith, ends i at.slot);
    control_byte = λ e. d (omega arith);
    mirror = λ l e. m l (omega arith);
  })

  entry_same : (j n : ℕ) → j < S → (j ≡ i → ⊥) → n < k + v → byte_at t (entry_at k v j + n) ≡ byte_at s (entry_at k v j + n)
  entry_same j n h d l = o.elsewhere (entry_at k v j + n) (record {
    entry = λ m u e. apart (k + v) i j n m d l u (omega arith);
    control_byte = λ e. omega (arith, ends j h);
    mirror = λ u e. omega (arith, ends j h);
  })

  -- ---- the other slots
  module _ (j : ℕ) (h : j < S) (d : j ≡ i → ⊥) where
    other_control : control t k v S j ≡ control s k v S j
    other_control = control_same j d (λ l e. omega arith)

    other_key : key_of t k v j ≡ key_of s k v j
    other_key = same_part k (entry_at k v j) t s o.long (λ n l. entry_same j n h d (omega arith))

    pub other_value : value_of t k v j ≡ value_of s k v j
    other_value =
        same_part v (entry_at k v j + k) t s o.long
        (λ n l. rw (add_assoc (entry_at k v j) k n) (entry_same j (k + n) h d (omega arith)))

  pub had : (key' : List ℕ) (j : ℕ) → (j ≡ i → ⊥) → Has t k v S key' j → Has s k v S key' j
  had key' j d f = record {
    slot = f.slot;
    taken = rw (other_control j f.slot d) at f.taken;
    key_is = sym (other_key j f.slot d) ∙ f.key_is;
  }

  pub keeps : (key' : List ℕ) (j : ℕ) → (j ≡ i → ⊥) → Has s k v S key' j → Has t k v S key' j
  keeps key' j d f = record {
    slot = f.slot;
    taken = rw (other_control j f.slot d) f.taken;
    key_is = other_key j f.slot d ∙ f.key_is;
  }

  -- ---- the slot itself

  pub has_new : Has t k v S key i
  has_new = record { slot = at.slot; taken = rw o.tag_there (low_tag (tag_of key) (tag_lt key)); key_is = o.key_there }

  pub only_new : (key' : List ℕ) → Has t k v S key' i → key' ≡ key
  only_new key' f = sym f.key_is ∙ o.key_there

  -- the key stands in its slot alone
  new_alone : (j : ℕ) → Has t k v S key j → j ≡ i
  new_alone j f = dite (ℕ_discrete j i) (λ e. e) (λ d. at.alone j (had key j d f))

  with_new : (key' : List ℕ) (j n : ℕ) → j ≡ i → Has t k v S key' j → Has t k v S key' n → n ≡ i
  with_new key' j n e f h = new_alone n (rw (only_new key' (rw e at f)) at h)

  -- what was occupied is occupied
  still_taken : (j : ℕ) → j < S → occupied s k v S j ≡ true → occupied t k v S j ≡ true
  still_taken j h e = dite (ℕ_discrete j i) (λ q. rw q has_new.taken) (λ d. rw (other_control j h d) e)

  still_reached : (key' : List ℕ) (j : ℕ) → Reachable s k v S key' j → Reachable t k v S key' j
  still_reached key' j r n m h e l =
      still_taken (slot_at (start_of S key') S m) (start_lt 1 (start_of S key') S m (some_slots s k v S g)) (r n m h e l)

  pub still_sound : Sound t k v S
  still_sound = record {
    rows = rw (same_rows t s o.long header_same k v) g.rows;
    count = same_count t s o.long header_same ∙ g.count;
    mirrors = λ j h. dite (ℕ_discrete j i) (λ e. rw e (o.mirror_there (omega arith) ∙ sym o.tag_there))
        (λ d. control_same (S + j) (λ e. omega (arith, at.slot)) (λ l e. d (omega arith))
        ∙ g.mirrors j h ∙ sym (other_control j (omega (arith, (sound_slots s k v S g).least)) d));
    tags = λ key' j f. dite (ℕ_discrete j i) (λ e. rw (e, only_new key' (rw e at f)) o.tag_there)
        (λ d. other_control j f.slot d ∙ g.tags key' j (had key' j d f));
    zeros = λ j n h e l. dite (ℕ_discrete j i) (λ q. let z : occupied t k v S i ≡ false = rw q at e in impossible (cc has_new.taken))
        (λ d. entry_same j n h d l ∙ g.zeros j n h (rw (other_control j h d) at e) l);
    once = λ key' j n f h. dite (ℕ_discrete j i) (λ e. e ∙ sym (with_new key' j n e f h))
        (λ d. dite (ℕ_discrete n i) (λ e. with_new key' n j e h f ∙ sym e) (λ c. g.once key' j n (had key' j d f) (had key' n c h)));
    reached = λ key' j f. dite (ℕ_discrete j i) (λ e. rw (e, only_new key' (rw e at f)) (still_reached key i at.reach))
        (λ d. still_reached key' j (g.reached key' j (had key' j d f)));
  }
