-- A sound book as a map. A lookup gives the value of the slot where the key stands; a call that is accepted changes it at its own key, to its own
-- value, and any other call changes nothing. Over a list of calls the last accepted one decides. Assumes nothing.
use mathlib.Core.Path.{◌≡◌, refl, sym, ap, ◌∙◌}
use mathlib.Core.Logic.{◌⊎◌, inl, inr, ⊎_elim, dite}
use mathlib.Core.Bool.{Bool, true, false, cond, ◌&&◌}
use mathlib.Core.List.{List, [], ◌∷◌}
use mathlib.Core.Option.{Option, none, some}
use Prim.Native.Nat.{ℕ}
use native.Mathlib.Decide.{ℕ_discrete}
use lib.ListN.{length}
use Rattle.rules.specs.Bytes.{same_bytes}
use Rattle.rules.specs.First.{first_some}
use Rattle.rules.specs.Layout.{value_of}
use Rattle.rules.specs.Search.{Spot, same, free, full, spot_of}
use Rattle.rules.specs.Calls.{at_slot, absent, find_says, find_answer, insert_book}
use Rattle.rules.proofs.TestLaws.{impossible}
use Rattle.rules.proofs.BytesLaws.{same_is, same_self}
use Rattle.rules.proofs.CallLaws.{find_passes, find_answer_says, find_at}
use Rattle.promises.specs.Sound.{Has, Nowhere, Sound}
use Rattle.promises.specs.History.{Call, book, after, given, last_accepted, value_found, lookup}
use Rattle.promises.proofs.Wrote.{Wrote, had, keeps, has_new, only_new, other_value}
use Rattle.promises.proofs.Step.{finds_8, is_there_8, not_there_8, Accepted, Refused, step, call_sound}

module _ (s : List ℕ) (k v S : ℕ) (g : Sound s k v S) (key : List ℕ) (lk : length key ≡ k) where
  -- the key stands in a slot, or nowhere
  pub stands : ((i : ℕ) × Has s k v S key i) ⊎ Nowhere s k v S key
  stands = go (spot_of s k v S key) refl
    where
      go : (r : Spot) → spot_of s k v S key ≡ r → ((i : ℕ) × Has s k v S key i) ⊎ Nowhere s k v S key
      go (same i n) e = inl (i, is_there_8 s k v S g key i n e)
      go (free i n) e = inr (not_there_8 s k v S g key (λ j m q. impossible (cc (q, e))))
      go (full n) e = inr (not_there_8 s k v S g key (λ j m q. impossible (cc (q, e))))

  find_is : (r : Spot) → spot_of s k v S key ≡ r → find_answer s k v key ≡ find_says r
  find_is r e =
      find_answer_says s k v key (find_passes s k v key g.rows lk) ∙ ap (λ (n : ℕ). find_says (spot_of s k v n key)) g.count ∙ ap find_says e

  pub find_has : (i : ℕ) → Has s k v S key i → (n : ℕ) × (find_answer s k v key ≡ at_slot i n)
  unfolding find_says
  find_has i f = let q = finds_8 s k v S g key i f in (q.0, find_is (same i q.0) q.1)

  pub find_nowhere : Nowhere s k v S key → (n : ℕ) × (find_answer s k v key ≡ absent n)
  unfolding find_says
  find_nowhere f = go (spot_of s k v S key) refl
    where
      go : (r : Spot) → spot_of s k v S key ≡ r → (n : ℕ) × (find_answer s k v key ≡ absent n)
      go (same i n) e = absurd (f i (is_there_8 s k v S g key i n e))
      go (free i n) e = (n, find_is (free i n) e)
      go (full n) e = (n, find_is (full n) e)

  -- the slot that find answers has the key
  pub found_has : (i n : ℕ) → find_answer s k v key ≡ at_slot i n → Has s k v S key i
  found_has i n e = is_there_8 s k v S g key i n (rw g.count at (find_at s k v key i n e).1)

  pub lookup_has : (i : ℕ) → Has s k v S key i → lookup s k v key ≡ some (value_of s k v i)
  unfolding lookup value_found
  lookup_has i f = rw (find_has i f).1

  pub lookup_nowhere : Nowhere s k v S key → lookup s k v key ≡ none
  unfolding lookup value_found
  lookup_nowhere f = rw (find_nowhere f).1

-- ---- one call

-- the first that is there, of one
first_one : {A : Type 0} (x : Option A) → first_some (x ∷ []) ≡ x
unfolding first_some
first_one none = refl
first_one (some a) = refl

module _ (s : List ℕ) (k v S : ℕ) (g : Sound s k v S) (c : Call) (key : List ℕ) (lk : length key ≡ k) where
  abbrev Then : Type 0
  Then = lookup (book s c) k v key ≡ first_some (given s c key ∷ lookup s k v key ∷ [])

  left_alone : Refused s c → Then
  unfolding given first_some
  left_alone r = rw (r.said, r.left) (sym (first_one (lookup s k v key)))

  module _ (a : Accepted s k v S c) where
    abbrev t : List ℕ
    t = insert_book s k v c.key c.value c.old

    abbrev i : ℕ
    i = a.done.slot

    written_is : Wrote s t k v S c.key c.value i
    written_is = a.done.wrote

    sound_t : Sound t k v S
    sound_t = rw (a.key_size, a.value_size) at (call_sound s k v S g c)

    own : c.key ≡ key → lookup t k v key ≡ some c.value
    own e =
        let h = has_new s t k v S c.key c.value i g a.done.place written_is in
        lookup_has t k v S sound_t key lk i (record { slot = h.slot; taken = h.taken; key_is = h.key_is ∙ e })
        ∙ ap some written_is.value_there

    other : (c.key ≡ key → ⊥) → lookup t k v key ≡ lookup s k v key
    other d =
        ⊎_elim
        (λ (h : (j : ℕ) × Has s k v S key j).
        let apart : h.0 ≡ i → ⊥ = λ e. d (sym (a.done.place.only key (rw e at h.1))) in
        lookup_has t k v S sound_t key lk h.0 (keeps s t k v S c.key c.value i g a.done.place written_is key h.0 apart h.1)
        ∙ ap some (other_value s t k v S c.key c.value i g a.done.place written_is h.0 h.1.slot apart)
        ∙ sym (lookup_has s k v S g key lk h.0 h.1))
        (λ (f : Nowhere s k v S key).
        lookup_nowhere t k v S sound_t key lk
        (λ j h. dite (ℕ_discrete j i) (λ e. d (sym (only_new s t k v S c.key c.value i g a.done.place written_is key (rw e at h))))
        (λ e. f j (had s t k v S c.key c.value i g a.done.place written_is key j e h)))
        ∙ sym (lookup_nowhere s k v S g key lk f))
        (stands s k v S g key lk)

    written_down : Then
    unfolding given first_some
    written_down = rw (a.key_size, a.value_size, a.done.said) (go (same_bytes c.key key) refl)
      where
        go : (q : Bool) → same_bytes c.key key ≡ q
            → lookup t k v key ≡ first_some (cond (true && same_bytes c.key key) (some c.value) none ∷ lookup s k v key ∷ [])
        go true e = rw e (own (same_is c.key key e))
        go false e = rw e (other (λ q. let y : same_bytes c.key key ≡ true = rw q (same_self key) in impossible cc) ∙ sym (first_one (lookup s k v key)))

  pub lookup_call : Then
  lookup_call = ⊎_elim (λ (a : Accepted s k v S c). written_down a) (λ (r : Refused s c). left_alone r) (step s k v S g c)

-- ---- a list of calls

module _ (k v S : ℕ) where
  pub calls_sound : (calls : List Call) (s : List ℕ) → Sound s k v S → Sound (after s calls) k v S
  unfolding after
  calls_sound [] s g = g
  calls_sound (c ∷ calls) s g = calls_sound calls (book s c) (call_sound s k v S g c)

  -- the first of three, taken two at a time
  three : {A : Type 0} (x y z : Option A) → first_some (x ∷ first_some (y ∷ z ∷ []) ∷ []) ≡ first_some (first_some (x ∷ y ∷ []) ∷ z ∷ [])
  unfolding first_some
  three (some a) y z = refl
  three none (some b) z = refl
  three none none none = refl
  three none none (some d) = refl

  pub lookup_calls : (key : List ℕ) → length key ≡ k → (calls : List Call) (s : List ℕ) → Sound s k v S
      → lookup (after s calls) k v key ≡ first_some (last_accepted s calls key ∷ lookup s k v key ∷ [])
  unfolding after last_accepted first_some
  lookup_calls key lk [] s g = sym (first_one (lookup s k v key))
  lookup_calls key lk (c ∷ calls) s g =
      lookup_calls key lk calls (book s c) (call_sound s k v S g c)
      ∙ ap (λ (o : Option (List ℕ)). first_some (last_accepted (book s c) calls key ∷ o ∷ [])) (lookup_call s k v S g c key lk)
      ∙ three (last_accepted (book s c) calls key) (given s c key) (lookup s k v key)
