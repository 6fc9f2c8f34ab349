-- What an insert changes, in any book. What holds of the book that it was, where a row refused it, and of
-- what is written where the search ends, holds of the book after it. Assumes nothing.
use mathlib.Core.Path.{◌≡◌, refl, sym, ap, ◌∙◌}
use mathlib.Core.Bool.{true, false}
use mathlib.Core.List.{List, ◌++◌}
use mathlib.Core.Option.{Option, none, some}
use Prim.Native.Nat.{ℕ}
use native.Mathlib.Omega.{arith}
use lib.ListN.{length}
use lib.Seq.{sets, length-sets}
use Rattle.rules.specs.Bytes.{byte_at}
use Rattle.rules.specs.First.{first_some}
use Rattle.rules.specs.Layout.{entry_at, value_at, slot_count}
use Rattle.rules.specs.Hash.{tag_of}
use Rattle.rules.specs.Search.{Spot, same, free, full, spot_of}
use Rattle.rules.specs.Rows.{Refusal}
use Rattle.rules.specs.Calls.{new, replaced, insert_rows, insert_says, written}
use Rattle.rules.proofs.TestLaws.{impossible}
use Rattle.rules.proofs.StoreLaws.{sets_beside, length_control}
use Rattle.rules.proofs.CallLaws.{Fitting, fitting, insert_answer_says, insert_refused}
use Rattle.promises.specs.Sound.{Beside, Outside}
use Rattle.promises.specs.History.{Call, answer, book, accepted}
use Rattle.promises.proofs.Step.{free_elsewhere}

module _ (s : List ℕ) (c : Call) where
  abbrev after_spot : Spot → List ℕ
  after_spot r = written s c.k c.v (slot_count s) c.key c.value r

  either_way : (Q : List ℕ → Type 0) → Q s
      → ((r : Spot) → answer s c ≡ insert_says r → Fitting s c.k c.v c.key c.value c.old → Q (after_spot r)) → Q (book s c)
  either_way Q q f = go (first_some (insert_rows s c.k c.v c.key c.value c.old)) refl
    where
      go : (o : Option Refusal) → first_some (insert_rows s c.k c.v c.key c.value c.old) ≡ o → Q (book s c)
      go (some r) e = rw (insert_refused s c.k c.v c.key c.value c.old r e).1 q
      go none e =
          let spot = spot_of s c.k c.v (slot_count s) c.key in
          let says = insert_answer_says s c.k c.v c.key c.value c.old spot e refl in
          rw says.1 (f spot says.0 (fitting s c.k c.v c.key c.value c.old e))

  pub refused_nothing : accepted (answer s c) ≡ false → book s c ≡ s
  unfolding accepted insert_says written
  refused_nothing e = either_way (λ (t : List ℕ). t ≡ s) refl by
    where
      by : (r : Spot) → answer s c ≡ insert_says r → Fitting s c.k c.v c.key c.value c.old → after_spot r ≡ s
      by (same i n) a f = let z : true ≡ false = ap accepted (sym a) ∙ e in impossible cc
      by (free i n) a f = let z : true ≡ false = ap accepted (sym a) ∙ e in impossible cc
      by (full n) a f = refl

  pub length_stays : length (book s c) ≡ length s
  unfolding written
  length_stays = either_way (λ (t : List ℕ). length t ≡ length s) refl by
    where
      by : (r : Spot) → answer s c ≡ insert_says r → Fitting s c.k c.v c.key c.value c.old → length (after_spot r) ≡ length s
      by (same i n) a f = length-sets s (value_at c.k c.v i) c.value
      by (free i n) a f =
          length_control (sets s (entry_at c.k c.v i) (c.key ++ c.value)) c.k c.v (slot_count s) i (tag_of c.key)
          ∙ length-sets s (entry_at c.k c.v i) (c.key ++ c.value)
      by (full n) a f = refl

  pub new_slot : (i n x : ℕ) → answer s c ≡ new i n → Outside c.k c.v (slot_count s) i x → byte_at (book s c) x ≡ byte_at s x
  unfolding insert_says written
  new_slot i n x e out = either_way (λ (t : List ℕ). byte_at t x ≡ byte_at s x) refl by
    where
      by : (r : Spot) → answer s c ≡ insert_says r → Fitting s c.k c.v c.key c.value c.old → byte_at (after_spot r) x ≡ byte_at s x
      by (same j m) a f = impossible cc
      by (free j m) a f =
          let q : i ≡ j = cc in
          free_elsewhere s c.k c.v (slot_count s) c.key c.value j f.key_fits f.value_fits x (rw q at out)
      by (full m) a f = refl

  pub replaced_value : (i n x : ℕ) → answer s c ≡ replaced i n → Beside (value_at c.k c.v i) c.v x → byte_at (book s c) x ≡ byte_at s x
  unfolding insert_says written
  replaced_value i n x e out = either_way (λ (t : List ℕ). byte_at t x ≡ byte_at s x) refl by
    where
      by : (r : Spot) → answer s c ≡ insert_says r → Fitting s c.k c.v c.key c.value c.old → byte_at (after_spot r) x ≡ byte_at s x
      by (same j m) a f =
          let q : i ≡ j = cc in
          sets_beside c.value s (value_at c.k c.v j) x (λ y h d. out y (omega (arith, f.value_fits)) (rw q d))
      by (free j m) a f = impossible cc
      by (full m) a f = refl
