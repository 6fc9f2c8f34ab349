-- What a store leaves: the bytes that it writes, and every other byte as it was; of a run of bytes, and of a control byte with its mirror.
-- Assumes nothing.
use mathlib.Core.Path.{◌≡◌, refl, ◌∙◌}
use mathlib.Core.Logic.{dite}
use mathlib.Core.List.{List, [], ◌∷◌}
use Prim.Native.Nat.{ℕ, zero, suc, ◌+◌, ◌≤◌, ◌<◌}
use native.Mathlib.Nat.{add-zero, add-suc, suc-add}
use native.Mathlib.Decide.{dec_lt}
use native.Mathlib.Omega.{arith}
use borrow.Author.Tests.{lt-ltb, le-ltb}
use lib.ListN.{length, set, length-set}
use lib.Seq.{sets, get_or-set_same, get_or-set_other}
use Rattle.rules.specs.Bytes.{byte_at}
use Rattle.rules.specs.Layout.{control_at, total, control}
use Rattle.rules.specs.Calls.{set_control}

pub sets_beside : (vs s : List ℕ) (at x : ℕ) → ((i : ℕ) → i < length vs → x ≡ at + i → ⊥) → byte_at (sets s at vs) x ≡ byte_at s x
sets_beside [] s at x b = refl
sets_beside (v ∷ vs) s at x b =
    sets_beside vs (set s at v) (suc at) x (λ i h e. b (suc i) (omega arith) (omega arith))
    ∙ get_or-set_other s at x v 0 (λ e. b 0 (omega arith) (omega arith))

pub sets_here : (vs s : List ℕ) (at i : ℕ) → i < length vs → at + length vs ≤ length s → byte_at (sets s at vs) (at + i) ≡ byte_at vs i
sets_here [] s at i h r = absurd (omega arith)
sets_here (v ∷ vs) s at zero h r = rw add-zero (sets_beside vs (set s at v) (suc at) at (λ i h e. omega arith) ∙ get_or-set_same s at v 0 (omega arith))
sets_here (v ∷ vs) s at (suc i) h r = rw (add-suc, ← suc-add) (sets_here vs (set s at v) (suc at) i (omega arith) (simp length-set (omega arith)))

module _ (s : List ℕ) (k v S i c : ℕ) where
  -- a control byte is set as one store or, below 16, as two
  low : i < 16 → set_control s k v S i c ≡ set (set s (control_at k v S i) c) (control_at k v S (S + i)) c
  unfolding set_control
  low h = rw (lt-ltb i 16 h)

  high : 16 ≤ i → set_control s k v S i c ≡ set s (control_at k v S i) c
  unfolding set_control
  high h = rw (le-ltb i 16 h)

  pub length_control : length (set_control s k v S i c) ≡ length s
  length_control = dite (dec_lt i 16) (λ h. rw (low h) (simp length-set)) (λ h. rw (high (omega arith)) (simp length-set))

  pub control_beside : (x : ℕ) → (x ≡ control_at k v S i → ⊥) → (i < 16 → x ≡ control_at k v S (S + i) → ⊥) → byte_at (set_control s k v S i c) x ≡ byte_at s x
  control_beside x a b =
      let one : byte_at (set s (control_at k v S i) c) x ≡ byte_at s x = get_or-set_other s (control_at k v S i) x c 0 a in
      dite (dec_lt i 16) (λ h. rw (low h) (get_or-set_other (set s (control_at k v S i) c) (control_at k v S (S + i)) x c 0 (b h) ∙ one))
      (λ h. rw (high (omega arith)) one)

  module _ (l : length s ≡ total k v S) (slot : i < S) where
    pub control_here : control (set_control s k v S i c) k v S i ≡ c
    control_here =
        let one : control (set s (control_at k v S i) c) k v S i ≡ c = get_or-set_same s (control_at k v S i) c 0 (omega arith) in
        dite (dec_lt i 16)
        (λ h. rw (low h) (get_or-set_other (set s (control_at k v S i) c) (control_at k v S (S + i)) (control_at k v S i) c 0 (λ e. omega arith) ∙ one))
        (λ h. rw (high (omega arith)) one)

    pub mirror_here : i < 16 → control (set_control s k v S i c) k v S (S + i) ≡ c
    mirror_here h = rw (low h) (get_or-set_same (set s (control_at k v S i) c) (control_at k v S (S + i)) c 0 (simp length-set (omega arith)))
