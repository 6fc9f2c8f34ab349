-- A fresh book is sound, and no key stands in it: nothing is occupied. Assumes nothing.
use mathlib.Core.Path.{◌≡◌, sym, ap, ◌∙◌}
use mathlib.Core.List.{List}
use Prim.Native.Nat.{ℕ, suc, ◌+◌, ◌*◌, ◌≤◌}
use native.Mathlib.Nat.{add_assoc, mul-le-mul_right}
use native.Mathlib.Omega.{arith}
use Rattle.rules.specs.Bytes.{byte_at}
use Rattle.rules.specs.Layout.{control, fresh_book}
use Rattle.rules.specs.Calls.{fine, init_answer, init_book}
use Rattle.rules.proofs.LayoutLaws.{tag_low}
use Rattle.rules.proofs.FreshLaws.{control_fresh, entry_fresh, states_slots, rows_fresh, init_fresh, init_passes}
use Rattle.promises.specs.Sound.{Nowhere, Sound}

module _ (k v S count load : ℕ) where
  nothing : (key : List ℕ) → Nowhere (fresh_book k v S count load) k v S key
  nothing key i f =
      omega (arith, tag_low (control (fresh_book k v S count load) k v S i) f.taken, control_fresh k v S count load i (omega (arith, f.slot)))

module _ (s : List ℕ) (k v S count load : ℕ) (e : init_answer s k v S ≡ fine) where
  pub fresh_sound : Sound (init_book s k v S count load) k v S
  fresh_sound =
      let rows = init_passes s k v S e in
      let none = nothing k v S count load in
      rw (init_fresh s k v S rows count load) (record {
        rows = rows_fresh s k v S rows count load;
        count = states_slots s k v S rows count load;
        mirrors = λ j h. control_fresh k v S count load (S + j) (omega arith) ∙ sym (control_fresh k v S count load j (omega arith));
        tags = λ key i f. absurd (none key i f);
        zeros = λ i n h f l. let u : suc i * (k + v) ≤ S * (k + v) = mul-le-mul_right (k + v) h in
            ap (byte_at (fresh_book k v S count load)) (add_assoc 32 (i * (k + v)) n) ∙ entry_fresh k v S count load (i * (k + v) + n) (omega arith);
        once = λ key i j f h. absurd (none key i f);
        reached = λ key i f. absurd (none key i f);
      })

  pub fresh_empty : (key : List ℕ) → Nowhere (init_book s k v S count load) k v S key
  fresh_empty key = rw (init_fresh s k v S (init_passes s k v S e) count load) (nothing k v S count load key)
