-- The fields follow each other, so their stores are one store. Assumes nothing.
use mathlib.Core.Path.{◌≡◌}
use Prim.Native.Nat.{◌%◌}
use native.Mathlib.Nat.{mod-eq_of_lt}
use native.Mathlib.Omega.{arith}
use Rattle.rules.specs.Bytes.{le_bytes}
use Rattle.memory_layout.proofs.init.put_sizes.Goals as goal

pub returns : goal.returns
unfolding le_bytes
returns c =
    let a = c.args in
    let key : a.sizes.k % 256 ≡ a.sizes.k = mod-eq_of_lt (omega arith) in
    let value : a.sizes.v % 256 ≡ a.sizes.v = mod-eq_of_lt (omega arith) in
    rw (c.put-5.ensures, c.put-4.ensures, c.put-3.ensures, c.put-2.ensures, c.put.ensures, key, value)
