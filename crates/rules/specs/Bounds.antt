-- What it means to have passed rows 1, 9 and 10, as records that code can require. `proofs/RowLaws.antt` has that the rows give them.
use Rattle.std.specs.Prelude.{◌≡◌, List, ℕ, ◌*◌, ◌^◌, ◌≤◌, length}
use Rattle.rules.specs.Layout.{total}

pub record Sizes (k v : ℕ) : Type 0 where
  pub key_least : 1 ≤ k
  pub key_most : k ≤ 255
  pub value_most : v ≤ 255

-- a slot count; the bound leaves room above the limit
pub record Slots (S : ℕ) : Type 0 where
  pub log : ℕ
  pub is : S ≡ 2 ^ log * 16
  pub least : 16 ≤ S
  pub most : S ≤ 2 ^ 20

pub record Passed (s : List ℕ) (k v S : ℕ) : Type 0 where
  pub sizes : Sizes k v
  pub slots : Slots S
  pub long : length s ≡ total k v S
