-- The fourteen starred examples hold, by one computed test over their list.
-- Assumes nothing.
use mathlib.Core.Path.{◌≡◌, refl}
use mathlib.Core.Bool.{Bool, true, ◌&&◌}
use mathlib.Core.List.{List, [], ◌∷◌}
use lib.ListN.{length}
use Rattle.rules.specs.Bytes.{le, same_bytes}
use Rattle.rules.specs.Hash.{mixed, chunks, eights, hash_of}
use Rattle.rules.specs.Group.{hit, reports_after, reports, positions}
use Rattle.rules.specs.Examples.{Example, examples}

-- whether each example is as the document states it
unfoldable pub holds : List Example → Bool
holds [] = true
holds (e ∷ es) = same_bytes e.given e.stated && holds es

pub examples_hold : holds examples ≡ true
unfolding holds examples same_bytes le mixed chunks eights hash_of hit reports_after reports positions
examples_hold = refl

pub fourteen : length examples ≡ 14
unfolding examples
fourteen = refl
