-- The invariant: the hash of the bytes is what the rest makes of the hash so far.
use Rattle.std.proofs.Common.{◌≡◌, ◌/◌, length}
use Rattle.rules.specs.Hash.{eights}
use Rattle.fxhash.proofs.hash_any.Given as goal

abbrev pub invariant-loop-chunk : goal.invariant-loop-chunk
invariant-loop-chunk l = eights (length l.rest / 8) l.hash l.rest ≡ eights (length l.bytes / 8) 0 l.bytes

abbrev pub decreases-loop-chunk : goal.decreases-loop-chunk
decreases-loop-chunk l = length l.rest
