-- The invariant: of what is left, as much goes as of the whole. The measure is how many gaps are left.
use mathlib.Core.Path.{◌≡◌}
use lib.ListN.{length}
use Rattle.rules.specs.Lists.{drop_below}
use Rattle.rings.specs.View.{RingWf, list_of}
use Rattle.rings.proofs.ring.Ring.drop_below.Given as goal

abbrev pub invariant-loop-gap : goal.invariant-loop-gap
invariant-loop-gap g l = RingWf l.self × (drop_below l.seq.0 (list_of l.self) ≡ drop_below l.seq.0 (list_of l.initial.self))

abbrev pub decreases-loop-gap : goal.decreases-loop-gap
decreases-loop-gap g l = length (list_of l.self)
