-- With a count of 0 the list is empty; else its last element stands count - 1 places after the head.
use native.Mathlib.Omega.{arith}
use Rattle.rings.specs.View.{list_of, no_gap}
use Rattle.rings.proofs.Laws.{ring-none, ring-last}
use Rattle.rings.proofs.GapLaws.{back-snoc}
use Rattle.rings.proofs.ring.Ring.back.Goals as goal

pub returns-then-self-eq0 : goal.returns-then-self-eq0
unfolding list_of
returns-then-self-eq0 g c = let r = c.args.self.now in rw (ring-none g.row.ROOM no_gap r.slots r.head r.count c.if-self-eq0.true)

pub returns : goal.returns
unfolding list_of
returns g c = let r = c.args.self.now in rw (c.place.ensures.is, ring-last g.row.ROOM no_gap r.slots r.head r.count (omega arith) (omega arith) (omega arith), back-snoc)
