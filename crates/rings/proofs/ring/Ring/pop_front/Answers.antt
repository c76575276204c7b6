-- With a count of 0 there is nothing to drop; else the head goes one place on, and the count is one less.
use borrow.Author.Rules.{rules}
use native.Mathlib.Omega.{arith}
use Rattle.rings.specs.View.{list_of, no_gap}
use Rattle.rings.proofs.Laws.{ring-none, ring-pop}
use Rattle.rings.proofs.ring.Ring.pop_front.Goals as goal

pub returns-then-self-eq0 : goal.returns-then-self-eq0
unfolding list_of
returns-then-self-eq0 g c = let r = c.args.self.now in record { wf = search rules; is = rw (ring-none g.row.ROOM no_gap r.slots r.head r.count c.if-self-eq0.true) }

pub returns : goal.returns
unfolding list_of
returns g c = let r = c.args.self.now in record { wf = search rules; is = rw c.place-self.ensures.is (ring-pop g.row.ROOM no_gap r.slots r.head r.count (omega arith)) }
