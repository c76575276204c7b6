-- The store goes to the place of the last element, which is none of the others'.
use borrow.Author.Rules.{rules}
use native.Mathlib.Omega.{arith}
use mathlib.Core.Path.{◌≡◌}
use lib.ListN.{length}
use Rattle.rings.specs.View.{list_of, no_gap}
use Rattle.rings.proofs.Laws.{ring-set-back, long_of}
use Rattle.rings.proofs.GapLaws.{ring_length}
use Rattle.rings.proofs.ring.Ring.set_back.Goals as goal

pub overflow_sub-self : goal.overflow_sub-self
overflow_sub-self g c = omega (arith, ring_length c.args.self.now)

pub returns : goal.returns
unfolding list_of
returns g c =
    let r = c.args.self.now in
    let n = ring_length r in
    let len : length r.slots ≡ g.row.ROOM = search (rules, long_of) in
    record {
      wf = search rules;
      is = rw c.place.ensures.is (ring-set-back g.row.ROOM no_gap r.slots c.args.gap r.head r.count (omega arith) (omega arith) (omega arith) len);
    }
