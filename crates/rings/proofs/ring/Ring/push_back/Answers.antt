-- The new element goes to the place after the last, which is none of the ring's, so the list grows at its end and stays else.
use borrow.Author.Rules.{rules}
use native.Mathlib.Omega.{arith}
use native.Mathlib.Numerals.{add-one}
use mathlib.Core.Path.{◌≡◌}
use lib.ListN.{length}
use Rattle.rings.specs.View.{list_of, no_gap}
use Rattle.rings.proofs.Laws.{ring-push, long_of}
use Rattle.rings.proofs.GapLaws.{ring_length}
use Rattle.rings.proofs.ring.Ring.push_back.Goals as goal

pub overflow_add-self : goal.overflow_add-self
overflow_add-self g c = omega (arith, ring_length c.args.self.now)

pub returns : goal.returns
unfolding list_of
returns g c =
    let r = c.args.self.now in
    let n = ring_length r in
    let len : length r.slots ≡ g.row.ROOM = search (rules, long_of) in
    record {
      wf = search rules;
      is = rw (c.place.ensures.is, add-one) (ring-push g.row.ROOM no_gap r.slots c.args.gap r.head r.count (omega arith) (omega arith) len);
    }
