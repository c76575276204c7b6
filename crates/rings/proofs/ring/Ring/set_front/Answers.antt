-- The store goes to the place of the first element, which is none of the others'.
use borrow.Author.Rules.{rules}
use native.Mathlib.Omega.{arith}
use mathlib.Core.Path.{◌≡◌}
use lib.ListN.{length}
use Rattle.rings.specs.View.{list_of, no_gap}
use Rattle.rings.proofs.Laws.{ring-set-front, long_of}
use Rattle.rings.proofs.GapLaws.{ring_length}
use Rattle.rings.proofs.ring.Ring.set_front.Goals as goal

pub returns : goal.returns
unfolding list_of
returns g c =
    let r = c.args.self.now in
    let n = ring_length r in
    let len : length r.slots ≡ g.row.ROOM = search (rules, long_of) in
    record {
      wf = search rules;
      is = (ring-set-front g.row.ROOM no_gap r.slots c.args.gap r.head r.count (omega arith) (omega arith) (omega arith) len);
    }
