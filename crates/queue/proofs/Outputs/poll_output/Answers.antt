-- The first of the list stands at the head, and the rest from the place after it.
use borrow.Author.Rules.{rules}
use native.Mathlib.Omega.{arith}
use mathlib.Core.Path.{◌≡◌, refl, ap}
use Rattle.std.specs.Prelude.{Some}
use lib.ListN.{length}
use Rattle.rules.specs.Names.{Output}
use Rattle.rings.proofs.Laws.{ring-none, ring-pop, ring-cons, long_of}
use Rattle.queue.proofs.Laws.{get_d_any}
use Rattle.rules.specs.Outputs.{close_transport}
use Rattle.queue.specs.View.{outs_of}
use Rattle.queue.proofs.Outputs.poll_output.Goals as goal

pub returns-then-self-eq0 : goal.returns-then-self-eq0
unfolding outs_of
returns-then-self-eq0 c = rw (ring-none 32 close_transport c.args.self.slots c.args.self.head c.args.self.count c.if-self-eq0.true) (record { queue = record { wf = search rules; is = rw (ring-none 32 close_transport c.args.self.slots c.args.self.head c.args.self.count c.if-self-eq0.true) }; output = refl })

pub returns : goal.returns
unfolding outs_of
returns c =
    let len : length c.args.self.slots ≡ 32 = search (rules, long_of) in
    record {
      queue = record { wf = search rules; is = rw c.place.ensures.is (λ i. record { outs = ring-pop 32 close_transport c.args.self.slots c.args.self.head c.args.self.count (omega arith) i; closing = c.args.self.closing }) };
      output = rw (ring-cons 32 close_transport c.args.self.slots c.args.self.head c.args.self.count (omega arith)) (ap (λ (o : Output). Some o) (get_d_any c.args.self.slots c.args.self.head _ close_transport (rw len (omega arith))));
    }
