-- The place after the last takes the output, and the flag is set where it asks for that.
use borrow.Author.Rules.{rules}
use native.Mathlib.Omega.{arith}
use mathlib.Core.Path.{◌≡◌}
use mathlib.Core.Bool.{false, ◌||◌}
use native.Mathlib.Numerals.{add-one}
use lib.ListN.{length}
use Rattle.rings.proofs.Laws.{ring-push, long_of}
use Rattle.rules.specs.State.{queued, is_close}
use Rattle.rules.specs.Outputs.{close_transport}
use Rattle.queue.specs.View.{outs_of}
use Rattle.queue.proofs.Laws.{outs-length, or-false}
use Rattle.queue.proofs.Outputs.push.Goals as goal

pub returns-then-self : goal.returns-then-self
unfolding outs_of queued
returns-then-self c =
    let n = outs-length c.args.self in
    let len : length c.args.self.slots ≡ 32 = search (rules, long_of) in
    let p = ring-push 32 close_transport c.args.self.slots c.args.o c.args.self.head c.args.self.count (omega arith) (omega arith) len in
    let q : c.args.self.closing ≡ c.args.self.closing || (is_close c.args.o.said || false) = rw c.if-self.true in
    record { wf = search rules; is = rw (c.place.ensures.is, add-one) (λ i. record { outs = p i; closing = q i }) }

pub returns-else-self : goal.returns-else-self
unfolding outs_of queued
returns-else-self c =
    let n = outs-length c.args.self in
    let len : length c.args.self.slots ≡ 32 = search (rules, long_of) in
    let p = ring-push 32 close_transport c.args.self.slots c.args.o c.args.self.head c.args.self.count (omega arith) (omega arith) len in
    let q : c.is_close.result ≡ c.args.self.closing || (is_close c.args.o.said || false) = rw (c.if-self.false, or-false (is_close c.args.o.said)) c.is_close.ensures in
    record { wf = search rules; is = rw (c.place.ensures.is, add-one) (λ i. record { outs = p i; closing = q i }) }
