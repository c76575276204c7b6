-- The refusals in their order; then by the flow, with a number or without.
use borrow.Author.Tests.{le-leb, lt-leb}
use native.Mathlib.Omega.{arith}
use Prim.Native.Nat.{◌≤◌, ◌<◌, ◌-◌}
use Rattle.types.specs.Base.{all_ones}
use Rattle.rules.specs.Local.{send_refused, send_application}
use Rattle.session.proofs.Laws.{is_false, is_true}
use Rattle.session.proofs.Session.send_application.Goals as goal

pub returns-then-not-is_established : goal.returns-then-not-is_established
unfolding send_refused
returns-then-not-is_established c = rw (is_false c.is_established.ensures c.if-not-is_established.true) c.refuse_state.ensures

pub returns-then-finished_receiving_sent : goal.returns-then-finished_receiving_sent
unfolding send_refused
returns-then-finished_receiving_sent c = rw (is_true c.is_established.ensures c.if-not-is_established.false, is_true c.finished_receiving_sent.ensures c.if-finished_receiving_sent.true) c.refuse.ensures

pub returns-then-is_none : goal.returns-then-is_none
unfolding send_refused
returns-then-is_none c = rw (is_true c.is_established.ensures c.if-not-is_established.false, is_false c.finished_receiving_sent.ensures c.if-finished_receiving_sent.false, is_true c.is_none.ensures c.if-is_none.true) c.refuse-then-is_none.ensures

pub returns-then-not-is_sequenced : goal.returns-then-not-is_sequenced
unfolding send_refused send_application
returns-then-not-is_sequenced c = rw (is_true c.is_established.ensures c.if-not-is_established.false, is_false c.finished_receiving_sent.ensures c.if-finished_receiving_sent.false, is_false c.is_none.ensures c.if-is_none.false, is_false c.is_sequenced.ensures c.if-not-is_sequenced.true) c.reply.ensures

pub returns-then-self : goal.returns-then-self
unfolding send_refused
returns-then-self c =
    let h : all_ones - 1 ≤ c.args.self.outbound_next.0 = omega (arith, c.if-self.true) in
    rw (is_true c.is_established.ensures c.if-not-is_established.false, is_false c.finished_receiving_sent.ensures c.if-finished_receiving_sent.false, is_false c.is_none.ensures c.if-is_none.false, is_true c.is_sequenced.ensures c.if-not-is_sequenced.false, le-leb _ _ h) c.refuse-then-self.ensures

pub send_numbered-requires-clause-ready : goal.send_numbered-requires-clause-ready
send_numbered-requires-clause-ready c = record { session = c.requires.session; queue = c.requires.queue; room = c.requires.room }

pub send_numbered-requires-clause-outbound_next_bound : goal.send_numbered-requires-clause-outbound_next_bound
send_numbered-requires-clause-outbound_next_bound c = omega (arith, c.if-self.false)

pub returns : goal.returns
unfolding send_refused send_application
returns c =
    let h : c.args.self.outbound_next.0 < all_ones - 1 = omega (arith, c.if-self.false) in
    rw (is_true c.is_established.ensures c.if-not-is_established.false, is_false c.finished_receiving_sent.ensures c.if-finished_receiving_sent.false, is_false c.is_none.ensures c.if-is_none.false, is_true c.is_sequenced.ensures c.if-not-is_sequenced.false, lt-leb _ _ h) c.send_numbered.ensures
