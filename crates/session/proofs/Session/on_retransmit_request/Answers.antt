-- The checks in the order of the rule.
use borrow.Author.Tests.{eq-eqb, ne_eqb, lt-ltb, le-ltb}
use native.Mathlib.Omega.{arith}
use Rattle.rules.specs.State.{saying}
use Rattle.rules.specs.Serving.{on_retransmit_request}
use Rattle.session.proofs.Laws.{is_false, is_true, queued-length, said, differs, agrees}
use Rattle.session.proofs.Session.on_retransmit_request.Goals as goal

pub returns-then-not-is_established : goal.returns-then-not-is_established
unfolding on_retransmit_request saying
returns-then-not-is_established c = rw (is_false c.is_established.ensures c.if-not-is_established.true) (said _ _ _ _ _ c.ignore-told.ensures.is c.stay.ensures)

pub returns-then-not-is_recoverable : goal.returns-then-not-is_recoverable
unfolding on_retransmit_request
returns-then-not-is_recoverable c = rw (is_true c.is_established.ensures c.if-not-is_established.false, is_false c.is_recoverable.ensures c.if-not-is_recoverable.true) c.violation.ensures

pub returns-then-ne : goal.returns-then-ne
unfolding on_retransmit_request
returns-then-ne c = rw (is_true c.is_established.ensures c.if-not-is_established.false, is_true c.is_recoverable.ensures c.if-not-is_recoverable.false, differs c.ne.ensures c.if-ne.true) c.refuse_retransmit.ensures

pub fail-requires : goal.fail-requires
fail-requires c = record { session = c.requires.session; queue = c.event_with-told.ensures.wf; room = omega (arith, queued-length _ _ _ c.event_with-told.ensures.is, c.requires.room) }

pub returns-then-is_serving : goal.returns-then-is_serving
unfolding on_retransmit_request
returns-then-is_serving c = rw (is_true c.is_established.ensures c.if-not-is_established.false, is_true c.is_recoverable.ensures c.if-not-is_recoverable.false, agrees c.ne.ensures c.if-ne.false, is_true c.is_serving.ensures c.if-is_serving.true) (said _ _ _ _ _ c.event_with-told.ensures.is c.fail.ensures)

pub returns-then-message-eq0 : goal.returns-then-message-eq0
unfolding on_retransmit_request
returns-then-message-eq0 c = rw (is_true c.is_established.ensures c.if-not-is_established.false, is_true c.is_recoverable.ensures c.if-not-is_recoverable.false, agrees c.ne.ensures c.if-ne.false, is_false c.is_serving.ensures c.if-is_serving.false, eq-eqb _ _ c.if-message-eq0.true) c.refuse_retransmit-then-message-eq0.ensures

pub returns-then-self-message : goal.returns-then-self-message
unfolding on_retransmit_request
returns-then-self-message c = rw (is_true c.is_established.ensures c.if-not-is_established.false, is_true c.is_recoverable.ensures c.if-not-is_recoverable.false, agrees c.ne.ensures c.if-ne.false, is_false c.is_serving.ensures c.if-is_serving.false, ne_eqb _ _ c.if-message-eq0.false, lt-ltb _ _ c.if-self-message.true) c.refuse_retransmit-then-self-message.ensures

pub returns-then-not-is_sent : goal.returns-then-not-is_sent
unfolding on_retransmit_request
returns-then-not-is_sent c = rw (is_true c.is_established.ensures c.if-not-is_established.false, is_true c.is_recoverable.ensures c.if-not-is_recoverable.false, agrees c.ne.ensures c.if-ne.false, is_false c.is_serving.ensures c.if-is_serving.false, ne_eqb _ _ c.if-message-eq0.false, le-ltb _ _ c.if-self-message.false, is_false c.is_sent.ensures c.if-not-is_sent.true) c.refuse_retransmit-then-not-is_sent.ensures

pub returns : goal.returns
unfolding on_retransmit_request
returns c = rw (is_true c.is_established.ensures c.if-not-is_established.false, is_true c.is_recoverable.ensures c.if-not-is_recoverable.false, agrees c.ne.ensures c.if-ne.false, is_false c.is_serving.ensures c.if-is_serving.false, ne_eqb _ _ c.if-message-eq0.false, le-ltb _ _ c.if-self-message.false, is_true c.is_sent.ensures c.if-not-is_sent.false) c.serve.ensures
