-- Three outputs where this side may still send, one where it may not; then what the binding had is released.
use native.Mathlib.Omega.{arith}
use Rattle.rules.specs.State.{saying}
use Rattle.rules.specs.Ending.{fail}
use Rattle.session.proofs.Laws.{is_false, is_true, then-queued, queued-length, said}
use Rattle.session.proofs.Session.fail.Goals as goal

pub returns-then-not-is_established : goal.returns-then-not-is_established
unfolding fail saying
returns-then-not-is_established c = rw (is_false c.is_established.ensures c.if-not-is_established.true, ← c.release_binding_state-released.ensures.is) (said _ _ _ _ _ c.close_transport-closed.ensures.is c.unbind.ensures)

pub event_with-told-requires-clause-outs_wf : goal.event_with-told-requires-clause-outs_wf
event_with-told-requires-clause-outs_wf c = c.send_with-sent.ensures.wf

pub event_with-told-requires-clause-self_len_bound : goal.event_with-told-requires-clause-self_len_bound
event_with-told-requires-clause-self_len_bound c = omega (arith, queued-length _ _ _ c.send_with-sent.ensures.is, c.requires.room)

pub close_transport-closed-requires-2-clause-outs_wf : goal.close_transport-closed-requires-2-clause-outs_wf
close_transport-closed-requires-2-clause-outs_wf c =
    let e = then-queued _ _ _ _ _ c.send_with-sent.ensures.is c.event_with-told.ensures.is in
    c.event_with-told.ensures.wf

pub close_transport-closed-requires-2-clause-self_len_bound : goal.close_transport-closed-requires-2-clause-self_len_bound
close_transport-closed-requires-2-clause-self_len_bound c =
    let e = then-queued _ _ _ _ _ c.send_with-sent.ensures.is c.event_with-told.ensures.is in
    omega (arith, queued-length _ _ _ e, c.requires.room)

pub returns : goal.returns
unfolding fail saying
returns c =
    let e = then-queued _ _ _ _ _ c.send_with-sent.ensures.is c.event_with-told.ensures.is in
    rw (is_true c.is_established.ensures c.if-not-is_established.false, ← c.release_binding_state-released.ensures.is) (said _ _ _ _ _ (then-queued _ _ _ _ _ e c.close_transport-closed-2.ensures.is) c.unbind-2.ensures)
