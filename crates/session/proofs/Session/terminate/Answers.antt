-- The refusals in their order; then a graceful Terminate waits, and any other ends the binding.
use native.Mathlib.Omega.{arith}
use Rattle.rules.specs.State.{saying}
use Rattle.rules.specs.Local.{terminate_refused, terminate}
use Rattle.session.proofs.Laws.{is_false, is_true, then-queued, queued-length, said}
use Rattle.session.proofs.Session.terminate.Goals as goal

pub returns-then-not-is_established : goal.returns-then-not-is_established
unfolding terminate_refused
returns-then-not-is_established c = rw (is_false c.is_established.ensures c.if-not-is_established.true) c.refuse_state.ensures

pub returns-then-not-fits : goal.returns-then-not-fits
unfolding terminate_refused
returns-then-not-fits c = rw (is_true c.is_established.ensures c.if-not-is_established.false, is_false c.fits.ensures c.if-not-fits.true) c.refuse_reason.ensures

pub returns-then-is_finished : goal.returns-then-is_finished
unfolding terminate_refused terminate saying
returns-then-is_finished c = rw (is_true c.is_established.ensures c.if-not-is_established.false, is_true c.fits.ensures c.if-not-fits.false, is_true c.is_finished.ensures c.if-is_finished.true) (said _ _ _ _ _ c.send_quoting-sent.ensures.is c.stay.ensures)

pub event_quoting-told-requires-clause-outs_wf : goal.event_quoting-told-requires-clause-outs_wf
event_quoting-told-requires-clause-outs_wf c = c.send_quoting-sent.ensures.wf

pub event_quoting-told-requires-clause-self_len_bound : goal.event_quoting-told-requires-clause-self_len_bound
event_quoting-told-requires-clause-self_len_bound c = omega (arith, queued-length _ _ _ c.send_quoting-sent.ensures.is, c.requires.room)

pub close_transport-closed-requires-clause-outs_wf : goal.close_transport-closed-requires-clause-outs_wf
close_transport-closed-requires-clause-outs_wf c =
    let e = then-queued _ _ _ _ _ c.send_quoting-sent.ensures.is c.event_quoting-told.ensures.is in
    c.event_quoting-told.ensures.wf

pub close_transport-closed-requires-clause-self_len_bound : goal.close_transport-closed-requires-clause-self_len_bound
close_transport-closed-requires-clause-self_len_bound c =
    let e = then-queued _ _ _ _ _ c.send_quoting-sent.ensures.is c.event_quoting-told.ensures.is in
    omega (arith, queued-length _ _ _ e, c.requires.room)

pub returns : goal.returns
unfolding terminate_refused terminate saying
returns c =
    let e = then-queued _ _ _ _ _ c.send_quoting-sent.ensures.is c.event_quoting-told.ensures.is in
    rw (is_true c.is_established.ensures c.if-not-is_established.false, is_true c.fits.ensures c.if-not-fits.false, is_false c.is_finished.ensures c.if-is_finished.false, ← c.release_binding_state-released.ensures.is) (said _ _ _ _ _ (then-queued _ _ _ _ _ e c.close_transport-closed.ensures.is) c.unbind.ensures)
