-- The rejection goes out and is told.
use native.Mathlib.Omega.{arith}
use Rattle.rules.specs.State.{saying}
use Rattle.rules.specs.Serving.{refuse_retransmit}
use Rattle.session.proofs.Laws.{then-queued, queued-length, said}
use Rattle.session.proofs.Session.refuse_retransmit.Goals as goal

pub event_with-told-requires-clause-outs_wf : goal.event_with-told-requires-clause-outs_wf
event_with-told-requires-clause-outs_wf c = c.send_with-sent.ensures.wf

pub event_with-told-requires-clause-self_len_bound : goal.event_with-told-requires-clause-self_len_bound
event_with-told-requires-clause-self_len_bound c = omega (arith, queued-length _ _ _ c.send_with-sent.ensures.is, c.requires.room)

pub returns : goal.returns
unfolding refuse_retransmit saying
returns c = rw (← c.leave_sequence-leaving.ensures) (said _ _ _ _ _ (then-queued _ _ _ _ _ c.send_with-sent.ensures.is c.event_with-told.ensures.is) c.stay.ensures)
