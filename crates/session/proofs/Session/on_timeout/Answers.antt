-- By the state of the binding; what is not yet due is left alone.
use native.Mathlib.Omega.{arith}
use mathlib.Core.Path.{ap}
use Rattle.rules.specs.Names.{BindState}
use Rattle.rules.specs.State.{saying}
use Rattle.rules.specs.Deadlines.{timeout_in, on_timeout}
use Rattle.session.specs.View.{view}
use Rattle.session.proofs.Laws.{is_false, is_true, then-queued, queued-length, said}
use Rattle.session.proofs.Session.on_timeout.Goals as goal

pub returns-then-not-is_due : goal.returns-then-not-is_due
unfolding on_timeout
returns-then-not-is_due c = rw (ap (λ (v : BindState). timeout_in v c.args.now c.args.stamp c.args.reason (view c.args.self) c.args.binding) c.in-Terminating.is, ← c.checked_add-lapse.ensures, is_false c.is_due.ensures c.if-not-is_due.true) c.stay.ensures

pub close_transport-closed-requires-clause-outs_wf : goal.close_transport-closed-requires-clause-outs_wf
close_transport-closed-requires-clause-outs_wf c = c.event_quoting-told.ensures.wf

pub close_transport-closed-requires-clause-self_len_bound : goal.close_transport-closed-requires-clause-self_len_bound
close_transport-closed-requires-clause-self_len_bound c = omega (arith, queued-length _ _ _ c.event_quoting-told.ensures.is, c.requires.room)

pub returns-then-not-is_due-2 : goal.returns-then-not-is_due-2
unfolding on_timeout
returns-then-not-is_due-2 c = rw (ap (λ (v : BindState). timeout_in v c.args.now c.args.stamp c.args.reason (view c.args.self) c.args.binding) c.in-Closing.is, is_false c.is_due-in-Closing.ensures c.if-not-is_due-2.true) c.stay-then-not-is_due-2.ensures

pub returns-in-Established : goal.returns-in-Established
unfolding on_timeout
returns-in-Established c = rw (ap (λ (v : BindState). timeout_in v c.args.now c.args.stamp c.args.reason (view c.args.self) c.args.binding) c.in-Established.is) c.established_timeout.ensures

pub returns-else-not-is_due : goal.returns-else-not-is_due
unfolding on_timeout saying
returns-else-not-is_due c = rw (ap (λ (v : BindState). timeout_in v c.args.now c.args.stamp c.args.reason (view c.args.self) c.args.binding) c.in-Terminating.is, ← c.checked_add-lapse.ensures, is_true c.is_due.ensures c.if-not-is_due.false, ← c.release_binding_state-released.ensures.is) (said _ _ _ _ _ (then-queued _ _ _ _ _ c.event_quoting-told.ensures.is c.close_transport-closed.ensures.is) c.unbind.ensures)

pub returns-else-not-is_due-2 : goal.returns-else-not-is_due-2
unfolding on_timeout saying
returns-else-not-is_due-2 c = rw (ap (λ (v : BindState). timeout_in v c.args.now c.args.stamp c.args.reason (view c.args.self) c.args.binding) c.in-Closing.is, is_true c.is_due-in-Closing.ensures c.if-not-is_due-2.false) (said _ _ _ _ _ c.close_transport-closed-in-Closing.ensures.is c.unbind-in-Closing.ensures)
