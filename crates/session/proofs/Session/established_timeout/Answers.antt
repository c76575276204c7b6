-- Silence ends the binding; else a stall, and, if the binding stands, a heartbeat after it.
use native.Mathlib.Omega.{arith}
use mathlib.Core.Path.{ap, sym, ◌∙◌}
use Rattle.types.specs.States.{is_stay}
use Rattle.rules.specs.Deadlines.{established_timeout}
use Rattle.session.specs.View.{view, After}
use Rattle.session.proofs.Laws.{is_false, is_true, queued-length, said, and-then-stay, and-then-end, step-length}
use Rattle.session.proofs.Few.{stall-few}
use Rattle.session.proofs.Session.established_timeout.Goals as goal

pub fail-requires : goal.fail-requires
fail-requires c = record { session = c.requires.session; queue = c.event-told.ensures.wf; room = omega (arith, queued-length _ _ _ c.event-told.ensures.is, c.requires.room) }

pub returns-then-is_due : goal.returns-then-is_due
unfolding established_timeout
returns-then-is_due c = rw (← c.silence_deadline-silence.ensures, is_true c.is_due.ensures c.if-is_due.true) (said _ _ _ _ _ c.event-told.ensures.is c.fail.ensures)

pub returns-then-not-is_stay : goal.returns-then-not-is_stay
unfolding established_timeout
returns-then-not-is_stay c = rw (← c.silence_deadline-silence.ensures, is_false c.is_due.ensures c.if-is_due.false) (and-then-end _ _ _ _ c.stall_if_due-step.ensures (is_false c.is_stay.ensures c.if-not-is_stay.true))

pub heartbeat_if_due-requires : goal.heartbeat_if_due-requires
heartbeat_if_due-requires c = record {
  session = (let e = ap (λ (x : After). is_stay x.bound) (sym c.stall_if_due-step.ensures.is) ∙ is_true c.is_stay.ensures c.if-not-is_stay.false in
      c.stall_if_due-step.ensures.session);
  queue = (let e = ap (λ (x : After). is_stay x.bound) (sym c.stall_if_due-step.ensures.is) ∙ is_true c.is_stay.ensures c.if-not-is_stay.false in
      c.stall_if_due-step.ensures.queue);
  room = (let e = ap (λ (x : After). is_stay x.bound) (sym c.stall_if_due-step.ensures.is) ∙ is_true c.is_stay.ensures c.if-not-is_stay.false in
      omega (arith, step-length _ _ _ c.stall_if_due-step.ensures, (stall-few c.args.now c.args.stamp (view c.args.self) c.args.binding).few e, c.requires.room));
}

pub returns : goal.returns
unfolding established_timeout
returns c = rw (← c.silence_deadline-silence.ensures, is_false c.is_due.ensures c.if-is_due.false) (and-then-stay c.stall_if_due-step.result _ _ _ _ c.stall_if_due-step.ensures (is_true c.is_stay.ensures c.if-not-is_stay.false) c.heartbeat_if_due.ensures)
