-- Only a heartbeat that is due goes out.
use Rattle.rules.specs.Deadlines.{heartbeat_if_due}
use Rattle.session.proofs.Laws.{is_false, is_true}
use Rattle.session.proofs.Session.heartbeat_if_due.Goals as goal

pub returns-then-not-is_due : goal.returns-then-not-is_due
unfolding heartbeat_if_due
returns-then-not-is_due c = rw (← c.heartbeat_deadline-beat.ensures, is_false c.is_due.ensures c.if-not-is_due.true) c.stay.ensures

pub returns : goal.returns
unfolding heartbeat_if_due
returns c = rw (← c.heartbeat_deadline-beat.ensures, is_true c.is_due.ensures c.if-not-is_due.false) c.heartbeat.ensures
