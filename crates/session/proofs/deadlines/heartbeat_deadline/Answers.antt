-- A keepalive after the last one.
use Rattle.rules.specs.Deadlines.{heartbeat_deadline}
use Rattle.session.proofs.deadlines.heartbeat_deadline.Goals as goal

pub returns : goal.returns
unfolding heartbeat_deadline
returns c = c.checked_add.ensures
