-- A Sequence where the flow has numbers, else an UnsequencedHeartbeat.
use Rattle.rules.specs.State.{saying}
use Rattle.rules.specs.Deadlines.{heartbeat}
use Rattle.session.proofs.Laws.{is_false, is_true, said}
use Rattle.session.proofs.Session.heartbeat.Goals as goal

pub returns-then-not-is_sequenced : goal.returns-then-not-is_sequenced
unfolding heartbeat saying
returns-then-not-is_sequenced c = rw (is_false c.is_sequenced.ensures c.if-not-is_sequenced.true) (said _ _ _ _ _ c.send-beaten.ensures.is c.stay.ensures)

pub returns : goal.returns
unfolding heartbeat saying
returns c = rw (is_true c.is_sequenced.ensures c.if-not-is_sequenced.false) (said _ _ _ _ _ c.send-beaten-2.ensures.is c.stay-2.ensures)
