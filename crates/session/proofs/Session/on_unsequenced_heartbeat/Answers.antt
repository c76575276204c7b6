-- Only an unsequenced peer may send it.
use Rattle.rules.specs.Peer.{on_unsequenced_heartbeat}
use Rattle.session.proofs.Laws.{is_true, is_false}
use Rattle.session.proofs.Session.on_unsequenced_heartbeat.Goals as goal

pub returns-then-is_sequenced : goal.returns-then-is_sequenced
unfolding on_unsequenced_heartbeat
returns-then-is_sequenced c = rw (is_true c.is_sequenced.ensures c.if-is_sequenced.true) c.violation.ensures

pub returns : goal.returns
unfolding on_unsequenced_heartbeat
returns c = rw (is_false c.is_sequenced.ensures c.if-is_sequenced.false) c.stay.ensures
