-- Only an Idempotent flow of ours is reported on.
use Rattle.rules.specs.Peer.{on_not_applied}
use Rattle.session.proofs.Laws.{is_false, is_true}
use Rattle.session.proofs.Session.on_not_applied.Goals as goal

pub returns-then-not-is_idempotent : goal.returns-then-not-is_idempotent
unfolding on_not_applied
returns-then-not-is_idempotent c = rw (is_false c.is_idempotent.ensures c.if-not-is_idempotent.true) c.discard_violation.ensures

pub returns : goal.returns
unfolding on_not_applied
returns c = rw (is_true c.is_idempotent.ensures c.if-not-is_idempotent.false) c.on_applied.ensures
