-- The runs passed are dropped, the request completed if it is, and a duplicate is discarded.
use Rattle.rules.specs.Numbering.{replayed_counted}
use Rattle.session.proofs.Laws.{answered-is}
use Rattle.session.proofs.Session.deliver_replayed.Goals as goal

pub returns-then-duplicate : goal.returns-then-duplicate
unfolding replayed_counted
returns-then-duplicate c = rw (← c.received_in_overflow-duplicate.ensures.is, c.if-duplicate.true) (answered-is _ _ _ _ _ c.answered.ensures c.complete_if-step.ensures)

pub returns : goal.returns
unfolding replayed_counted
returns c = rw (← c.received_in_overflow-duplicate.ensures.is, c.if-duplicate.false) (answered-is _ _ _ _ _ c.answered-2.ensures c.complete_if-step.ensures)
