-- The violation, answered otherwise.
use Rattle.session.proofs.Laws.{answered-is}
use Rattle.session.proofs.Session.discard_violation.Goals as goal

pub returns : goal.returns
returns c = answered-is _ _ _ _ _ c.answered.ensures c.violation-step.ensures
