-- It is told, and nothing else.
use Rattle.rules.specs.State.{saying}
use Rattle.session.proofs.Laws.{said}
use Rattle.session.proofs.Session.ignore_reject.Goals as goal

pub returns : goal.returns
unfolding saying
returns c = said _ _ _ _ _ c.ignore-told.ensures.is c.stay.ensures
