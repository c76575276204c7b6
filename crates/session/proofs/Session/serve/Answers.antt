-- The request is kept with nothing sent, and told.
use Rattle.rules.specs.State.{saying}
use Rattle.rules.specs.Serving.{serve}
use Rattle.session.proofs.Laws.{said}
use Rattle.session.proofs.Session.serve.Goals as goal

pub returns : goal.returns
unfolding serve saying
returns c = said _ _ _ _ _ c.event-told.ensures.is c.stay.ensures
