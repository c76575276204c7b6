-- The header starts at the first number not yet sent, and what is left to serve is less by the count.
use Rattle.rules.specs.State.{saying}
use Rattle.rules.specs.Local.{batch}
use Rattle.session.proofs.Laws.{said}
use Rattle.session.proofs.Session.batch.Goals as goal

pub returns : goal.returns
unfolding batch saying
returns c = rw (← c.provider_after-it.ensures) (said _ _ _ _ _ c.send-sent.ensures.is c.reply.ensures)
