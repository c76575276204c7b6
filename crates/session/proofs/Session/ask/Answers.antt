-- The request goes out, and stands as outstanding with nothing delivered.
use Rattle.rules.specs.State.{saying}
use Rattle.rules.specs.Asking.{ask}
use Rattle.session.proofs.Laws.{said}
use Rattle.session.proofs.Session.ask.Goals as goal

pub returns : goal.returns
unfolding ask saying
returns c = rw (← c.at_most-count.ensures, ← c.leave_sequence-leaving.ensures) (said _ _ _ _ _ c.send-asked.ensures.is c.stay.ensures)
