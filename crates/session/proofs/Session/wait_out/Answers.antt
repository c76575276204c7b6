-- The request is kept, its stall reported.
use Rattle.rules.specs.Deadlines.{wait_out}
use Rattle.session.proofs.Session.wait_out.Goals as goal

pub returns : goal.returns
unfolding wait_out
returns c = c.stay.ensures
