-- The expected number moves.
use Rattle.session.proofs.Session.skip_gap.Goals as goal

pub returns : goal.returns
returns c = rw (← c.with_inbound-moved.ensures.is) c.stay.ensures
