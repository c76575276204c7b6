-- The peer has finished; then the answer, if it is due.
use Rattle.rules.specs.Finishing.{finished_with}
use Rattle.session.proofs.Session.finished_with.Goals as goal

pub returns : goal.returns
unfolding finished_with
returns c = c.maybe_finish_receiving.ensures
