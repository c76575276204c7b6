-- Something is missing.
use mathlib.Core.Path.{ap}
use mathlib.Core.Bool.{not}
use Rattle.session.proofs.Session.has_pending_recovery.Goals as goal

pub returns : goal.returns
returns c = ap not c.is_empty.ensures
