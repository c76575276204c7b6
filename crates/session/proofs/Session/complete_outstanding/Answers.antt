-- What the request asked for is consumed, and its batch is over.
use Rattle.std.specs.Prelude.{None}
use mathlib.Core.Path.{ap, sym}
use Rattle.rules.specs.State.{Sess, with_replay}
use Rattle.rules.specs.Asking.{recovered, complete_outstanding}
use Rattle.session.proofs.Session.complete_outstanding.Goals as goal

pub returns : goal.returns
unfolding complete_outstanding
returns c = rw (ap (λ (m : Sess). recovered c.args.now c.args.stamp (with_replay None m) c.args.binding) (sym c.consume_outstanding-session.ensures.is)) c.recovered.ensures
