-- The gaps alone change.
use mathlib.Core.Path.{ap}
use Rattle.rules.specs.State.{Lists, with_gaps}
use Rattle.session.specs.View.{view}
use Rattle.session.proofs.Session.consume_missing.Goals as goal

pub returns : goal.returns
returns c = record { wf = record { gaps = c.consume_missing.ensures.wf; pending = c.requires.pending }; is = ap (λ (g : Lists). with_gaps g (view c.args.self)) c.consume_missing.ensures.is }
