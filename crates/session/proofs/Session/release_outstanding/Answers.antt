-- A request that is there takes what it delivered out of the first gap.
use Rattle.std.specs.Prelude.{Option}
use mathlib.Core.Path.{refl, ap}
use Rattle.rules.specs.Names.{Outstanding}
use Rattle.rules.specs.Ending.{released_at}
use Rattle.session.specs.View.{view}
use Rattle.session.proofs.Session.release_outstanding.Goals as goal

pub returns-in_default : goal.returns-in_default
returns-in_default c = rw (ap (λ (o : Option Outstanding). released_at o (view c.args.self)) c.in_default.is) (record { wf = c.requires; is = refl })

pub returns : goal.returns
returns c = rw (ap (λ (o : Option Outstanding). released_at o (view c.args.self)) c.in-Some.is) c.consume_missing.ensures
