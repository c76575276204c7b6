-- A request that is there is marked interrupted.
use Rattle.std.specs.Prelude.{Option}
use mathlib.Core.Path.{ap, sym, ◌∙◌}
use Rattle.rules.specs.Names.{Outstanding}
use Rattle.rules.specs.State.{with_outstanding}
use Rattle.rules.specs.Numbering.{cut_off}
use Rattle.session.specs.View.{view}
use Rattle.session.proofs.Session.cut_off.Goals as goal

pub returns-in_default : goal.returns-in_default
returns-in_default c = record { wf = c.requires; is = ap (λ (o : Option Outstanding). with_outstanding o (view c.args.self)) c.in_default.is ∙ sym (ap (λ (o : Option Outstanding). with_outstanding (cut_off o c.args.now) (view c.args.self)) c.in_default.is) }

pub returns : goal.returns
returns c = record { wf = record { gaps = c.requires.gaps; pending = c.requires.pending }; is = sym (ap (λ (o : Option Outstanding). with_outstanding (cut_off o c.args.now) (view c.args.self)) c.in-Some.is) }
