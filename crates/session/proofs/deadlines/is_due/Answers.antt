-- Only a deadline that is there can be due.
use Rattle.std.specs.Prelude.{Option}
use mathlib.Core.Path.{ap, sym}
use Rattle.rules.specs.Names.{Instant}
use Rattle.rules.specs.Deadlines.{is_due}
use Rattle.session.proofs.deadlines.is_due.Goals as goal

pub returns : goal.returns
returns c = ap (λ (d : Option Instant). is_due d c.args.now) (sym c.in-Some.is)
