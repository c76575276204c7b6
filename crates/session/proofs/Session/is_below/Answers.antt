-- Only a number that is there can lie above.
use Rattle.std.specs.Prelude.{Option}
use mathlib.Core.Path.{ap, sym}
use Rattle.rules.specs.Names.{SeqNum}
use Rattle.rules.specs.Finishing.{below}
use Rattle.session.proofs.Session.is_below.Goals as goal

pub returns-in_default : goal.returns-in_default
returns-in_default c = ap (λ (n : Option SeqNum). below n c.args.next) (sym c.in_default.is)

pub returns : goal.returns
returns c = ap (λ (n : Option SeqNum). below n c.args.next) (sym c.in-Some.is)
