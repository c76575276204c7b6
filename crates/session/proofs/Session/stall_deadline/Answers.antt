-- Only a request in flight whose stall was not reported has a deadline.
use Rattle.std.specs.Prelude.{Option}
use mathlib.Core.Path.{ap, sym}
use Rattle.rules.specs.Names.{Outstanding}
use Rattle.rules.specs.Deadlines.{stall_at, stall_deadline}
use Rattle.session.proofs.Session.stall_deadline.Goals as goal

pub returns-in_default : goal.returns-in_default
unfolding stall_deadline
returns-in_default c = sym (ap (λ (o : Option Outstanding). stall_at o c.args.self.config.retransmit_timeout) c.in_default.is)

pub returns-then-outstanding : goal.returns-then-outstanding
unfolding stall_deadline
returns-then-outstanding c = rw (ap (λ (o : Option Outstanding). stall_at o c.args.self.config.retransmit_timeout) c.in-Some.is, c.if-outstanding.true)

pub returns : goal.returns
unfolding stall_deadline
returns c = rw (ap (λ (o : Option Outstanding). stall_at o c.args.self.config.retransmit_timeout) c.in-Some.is, c.if-outstanding.false) c.checked_add.ensures
