-- Only a stall that is due is dealt with.
use Rattle.std.specs.Prelude.{Option}
use mathlib.Core.Path.{ap}
use Rattle.rules.specs.Names.{Outstanding}
use Rattle.rules.specs.Deadlines.{stall_of, stall_if_due}
use Rattle.session.specs.View.{view}
use Rattle.session.proofs.Laws.{is_false, is_true}
use Rattle.session.proofs.Session.stall_if_due.Goals as goal

pub returns-then-not-is_due : goal.returns-then-not-is_due
unfolding stall_if_due
returns-then-not-is_due c = rw (← c.stall_deadline-stall.ensures, is_false c.is_due.ensures c.if-not-is_due.true) c.stay.ensures

pub returns-in_default : goal.returns-in_default
unfolding stall_if_due
returns-in_default c = rw (← c.stall_deadline-stall.ensures, is_true c.is_due.ensures c.if-not-is_due.false, ap (λ (o : Option Outstanding). stall_of o c.args.now c.args.stamp (view c.args.self) c.args.binding) c.in_default.is) c.stay-in_default.ensures

pub returns : goal.returns
unfolding stall_if_due
returns c = rw (← c.stall_deadline-stall.ensures, is_true c.is_due.ensures c.if-not-is_due.false, ap (λ (o : Option Outstanding). stall_of o c.args.now c.args.stamp (view c.args.self) c.args.binding) c.in-Some.is) c.on_stall.ensures
