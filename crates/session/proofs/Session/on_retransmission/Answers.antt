-- The checks in the order of the rule.
use Rattle.std.specs.Prelude.{Option}
use borrow.Author.Tests.{eq-eqb, ne_eqb}
use mathlib.Core.Path.{ap}
use Rattle.rules.specs.Names.{Outstanding}
use Rattle.rules.specs.Asking.{header_at, on_retransmission}
use Rattle.session.specs.View.{view}
use Rattle.session.proofs.Laws.{is_false, is_true, differs, agrees}
use Rattle.session.proofs.Session.on_retransmission.Goals as goal

pub returns-then-not-is_recoverable : goal.returns-then-not-is_recoverable
unfolding on_retransmission
returns-then-not-is_recoverable c = rw (is_false c.is_recoverable.ensures c.if-not-is_recoverable.true) c.violation.ensures

pub returns-then-ne : goal.returns-then-ne
unfolding on_retransmission
returns-then-ne c = rw (is_true c.is_recoverable.ensures c.if-not-is_recoverable.false, differs c.ne.ensures c.if-ne.true) c.violation-then-ne.ensures

pub returns-in_default : goal.returns-in_default
unfolding on_retransmission
returns-in_default c = rw (is_true c.is_recoverable.ensures c.if-not-is_recoverable.false, agrees c.ne.ensures c.if-ne.false, ap (λ (o : Option Outstanding). header_at o c.args.now c.args.message (view c.args.self) c.args.binding) c.in_default.is) c.violation-in_default.ensures

pub returns-then-message-outstanding : goal.returns-then-message-outstanding
unfolding on_retransmission
returns-then-message-outstanding c = rw (is_true c.is_recoverable.ensures c.if-not-is_recoverable.false, agrees c.ne.ensures c.if-ne.false, ap (λ (o : Option Outstanding). header_at o c.args.now c.args.message (view c.args.self) c.args.binding) c.in-Some.is, ne_eqb _ _ c.if-message-outstanding.true) c.violation-then-message-outstanding.ensures

pub returns-then-not-in_range : goal.returns-then-not-in_range
unfolding on_retransmission
returns-then-not-in_range c = rw (is_true c.is_recoverable.ensures c.if-not-is_recoverable.false, agrees c.ne.ensures c.if-ne.false, ap (λ (o : Option Outstanding). header_at o c.args.now c.args.message (view c.args.self) c.args.binding) c.in-Some.is, eq-eqb _ _ c.if-message-outstanding.false, is_false c.in_range.ensures c.if-not-in_range.true) c.violation-then-not-in_range.ensures

pub returns : goal.returns
unfolding on_retransmission
returns c = rw (is_true c.is_recoverable.ensures c.if-not-is_recoverable.false, agrees c.ne.ensures c.if-ne.false, ap (λ (o : Option Outstanding). header_at o c.args.now c.args.message (view c.args.self) c.args.binding) c.in-Some.is, eq-eqb _ _ c.if-message-outstanding.false, is_true c.in_range.ensures c.if-not-in_range.false) c.begin_batch.ensures
