-- Only an Established binding sends, and only a flow that carries application messages.
use mathlib.Core.Path.{ap, refl}
use Rattle.rules.specs.Names.{FlowType}
use Rattle.rules.specs.State.{saying}
use Rattle.rules.specs.Numbering.{not_applied_on, send_not_applied}
use Rattle.session.specs.View.{view}
use Rattle.session.proofs.Laws.{is_false, is_true, said, by_either}
use Rattle.session.proofs.Session.send_not_applied.Goals as goal

pub returns-then-not-is_established : goal.returns-then-not-is_established
unfolding send_not_applied
returns-then-not-is_established c = rw (is_false c.is_established.ensures c.if-not-is_established.true) c.stay.ensures

pub returns-in-None : goal.returns-in-None
unfolding send_not_applied
returns-in-None c = rw (is_true c.is_established.ensures c.if-not-is_established.false, ap (λ (v : FlowType). not_applied_on v c.args.now c.args.message (view c.args.self) c.args.binding) c.in-None.is) c.stay-in-None.ensures

pub returns-in-Unsequenced : goal.returns-in-Unsequenced
unfolding send_not_applied saying
returns-in-Unsequenced c = rw (is_true c.is_established.ensures c.if-not-is_established.false, ap (λ (v : FlowType). not_applied_on v c.args.now c.args.message (view c.args.self) c.args.binding) c.in-Unsequenced.is) (said _ _ _ _ _ c.send_application-sent.ensures.is c.stay-in-Unsequenced.ensures)

pub returns-in-Recoverable : goal.returns-in-Recoverable
unfolding send_not_applied
returns-in-Recoverable c = rw (is_true c.is_established.ensures c.if-not-is_established.false, by_either (λ (v : FlowType). not_applied_on v c.args.now c.args.message (view c.args.self) c.args.binding) _ _ _ refl c.in-Recoverable.is) c.number_not_applied.ensures
