-- After FinishedSending it is a violation; then by the flow.
use mathlib.Core.Path.{ap, refl}
use Rattle.rules.specs.Names.{FlowType}
use Rattle.rules.specs.Numbering.{live_on, on_live}
use Rattle.session.specs.View.{view}
use Rattle.session.proofs.Laws.{is_true, is_false, by_either}
use Rattle.session.proofs.Session.on_live.Goals as goal

pub returns-then-is_peer_finished : goal.returns-then-is_peer_finished
unfolding on_live
returns-then-is_peer_finished c = rw (is_true c.is_peer_finished.ensures c.if-is_peer_finished.true) c.discard_violation.ensures

pub returns-in-None : goal.returns-in-None
unfolding on_live
returns-in-None c = rw (is_false c.is_peer_finished.ensures c.if-is_peer_finished.false, ap (λ (v : FlowType). live_on v (view c.args.self) c.args.binding) c.in-None.is) c.discard_violation-in-None.ensures

pub returns-in-Unsequenced : goal.returns-in-Unsequenced
unfolding on_live
returns-in-Unsequenced c = rw (is_false c.is_peer_finished.ensures c.if-is_peer_finished.false, ap (λ (v : FlowType). live_on v (view c.args.self) c.args.binding) c.in-Unsequenced.is) c.reply.ensures

pub returns-in-Recoverable : goal.returns-in-Recoverable
unfolding on_live
returns-in-Recoverable c = rw (is_false c.is_peer_finished.ensures c.if-is_peer_finished.false, by_either (λ (v : FlowType). live_on v (view c.args.self) c.args.binding) _ _ _ refl c.in-Recoverable.is) c.number_live.ensures
