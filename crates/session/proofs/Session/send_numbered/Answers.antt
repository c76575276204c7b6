-- A number is taken, the keepalive starts anew, and the number is the answer.
use mathlib.Core.Path.{refl}
use Rattle.rules.specs.Numbering.{allocate_outbound}
use Rattle.session.specs.View.{view}
use Rattle.session.proofs.Laws.{kept-alive}
use Rattle.session.proofs.Session.send_numbered.Goals as goal

pub returns : goal.returns
unfolding allocate_outbound
returns c = kept-alive c.allocate_outbound-step.result _ _ (allocate_outbound (view c.args.self) c.args.binding) c.args.now _ c.allocate_outbound-step.ensures refl c.reply.ensures
