-- Another session is a violation; then by the state of the binding.
use mathlib.Core.Path.{ap}
use Rattle.rules.specs.Names.{BindState}
use Rattle.rules.specs.Ending.{terminate_at, on_terminate}
use Rattle.session.specs.View.{view}
use Rattle.session.proofs.Laws.{differs, agrees}
use Rattle.session.proofs.Session.on_terminate.Goals as goal

pub returns-then-ne : goal.returns-then-ne
unfolding on_terminate
returns-then-ne c = rw (differs c.ne.ensures c.if-ne.true) c.violation.ensures

pub returns-in-Established : goal.returns-in-Established
unfolding on_terminate
returns-in-Established c = rw (agrees c.ne.ensures c.if-ne.false, ap (λ (v : BindState). terminate_at v c.args.now c.args.reason c.args.message c.args.text (view c.args.self) c.args.binding) c.in-Established.is) c.answer_terminate.ensures

pub returns-in-Terminating : goal.returns-in-Terminating
unfolding on_terminate
returns-in-Terminating c = rw (agrees c.ne.ensures c.if-ne.false, ap (λ (v : BindState). terminate_at v c.args.now c.args.reason c.args.message c.args.text (view c.args.self) c.args.binding) c.in-Terminating.is) c.answered_terminate.ensures

pub returns-in-Closing : goal.returns-in-Closing
unfolding on_terminate
returns-in-Closing c = rw (agrees c.ne.ensures c.if-ne.false, ap (λ (v : BindState). terminate_at v c.args.now c.args.reason c.args.message c.args.text (view c.args.self) c.args.binding) c.in-Closing.is) c.stay.ensures
