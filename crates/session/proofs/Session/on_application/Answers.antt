-- Closing ignores it; else a batch in progress has it, or it is live.
use Rattle.std.specs.Prelude.{Option}
use mathlib.Core.Path.{ap}
use Rattle.types.specs.States.{with_received}
use Rattle.rules.specs.Names.{Replay}
use Rattle.rules.specs.State.{saying}
use Rattle.rules.specs.Numbering.{arrived_in, on_application}
use Rattle.session.specs.View.{view}
use Rattle.session.proofs.Laws.{is_true, is_false, said}
use Rattle.session.proofs.Session.on_application.Goals as goal

pub returns-then-is_closing : goal.returns-then-is_closing
unfolding on_application saying
returns-then-is_closing c = rw (is_true c.is_closing.ensures c.if-is_closing.true) (said _ _ _ _ _ c.ignore-told.ensures.is c.reply.ensures)

pub returns-in_default : goal.returns-in_default
unfolding on_application
returns-in_default c = rw (is_false c.is_closing.ensures c.if-is_closing.false, ap (λ (p : Option Replay). arrived_in p c.args.now c.args.stamp (view c.args.self) (with_received c.args.now c.args.binding)) c.in_default.is) c.on_live.ensures

pub returns : goal.returns
unfolding on_application
returns c = rw (is_false c.is_closing.ensures c.if-is_closing.false, ap (λ (p : Option Replay). arrived_in p c.args.now c.args.stamp (view c.args.self) (with_received c.args.now c.args.binding)) c.in-Some.is) c.on_replayed.ensures
