-- By the state of the binding.
use mathlib.Core.Path.{ap, sym}
use Rattle.rules.specs.Names.{BindState}
use Rattle.rules.specs.Deadlines.{deadline_in, next_deadline}
use Rattle.session.specs.View.{view}
use Rattle.session.proofs.Session.next_deadline.Goals as goal

pub returns-in-Established : goal.returns-in-Established
unfolding next_deadline
returns-in-Established c = rw (ap (λ (v : BindState). deadline_in v (view c.args.self) c.args.binding) c.in-Established.is, ← c.silence_deadline-silence.ensures, ← c.heartbeat_deadline-beat.ensures, ← c.stall_deadline-stall.ensures, ← c.earlier.ensures) c.earlier-in-Established.ensures

pub returns-in-Terminating : goal.returns-in-Terminating
unfolding next_deadline
returns-in-Terminating c = rw (ap (λ (v : BindState). deadline_in v (view c.args.self) c.args.binding) c.in-Terminating.is) c.checked_add.ensures

pub returns-in-Closing : goal.returns-in-Closing
unfolding next_deadline
returns-in-Closing c = sym (ap (λ (v : BindState). deadline_in v (view c.args.self) c.args.binding) c.in-Closing.is)
