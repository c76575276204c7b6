-- The wait for a Sequence ends, and a batch in progress is cut off.
use Rattle.std.specs.Prelude.{Option}
use mathlib.Core.Path.{refl, ap}
use mathlib.Core.Bool.{false}
use Rattle.rules.specs.Names.{Replay}
use Rattle.rules.specs.State.{with_awaiting}
use Rattle.rules.specs.Numbering.{stop_at, stop_replay}
use Rattle.session.specs.View.{view}
use Rattle.session.proofs.Session.stop_replay.Goals as goal

pub returns-in_default : goal.returns-in_default
unfolding stop_replay
returns-in_default c = rw (ap (λ (p : Option Replay). stop_at p c.args.now (with_awaiting false (view c.args.self))) c.in_default.is) (record { wf = record { gaps = c.requires.gaps; pending = c.requires.pending }; is = refl })

pub returns : goal.returns
unfolding stop_replay
returns c = rw (ap (λ (p : Option Replay). stop_at p c.args.now (with_awaiting false (view c.args.self))) c.in-Some.is) c.cut_off.ensures
