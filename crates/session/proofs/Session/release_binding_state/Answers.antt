-- The outstanding request is released, and the rest of what the binding had goes.
use Rattle.std.specs.Prelude.{None}
use mathlib.Core.Path.{ap}
use mathlib.Core.Bool.{false}
use Rattle.rules.specs.State.{Sess, with_replay, with_awaiting, with_provider}
use Rattle.rules.specs.Ending.{release_binding_state}
use Rattle.session.proofs.Session.release_binding_state.Goals as goal

pub returns : goal.returns
unfolding release_binding_state
returns c = record { wf = record { gaps = c.release_outstanding-released.ensures.wf.gaps; pending = c.release_outstanding-released.ensures.wf.pending }; is = ap (λ (m : Sess). with_provider None (with_awaiting false (with_replay None m))) c.release_outstanding-released.ensures.is }
