-- Told with our own code and reason, the transport closed, and what the binding had released.
use native.Mathlib.Omega.{arith}
use mathlib.Core.Path.{ap, sym, ◌∙◌}
use mathlib.Core.List.{[], ◌∷◌}
use mathlib.Core.Bool.{Bool, ◌&&◌}
use Rattle.types.specs.Flows.{is_finished}
use Rattle.rules.specs.Names.event as ev
use Rattle.rules.specs.Names.by
use Rattle.rules.specs.State.{Sess, ends, saying}
use Rattle.rules.specs.Outputs.{event_quoting, close_transport}
use Rattle.rules.specs.Ending.{ended_by}
use Rattle.session.specs.View.{view}
use Rattle.session.proofs.Laws.{then-queued, queued-length, said}
use Rattle.session.proofs.Session.answered_terminate.Goals as goal

pub close_transport-closed-requires-clause-outs_wf : goal.close_transport-closed-requires-clause-outs_wf
close_transport-closed-requires-clause-outs_wf c = c.event_quoting-told.ensures.wf

pub close_transport-closed-requires-clause-self_len_bound : goal.close_transport-closed-requires-clause-self_len_bound
close_transport-closed-requires-clause-self_len_bound c = omega (arith, queued-length _ _ _ c.event_quoting-told.ensures.is, c.requires.room)

pub returns : goal.returns
unfolding saying
returns c =
    let g = c.both-graceful.ensures ∙ ap (λ (t : Bool). t && c.is_finished-2.result) c.is_finished.ensures ∙ ap (λ (t : Bool). is_finished c.args.ours && t) c.is_finished-2.ensures in
    let e = ap (λ (t : Bool). ended_by t (view c.args.self)) (sym g) ∙ sym c.ended_by-session.ensures.is in
    rw (ap (λ (m : Sess). ends m c.args.binding (event_quoting (ev.Terminated c.args.ours by.Local) c.args.reason ∷ close_transport ∷ [])) e) (said _ _ _ _ _ (then-queued _ _ _ _ _ c.event_quoting-told.ensures.is c.close_transport-closed.ensures.is) c.unbind.ensures)
