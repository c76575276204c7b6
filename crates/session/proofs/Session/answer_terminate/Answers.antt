-- Our Terminate and the event go out, and the binding is Closing.
use native.Mathlib.Omega.{arith}
use Prim.Native.Nat.{◌+◌}
use mathlib.Core.Path.{ap, sym, ◌∙◌}
use mathlib.Core.List.{[], ◌∷◌}
use mathlib.Core.Bool.{Bool}
use Rattle.types.specs.Base.{deadline_at}
use Rattle.types.specs.States.{with_state}
use Rattle.rules.specs.Names.code
use Rattle.rules.specs.Names.message
use Rattle.rules.specs.Names.event as ev
use Rattle.rules.specs.Names.by
use Rattle.rules.specs.Names.state
use Rattle.rules.specs.State.{Sess, stays, saying}
use Rattle.rules.specs.Outputs.{send, event_quoting}
use Rattle.rules.specs.Ending.{ended_by}
use Rattle.session.specs.View.{view}
use Rattle.session.proofs.Laws.{then-queued, queued-length, said}
use Rattle.session.proofs.Session.answer_terminate.Goals as goal

pub event_quoting-told-requires-clause-outs_wf : goal.event_quoting-told-requires-clause-outs_wf
event_quoting-told-requires-clause-outs_wf c = c.send-sent.ensures.wf

pub event_quoting-told-requires-clause-self_len_bound : goal.event_quoting-told-requires-clause-self_len_bound
event_quoting-told-requires-clause-self_len_bound c = omega (arith, queued-length _ _ _ c.send-sent.ensures.is, c.requires.room)

pub returns : goal.returns
unfolding saying
returns c =
    let e = ap (λ (t : Bool). ended_by t (view c.args.self)) (sym c.is_finished.ensures) ∙ sym c.ended_by-session.ensures.is in
    rw (ap (λ (m : Sess). stays m (with_state (state.Closing (deadline_at (c.args.now.0 + c.args.binding.local_keepalive))) c.args.binding) (send (message.Terminate (record { session_id = c.args.self.id; code = code.Finished })) ∷ event_quoting (ev.Terminated c.args.message.code by.Peer) c.args.text ∷ [])) e, ← c.checked_add-deadline.ensures) (said _ _ _ _ _ (then-queued _ _ _ _ _ c.send-sent.ensures.is c.event_quoting-told.ensures.is) c.stay.ensures)
