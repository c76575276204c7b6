-- The last number is never given; else the NotApplied goes behind what its number needs.
use Rattle.std.specs.Prelude.{Some}
use borrow.Author.Tests.{le-leb, lt-leb}
use native.Mathlib.Omega.{arith}
use mathlib.Core.List.{[], ◌∷◌}
use Rattle.types.specs.States.{with_keepalive}
use Rattle.rules.specs.Names.{Binding}
use Rattle.rules.specs.State.{Sess, Did, stays, saying}
use Rattle.rules.specs.Numbering.{send_application_of}
use Rattle.session.specs.View.{view}
use Rattle.session.proofs.Laws.{said, onward, step-length, allocate-few}
use Rattle.session.proofs.Session.number_not_applied.Goals as goal

pub returns-then-seq : goal.returns-then-seq
returns-then-seq c = rw (le-leb _ _ c.if-seq.true) c.fail.ensures

pub send_application-sent-requires-clause-outs_wf : goal.send_application-sent-requires-clause-outs_wf
send_application-sent-requires-clause-outs_wf c = c.allocate_outbound-step.ensures.queue

pub send_application-sent-requires-clause-self_len_bound : goal.send_application-sent-requires-clause-self_len_bound
send_application-sent-requires-clause-self_len_bound c = omega (arith, step-length _ _ _ c.allocate_outbound-step.ensures, allocate-few (view c.args.self) c.args.binding, c.requires.room)

pub returns : goal.returns
returns c =
    let k : Sess → Binding → Did = λ s b. stays s (with_keepalive c.args.now b) (send_application_of (Some c.args.self.outbound_next) c.args.message ∷ []) in
    rw (lt-leb _ _ c.if-seq.false) (onward _ _ _ _ k c.allocate_outbound-step.ensures (unfold saying in said _ _ _ _ _ c.send_application-sent.ensures.is c.stay.ensures))
