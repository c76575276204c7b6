-- The event follows what the message did, if it was accepted.
use native.Mathlib.Omega.{arith}
use mathlib.Core.Path.{◌≡◌, ap, sym, ◌∙◌}
use mathlib.Core.Bool.{true, false}
use Rattle.rules.specs.Numbering.{on_application}
use Rattle.rules.specs.Peer.{is_accept, reporting, on_applied}
use Rattle.session.specs.View.{view, After}
use Rattle.session.proofs.Laws.{is_false, is_true, then-queued, step-length}
use Rattle.session.proofs.Few.{application-most}
use Rattle.session.proofs.Session.on_applied.Goals as goal

pub returns-then-not-is_accept : goal.returns-then-not-is_accept
unfolding on_applied reporting
returns-then-not-is_accept c =
    let f : is_accept (on_application c.args.now c.args.stamp (view c.args.self) c.args.binding).answer ≡ false = ap (λ (x : After). is_accept x.answer) (sym c.on_application-step.ensures.is) ∙ is_false c.is_accept.ensures c.if-not-is_accept.true in
    rw f c.on_application-step.ensures

pub event-told-requires-clause-outs_wf : goal.event-told-requires-clause-outs_wf
event-told-requires-clause-outs_wf c = c.on_application-step.ensures.queue

pub event-told-requires-clause-self_len_bound : goal.event-told-requires-clause-self_len_bound
event-told-requires-clause-self_len_bound c = omega (arith, step-length _ _ _ c.on_application-step.ensures, (application-most c.args.now c.args.stamp (view c.args.self) c.args.binding).most, c.requires.room)

pub returns : goal.returns
unfolding on_applied reporting
returns c =
    let f : is_accept (on_application c.args.now c.args.stamp (view c.args.self) c.args.binding).answer ≡ true = ap (λ (x : After). is_accept x.answer) (sym c.on_application-step.ensures.is) ∙ is_true c.is_accept.ensures c.if-not-is_accept.false in
    let e = then-queued _ _ _ _ _ (ap (λ (x : After). x.queue) c.on_application-step.ensures.is) c.event-told.ensures.is in
    rw f
    (record {
      session = c.on_application-step.ensures.session;
      queue = c.event-told.ensures.wf;
      is = λ i. record { session = (c.on_application-step.ensures.is i).session; binding = (c.on_application-step.ensures.is i).binding; queue = e i; bound = (c.on_application-step.ensures.is i).bound; answer = (c.on_application-step.ensures.is i).answer };
    })
