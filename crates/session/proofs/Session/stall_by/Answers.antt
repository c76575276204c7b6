-- By the policy, and where it says so by what the request saw.
use Rattle.std.specs.Prelude.{if◌then◌else◌}
use mathlib.Core.Path.{ap, ◌∙◌}
use mathlib.Core.Bool.{Bool, ◌||◌}
use Rattle.rules.specs.Names.{RetransmitStallPolicy}
use Rattle.rules.specs.State.{Did}
use Rattle.rules.specs.Asking.{re_request}
use Rattle.rules.specs.Deadlines.{wait_out, stall_by}
use Rattle.session.specs.View.{view}
use Rattle.session.proofs.Session.stall_by.Goals as goal

pub returns-then-outstanding : goal.returns-then-outstanding
returns-then-outstanding c =
    let f : Bool → Did = λ t. if t then re_request c.args.now c.args.stamp c.args.outstanding (view c.args.self) c.args.binding else wait_out c.args.outstanding (view c.args.self) c.args.binding in
    rw (ap (λ (p : RetransmitStallPolicy). stall_by p c.args.now c.args.stamp c.args.outstanding (view c.args.self) c.args.binding) c.in-ReRequestAfterContextSwitch.is ∙ ap f c.if-outstanding.true) c.re_request.ensures

pub returns-then-outstanding-2 : goal.returns-then-outstanding-2
returns-then-outstanding-2 c =
    let f : Bool → Did = λ t. if t then re_request c.args.now c.args.stamp c.args.outstanding (view c.args.self) c.args.binding else wait_out c.args.outstanding (view c.args.self) c.args.binding in
    rw (ap (λ (p : RetransmitStallPolicy). stall_by p c.args.now c.args.stamp c.args.outstanding (view c.args.self) c.args.binding) c.in-ReRequestAfterBatch.is ∙ ap (λ (t : Bool). f (t || c.args.outstanding.batch_complete)) c.if-outstanding-2.true) c.re_request-then-outstanding-2.ensures

pub returns-then-outstanding-3 : goal.returns-then-outstanding-3
returns-then-outstanding-3 c =
    let f : Bool → Did = λ t. if t then re_request c.args.now c.args.stamp c.args.outstanding (view c.args.self) c.args.binding else wait_out c.args.outstanding (view c.args.self) c.args.binding in
    rw (ap (λ (p : RetransmitStallPolicy). stall_by p c.args.now c.args.stamp c.args.outstanding (view c.args.self) c.args.binding) c.in-ReRequestAfterBatch.is ∙ ap (λ (t : Bool). f (t || c.args.outstanding.batch_complete)) c.if-outstanding-2.false ∙ ap f c.if-outstanding-3.true) c.re_request-then-outstanding-3.ensures

pub returns-in-Terminate : goal.returns-in-Terminate
returns-in-Terminate c = rw (ap (λ (p : RetransmitStallPolicy). stall_by p c.args.now c.args.stamp c.args.outstanding (view c.args.self) c.args.binding) c.in-Terminate.is) c.fail.ensures

pub returns-else-outstanding : goal.returns-else-outstanding
returns-else-outstanding c =
    let f : Bool → Did = λ t. if t then re_request c.args.now c.args.stamp c.args.outstanding (view c.args.self) c.args.binding else wait_out c.args.outstanding (view c.args.self) c.args.binding in
    rw (ap (λ (p : RetransmitStallPolicy). stall_by p c.args.now c.args.stamp c.args.outstanding (view c.args.self) c.args.binding) c.in-ReRequestAfterContextSwitch.is ∙ ap f c.if-outstanding.false) c.wait_out.ensures

pub returns-else-outstanding-3 : goal.returns-else-outstanding-3
returns-else-outstanding-3 c =
    let f : Bool → Did = λ t. if t then re_request c.args.now c.args.stamp c.args.outstanding (view c.args.self) c.args.binding else wait_out c.args.outstanding (view c.args.self) c.args.binding in
    rw (ap (λ (p : RetransmitStallPolicy). stall_by p c.args.now c.args.stamp c.args.outstanding (view c.args.self) c.args.binding) c.in-ReRequestAfterBatch.is ∙ ap (λ (t : Bool). f (t || c.args.outstanding.batch_complete)) c.if-outstanding-2.false ∙ ap f c.if-outstanding-3.false) c.wait_out-in-ReRequestAfterBatch.ensures

pub returns-in-EventOnly : goal.returns-in-EventOnly
returns-in-EventOnly c = rw (ap (λ (p : RetransmitStallPolicy). stall_by p c.args.now c.args.stamp c.args.outstanding (view c.args.self) c.args.binding) c.in-EventOnly.is) c.wait_out-in-EventOnly.ensures
