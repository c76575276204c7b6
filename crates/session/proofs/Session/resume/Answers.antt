-- What is missing is asked for; if the binding stands, what was finished is answered.
use native.Mathlib.Omega.{arith}
use mathlib.Core.Path.{◌≡◌, ap, sym, ◌∙◌}
use mathlib.Core.Bool.{true}
use Rattle.types.specs.States.{is_stay}
use Rattle.rules.specs.Asking.{request_missing}
use Rattle.rules.specs.Binding.{resume}
use Rattle.session.specs.View.{view, After}
use Rattle.session.proofs.Laws.{is_false, is_true, and-then-stay, and-then-end, step-length}
use Rattle.session.proofs.Few.{request-few}
use Rattle.session.proofs.Session.resume.Goals as goal

pub returns-then-not-is_stay : goal.returns-then-not-is_stay
unfolding resume
returns-then-not-is_stay c = and-then-end _ _ _ _ c.request_missing-step.ensures (is_false c.is_stay.ensures c.if-not-is_stay.true)

pub maybe_finish_receiving-requires : goal.maybe_finish_receiving-requires
maybe_finish_receiving-requires c = record {
  session = (let e : is_stay (request_missing c.args.now c.args.stamp (view c.args.self) c.args.binding).bound ≡ true = ap (λ (x : After). is_stay x.bound) (sym c.request_missing-step.ensures.is) ∙ is_true c.is_stay.ensures c.if-not-is_stay.false in
      c.request_missing-step.ensures.session);
  queue = (let e : is_stay (request_missing c.args.now c.args.stamp (view c.args.self) c.args.binding).bound ≡ true = ap (λ (x : After). is_stay x.bound) (sym c.request_missing-step.ensures.is) ∙ is_true c.is_stay.ensures c.if-not-is_stay.false in
      c.request_missing-step.ensures.queue);
  room = (let e : is_stay (request_missing c.args.now c.args.stamp (view c.args.self) c.args.binding).bound ≡ true = ap (λ (x : After). is_stay x.bound) (sym c.request_missing-step.ensures.is) ∙ is_true c.is_stay.ensures c.if-not-is_stay.false in
      omega (arith, step-length _ _ _ c.request_missing-step.ensures, (request-few c.args.now c.args.stamp (view c.args.self) c.args.binding).few e, c.requires.room));
}

pub returns : goal.returns
unfolding resume
returns c = and-then-stay _ _ _ _ _ c.request_missing-step.ensures (is_true c.is_stay.ensures c.if-not-is_stay.false) c.maybe_finish_receiving.ensures
