-- What was delivered is consumed, and what is left asked for.
use mathlib.Core.Path.{ap, sym}
use Rattle.rules.specs.State.{Sess}
use Rattle.rules.specs.Asking.{request_missing, re_request}
use Rattle.session.proofs.Session.re_request.Goals as goal

pub returns : goal.returns
unfolding re_request
returns c =
    let e = sym c.consume_missing-left.ensures.is in
    rw (ap (λ (m : Sess). request_missing c.args.now c.args.stamp m c.args.binding) e) c.request_missing.ensures
