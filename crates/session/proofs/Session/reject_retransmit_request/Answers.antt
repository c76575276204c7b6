-- The refusals in their order; then the rejection goes out and nothing is served.
use Rattle.std.specs.Prelude.{Option}
use mathlib.Core.Path.{ap}
use Rattle.rules.specs.Names.{Provider}
use Rattle.rules.specs.State.{saying}
use Rattle.rules.specs.Local.{serving_refused, reject_refused, reject_at, reject_retransmit_request}
use Rattle.session.specs.View.{view}
use Rattle.session.proofs.Laws.{is_false, is_true, said}
use Rattle.session.proofs.Session.reject_retransmit_request.Goals as goal

pub returns-then-not-is_established : goal.returns-then-not-is_established
unfolding reject_refused
returns-then-not-is_established c = rw (is_false c.is_established.ensures c.if-not-is_established.true) c.refuse_state.ensures

pub returns-then-not-fits : goal.returns-then-not-fits
unfolding reject_refused
returns-then-not-fits c = rw (is_true c.is_established.ensures c.if-not-is_established.false, is_false c.fits.ensures c.if-not-fits.true) c.refuse_reason.ensures

pub returns-in_default : goal.returns-in_default
unfolding reject_refused
returns-in_default c = rw (is_true c.is_established.ensures c.if-not-is_established.false, is_true c.fits.ensures c.if-not-fits.false, ap (λ (v : Option Provider). serving_refused v) c.in_default.is) c.refuse.ensures

pub returns : goal.returns
unfolding reject_refused reject_retransmit_request saying
returns c = rw (is_true c.is_established.ensures c.if-not-is_established.false, is_true c.fits.ensures c.if-not-fits.false, ap (λ (v : Option Provider). serving_refused v) c.in-Some.is, ap (λ (v : Option Provider). reject_at v c.args.code c.args.text (view c.args.self) c.args.binding) c.in-Some.is, ← c.leave_sequence-leaving.ensures) (said _ _ _ _ _ c.send_quoting-sent.ensures.is c.stay.ensures)
