-- The refusals in their order; then nothing is served.
use Rattle.std.specs.Prelude.{Option}
use mathlib.Core.Path.{ap}
use Rattle.rules.specs.Names.{Provider}
use Rattle.rules.specs.Local.{serving_refused, end_refused, end_retransmission}
use Rattle.session.proofs.Laws.{is_false, is_true}
use Rattle.session.proofs.Session.end_retransmission.Goals as goal

pub returns-then-not-is_established : goal.returns-then-not-is_established
unfolding end_refused
returns-then-not-is_established c = rw (is_false c.is_established.ensures c.if-not-is_established.true) c.refuse_state.ensures

pub returns-in_default : goal.returns-in_default
unfolding end_refused
returns-in_default c = rw (is_true c.is_established.ensures c.if-not-is_established.false, ap (λ (v : Option Provider). serving_refused v) c.in_default.is) c.refuse.ensures

pub returns : goal.returns
unfolding end_refused end_retransmission
returns c = rw (is_true c.is_established.ensures c.if-not-is_established.false, ap (λ (v : Option Provider). serving_refused v) c.in-Some.is) c.stay.ensures
