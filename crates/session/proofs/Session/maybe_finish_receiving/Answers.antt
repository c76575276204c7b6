-- The tests in the order of the rule, then FinishedReceiving goes out.
use Rattle.std.specs.Prelude.{Option}
use mathlib.Core.Path.{ap}
use Rattle.rules.specs.Names.{PeerFinished}
use Rattle.rules.specs.State.{saying}
use Rattle.rules.specs.Asking.{finish_at, maybe_finish_receiving}
use Rattle.session.specs.View.{view}
use Rattle.session.proofs.Laws.{is_false, is_true, said}
use Rattle.session.proofs.Session.maybe_finish_receiving.Goals as goal

pub returns-in_default : goal.returns-in_default
unfolding maybe_finish_receiving
returns-in_default c = rw (ap (λ (f : Option PeerFinished). finish_at f (view c.args.self) c.args.binding) c.in_default.is) c.stay.ensures

pub returns-then-finished : goal.returns-then-finished
unfolding maybe_finish_receiving
returns-then-finished c = rw (ap (λ (f : Option PeerFinished). finish_at f (view c.args.self) c.args.binding) c.in-Some.is, c.if-finished.true) c.stay-then-finished.ensures

pub returns-then-not-is_established : goal.returns-then-not-is_established
unfolding maybe_finish_receiving
returns-then-not-is_established c = rw (ap (λ (f : Option PeerFinished). finish_at f (view c.args.self) c.args.binding) c.in-Some.is, c.if-finished.false, is_false c.is_established.ensures c.if-not-is_established.true) c.stay-then-not-is_established.ensures

pub returns-then-not-is_empty : goal.returns-then-not-is_empty
unfolding maybe_finish_receiving
returns-then-not-is_empty c = rw (ap (λ (f : Option PeerFinished). finish_at f (view c.args.self) c.args.binding) c.in-Some.is, c.if-finished.false, is_true c.is_established.ensures c.if-not-is_established.false, is_false c.is_empty.ensures c.if-not-is_empty.true) c.stay-then-not-is_empty.ensures

pub returns-then-is_asking : goal.returns-then-is_asking
unfolding maybe_finish_receiving
returns-then-is_asking c = rw (ap (λ (f : Option PeerFinished). finish_at f (view c.args.self) c.args.binding) c.in-Some.is, c.if-finished.false, is_true c.is_established.ensures c.if-not-is_established.false, is_true c.is_empty.ensures c.if-not-is_empty.false, is_true c.is_asking.ensures c.if-is_asking.true) c.stay-then-is_asking.ensures

pub returns : goal.returns
unfolding maybe_finish_receiving saying
returns c = rw (ap (λ (f : Option PeerFinished). finish_at f (view c.args.self) c.args.binding) c.in-Some.is, c.if-finished.false, is_true c.is_established.ensures c.if-not-is_established.false, is_true c.is_empty.ensures c.if-not-is_empty.false, is_false c.is_asking.ensures c.if-is_asking.false, ← c.leave_sequence-leaving.ensures) (said _ _ _ _ _ c.send-sent.ensures.is c.stay-2.ensures)
