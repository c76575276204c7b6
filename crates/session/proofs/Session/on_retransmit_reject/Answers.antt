-- Only the request with that stamp of our own session is over.
use Rattle.std.specs.Prelude.{Option}
use borrow.Author.Tests.{eq-eqb, ne_eqb}
use mathlib.Core.Path.{ap}
use Rattle.rules.specs.Names.{Outstanding}
use Rattle.rules.specs.Asking.{rejected_at, on_retransmit_reject}
use Rattle.session.specs.View.{view}
use Rattle.session.proofs.Laws.{differs, agrees}
use Rattle.session.proofs.Session.on_retransmit_reject.Goals as goal

pub returns-in_default : goal.returns-in_default
unfolding on_retransmit_reject
returns-in_default c = rw (ap (λ (o : Option Outstanding). rejected_at o c.args.now c.args.stamp c.args.message c.args.text (view c.args.self) c.args.binding) c.in_default.is) c.ignore_reject.ensures

pub returns-then-outstanding-message : goal.returns-then-outstanding-message
unfolding on_retransmit_reject
returns-then-outstanding-message c = rw (ap (λ (o : Option Outstanding). rejected_at o c.args.now c.args.stamp c.args.message c.args.text (view c.args.self) c.args.binding) c.in-Some.is, ne_eqb _ _ c.if-outstanding-message.true) c.ignore_reject-then-outstanding-message.ensures

pub returns-then-ne : goal.returns-then-ne
unfolding on_retransmit_reject
returns-then-ne c = rw (ap (λ (o : Option Outstanding). rejected_at o c.args.now c.args.stamp c.args.message c.args.text (view c.args.self) c.args.binding) c.in-Some.is, eq-eqb _ _ c.if-outstanding-message.false, differs c.ne.ensures c.if-ne.true) c.ignore_reject-then-ne.ensures

pub returns : goal.returns
unfolding on_retransmit_reject
returns c = rw (ap (λ (o : Option Outstanding). rejected_at o c.args.now c.args.stamp c.args.message c.args.text (view c.args.self) c.args.binding) c.in-Some.is, eq-eqb _ _ c.if-outstanding-message.false, agrees c.ne.ensures c.if-ne.false) c.abandon.ensures
