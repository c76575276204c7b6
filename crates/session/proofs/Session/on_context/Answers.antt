-- Another session is a violation, the null number nothing.
use borrow.Author.Tests.{eq-eqb, ne_eqb}
use Rattle.rules.specs.Peer.{on_context}
use Rattle.session.proofs.Laws.{differs, agrees}
use Rattle.session.proofs.Session.on_context.Goals as goal

pub returns-then-ne : goal.returns-then-ne
unfolding on_context
returns-then-ne c = rw (differs c.ne.ensures c.if-ne.true) c.violation.ensures

pub returns-then-next : goal.returns-then-next
unfolding on_context
returns-then-next c = rw (agrees c.ne.ensures c.if-ne.false, eq-eqb _ _ c.if-next.true) c.stay.ensures

pub returns : goal.returns
unfolding on_context
returns c = rw (agrees c.ne.ensures c.if-ne.false, ne_eqb _ _ c.if-next.false) c.on_next_seq.ensures
