-- The violations in the order of the rule, then the batch stops and the number is announced.
use borrow.Author.Tests.{eq-eqb, ne_eqb}
use Rattle.rules.specs.Numbering.{on_next_seq}
use Rattle.session.proofs.Laws.{is_false, is_true}
use Rattle.session.proofs.Session.on_next_seq.Goals as goal

pub returns-then-not-is_sequenced : goal.returns-then-not-is_sequenced
unfolding on_next_seq
returns-then-not-is_sequenced c = rw (is_false c.is_sequenced.ensures c.if-not-is_sequenced.true) c.violation.ensures

pub returns-then-next-eq0 : goal.returns-then-next-eq0
unfolding on_next_seq
returns-then-next-eq0 c = rw (is_true c.is_sequenced.ensures c.if-not-is_sequenced.false, eq-eqb _ _ c.if-next-eq0.true) c.violation-then-next-eq0.ensures

pub returns-then-is_past_finished : goal.returns-then-is_past_finished
unfolding on_next_seq
returns-then-is_past_finished c = rw (is_true c.is_sequenced.ensures c.if-not-is_sequenced.false, ne_eqb _ _ c.if-next-eq0.false, is_true c.is_past_finished.ensures c.if-is_past_finished.true) c.violation-then-is_past_finished.ensures

pub returns : goal.returns
unfolding on_next_seq
returns c = rw (is_true c.is_sequenced.ensures c.if-not-is_sequenced.false, ne_eqb _ _ c.if-next-eq0.false, is_false c.is_past_finished.ensures c.if-is_past_finished.false, ← c.stop_replay-stopped.ensures.is) c.announced.ensures
