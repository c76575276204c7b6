-- By the flow.
use Rattle.rules.specs.Finishing.{finished_sending}
use Rattle.session.proofs.Laws.{is_true, is_false}
use Rattle.session.proofs.Session.finished_sending.Goals as goal

pub returns-then-is_sequenced : goal.returns-then-is_sequenced
unfolding finished_sending
returns-then-is_sequenced c = rw (is_true c.is_sequenced.ensures c.if-is_sequenced.true) c.finish_at.ensures

pub returns : goal.returns
unfolding finished_sending
returns c = rw (is_false c.is_sequenced.ensures c.if-is_sequenced.false) c.finished_with.ensures
