-- Sequenced flows start at 1.
use Rattle.session.proofs.Laws.{is_true, is_false}
use Rattle.session.proofs.first_of.Goals as goal

pub returns-then-is_sequenced : goal.returns-then-is_sequenced
returns-then-is_sequenced c = rw (is_true c.is_sequenced.ensures c.if-is_sequenced.true)

pub returns : goal.returns
returns c = rw (is_false c.is_sequenced.ensures c.if-is_sequenced.false)
