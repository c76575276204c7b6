-- What the record check says of a good record.
use Rattle.session.proofs.Laws.{is_true}
use Rattle.calls.proofs.Laws.{of-good, good-ready}
use Rattle.calls.proofs.good.Goals as goal

pub returns-clause-is : goal.returns-clause-is
returns-clause-is c = λ rest. of-good c.args.session c.args.link c.args.queue (is_true c.is_good.ensures c.if-not-is_good.false) _ _

pub returns-clause-ready : goal.returns-clause-ready
returns-clause-ready c = good-ready c.args.session c.args.link c.args.queue (is_true c.is_good.ensures c.if-not-is_good.false)
