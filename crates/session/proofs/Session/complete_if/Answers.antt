-- By the test.
use Rattle.rules.specs.Numbering.{complete_if}
use Rattle.session.proofs.Session.complete_if.Goals as goal

pub returns-then-complete : goal.returns-then-complete
unfolding complete_if
returns-then-complete c = rw c.if-complete.true c.complete_outstanding.ensures

pub returns : goal.returns
unfolding complete_if
returns c = rw c.if-complete.false c.stay.ensures
