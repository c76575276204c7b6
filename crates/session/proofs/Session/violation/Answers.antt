-- The violation is told, then the binding is_false.
use native.Mathlib.Omega.{arith}
use Rattle.rules.specs.Ending.{violation}
use Rattle.session.proofs.Laws.{queued-length, said}
use Rattle.session.proofs.Session.violation.Goals as goal

pub fail-requires : goal.fail-requires
fail-requires c = record { session = c.requires.session; queue = c.event_with-told.ensures.wf; room = omega (arith, queued-length _ _ _ c.event_with-told.ensures.is, c.requires.room) }

pub returns : goal.returns
unfolding violation
returns c = said _ _ _ _ _ c.event_with-told.ensures.is c.fail.ensures
