-- The stall is told, then the policy decides.
use native.Mathlib.Omega.{arith}
use Rattle.rules.specs.Deadlines.{on_stall}
use Rattle.session.proofs.Laws.{queued-length, said}
use Rattle.session.proofs.Session.on_stall.Goals as goal

pub stall_by-requires : goal.stall_by-requires
stall_by-requires c = record { session = c.requires.session; queue = c.event-told.ensures.wf; room = omega (arith, queued-length _ _ _ c.event-told.ensures.is, c.requires.room) }

pub returns : goal.returns
unfolding on_stall
returns c = said _ _ _ _ _ c.event-told.ensures.is c.stall_by.ensures
