-- Nothing missing: recovery is complete. Else the next gap is asked for.
use native.Mathlib.Omega.{arith}
use Rattle.rules.specs.Asking.{recovered}
use Rattle.session.proofs.Laws.{is_true, is_false, queued-length, said}
use Rattle.session.proofs.Session.recovered.Goals as goal

pub maybe_finish_receiving-requires : goal.maybe_finish_receiving-requires
maybe_finish_receiving-requires c = record { session = c.requires.session; queue = c.event-told.ensures.wf; room = omega (arith, queued-length _ _ _ c.event-told.ensures.is, c.requires.room) }

pub returns-then-is_empty : goal.returns-then-is_empty
unfolding recovered
returns-then-is_empty c = rw (is_true c.is_empty.ensures c.if-is_empty.true) (said _ _ _ _ _ c.event-told.ensures.is c.maybe_finish_receiving.ensures)

pub returns : goal.returns
unfolding recovered
returns c = rw (is_false c.is_empty.ensures c.if-is_empty.false) c.request_missing.ensures
