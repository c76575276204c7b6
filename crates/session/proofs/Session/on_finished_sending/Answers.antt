-- Another session is a violation, a repetition nothing; else it is told first.
use native.Mathlib.Omega.{arith}
use Rattle.rules.specs.Finishing.{on_finished_sending}
use Rattle.session.proofs.Laws.{is_false, is_true, queued-length, said, differs, agrees}
use Rattle.session.proofs.Session.on_finished_sending.Goals as goal

pub returns-then-ne : goal.returns-then-ne
unfolding on_finished_sending
returns-then-ne c = rw (differs c.ne.ensures c.if-ne.true) c.violation.ensures

pub returns-then-is_peer_finished : goal.returns-then-is_peer_finished
unfolding on_finished_sending
returns-then-is_peer_finished c = rw (agrees c.ne.ensures c.if-ne.false, is_true c.is_peer_finished.ensures c.if-is_peer_finished.true) c.stay.ensures

pub finished_sending-requires : goal.finished_sending-requires
finished_sending-requires c = record { session = c.requires.session; queue = c.event-told.ensures.wf; room = omega (arith, queued-length _ _ _ c.event-told.ensures.is, c.requires.room) }

pub returns : goal.returns
unfolding on_finished_sending
returns c = rw (agrees c.ne.ensures c.if-ne.false, is_false c.is_peer_finished.ensures c.if-is_peer_finished.false) (said _ _ _ _ _ c.event-told.ensures.is c.finished_sending.ensures)
