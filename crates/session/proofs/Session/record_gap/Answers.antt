-- Recorded: the gap is asked for. Refused: it is held from the lists as they were.
use Rattle.rules.specs.Numbering.{gap_recorded, gap_held}
use Rattle.session.proofs.Session.record_gap.Goals as goal

pub returns-then-record_gap : goal.returns-then-record_gap
unfolding gap_recorded
returns-then-record_gap c = rw (← c.record_gap.ensures.is, c.if-record_gap.true, ← c.with_inbound-moved.ensures.is) c.request_missing.ensures

pub returns : goal.returns
unfolding gap_recorded gap_held
returns c = rw (← c.record_gap.ensures.is, c.if-record_gap.false, ← c.hold_refused_gap-held.ensures.is) c.hold_gap.ensures
