-- The expected number moves first; a gap of 2^32 or more is a violation.
use borrow.Author.Tests.{le-leb, lt-leb}
use Rattle.rules.specs.Numbering.{gap_reported}
use Rattle.session.proofs.Session.report_gap.Goals as goal

pub returns-then-count-ge4294967296 : goal.returns-then-count-ge4294967296
unfolding gap_reported
returns-then-count-ge4294967296 c = rw (le-leb _ _ c.if-count-ge4294967296.true, ← c.with_inbound-moved.ensures.is) c.violation.ensures

pub returns : goal.returns
unfolding gap_reported
returns c = rw (lt-leb _ _ c.if-count-ge4294967296.false, ← c.with_inbound-moved.ensures.is) c.send_not_applied.ensures
