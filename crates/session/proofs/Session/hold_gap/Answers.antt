-- Held or not, the binding ends; the expected number moves where it was held.
use Rattle.rules.specs.Numbering.{gap_held}
use Rattle.session.proofs.Session.hold_gap.Goals as goal

pub returns-then-held : goal.returns-then-held
unfolding gap_held
returns-then-held c = rw (c.if-held.true, ← c.with_inbound-moved.ensures.is) c.violation.ensures

pub returns : goal.returns
unfolding gap_held
returns c = rw c.if-held.false c.violation-2.ensures
