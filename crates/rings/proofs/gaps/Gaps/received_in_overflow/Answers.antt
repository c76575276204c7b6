-- The runs wholly below seq go; seq is in a run where the first one left begins at or below it.
use borrow.Author.Rules.{rules}
use Rattle.rules.specs.Gaps.{received_in_overflow}
use Rattle.rings.proofs.gaps.Gaps.received_in_overflow.Goals as goal

pub returns-in_default : goal.returns-in_default
unfolding received_in_overflow
returns-in_default c = record { wf = search rules; is = rw (← c.drop_below.ensures.is, ← c.front.ensures, c.in_default.is) }

pub returns : goal.returns
unfolding received_in_overflow
returns c = record { wf = search rules; is = rw (← c.drop_below.ensures.is, ← c.front.ensures, c.in-Some.is) }
