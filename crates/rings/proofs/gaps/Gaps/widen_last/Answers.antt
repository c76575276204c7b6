-- The last gap is stored anew, to the later of the two ends.
use borrow.Author.Rules.{rules}
use Rattle.rules.specs.Gaps.{widen}
use Rattle.rings.proofs.gaps.Gaps.widen_last.Goals as goal

pub returns : goal.returns
unfolding widen
returns c = record { wf = search rules; is = rw (← c.later.ensures, c.set_back.ensures.is) }
