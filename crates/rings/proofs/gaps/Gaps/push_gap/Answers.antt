-- The ring of gaps is one longer, and the runs stay.
use borrow.Author.Rules.{rules}
use Rattle.rings.proofs.gaps.Gaps.push_gap.Goals as goal

pub returns : goal.returns
returns c = record { wf = search rules; is = rw c.push_back.ensures.is }
