-- Both rings are new.
use borrow.Author.Rules.{rules}
use Rattle.rings.proofs.gaps.Gaps.new.Goals as goal

pub returns : goal.returns
returns c = record { wf = search rules; is = rw (c.new.ensures.is, c.new-2.ensures.is) }
