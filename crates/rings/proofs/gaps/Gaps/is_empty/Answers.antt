-- No gap is missing where the list has length 0.
use Rattle.rings.proofs.GapLaws.{nil-eqb}
use Rattle.rings.specs.View.{list_of}
use Rattle.rings.proofs.gaps.Gaps.is_empty.Goals as goal

pub returns : goal.returns
returns c = rw c.len.ensures (nil-eqb (list_of c.args.self.missing))
