-- A ring stands for as many elements as its count says.
use mathlib.Core.Path.{sym}
use Rattle.rings.proofs.GapLaws.{ring_length}
use Rattle.rings.proofs.ring.Ring.len.Goals as goal

pub returns : goal.returns
returns g c = sym (ring_length c.args.self)
