-- No place is among the first none.
use mathlib.Core.Path.{refl}
use Rattle.rings.specs.Ring.{ring_list}
use Rattle.queue.specs.Added.{lines_of}
use Rattle.queue.proofs.added.Added.none.Goals as goal

pub returns-clause-lines : goal.returns-clause-lines
unfolding lines_of ring_list
returns-clause-lines c = refl
