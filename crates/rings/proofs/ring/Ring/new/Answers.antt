-- A ring whose count is 0 stands for the empty list.
use mathlib.Core.Path.{refl}
use Rattle.rings.specs.View.{list_of, no_gap}
use Rattle.rings.proofs.Laws.{ring-none}
use Rattle.rings.proofs.ring.Ring.new.Goals as goal

pub returns-clause-is : goal.returns-clause-is
unfolding list_of
returns-clause-is g c = ring-none g.row.ROOM no_gap _ 0 0 refl
