-- Each turn puts the image of one place at its place; after the last the array is the list of images.
use Rattle.library.specs.Parts.{gap_out}
use Rattle.library.proofs.Copying.{Upto}
use Rattle.library.proofs.lists.OverflowFromRingMAX_RUNS.from.Given as goal

abbrev pub invariant-loop-i : goal.invariant-loop-i
invariant-loop-i l = Upto gap_out l.ring.slots l.initial.m.slots l.m.slots l.i 256
