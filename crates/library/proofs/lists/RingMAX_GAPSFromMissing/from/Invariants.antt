-- Each turn puts the image of one place at its place; after the last the array is the list of images.
use Rattle.library.specs.Parts.{gap_in}
use Rattle.library.proofs.Copying.{Upto}
use Rattle.library.proofs.lists.RingMAX_GAPSFromMissing.from.Given as goal

abbrev pub invariant-loop-i : goal.invariant-loop-i
invariant-loop-i l = Upto gap_in l.m.slots l.initial.ring.slots l.ring.slots l.i 65
