-- Each turn puts the image of one place at its place; after the last the array is the list of images.
use Rattle.library.specs.Outputs.{output_in}
use Rattle.library.proofs.Copying.{Upto}
use Rattle.library.proofs.outputs.OutputsFromQueue.from.Given as goal

abbrev pub invariant-loop-i : goal.invariant-loop-i
invariant-loop-i l = Upto output_in l.q.slots l.initial.outputs.slots l.outputs.slots l.i 32
