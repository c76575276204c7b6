-- Each turn puts the image of one place at its place; after the last the array is the list of images.
use Rattle.library.specs.Outputs.{output_out}
use Rattle.library.proofs.Copying.{Upto}
use Rattle.library.proofs.outputs.QueueFromOutputs.from.Given as goal

abbrev pub invariant-loop-i : goal.invariant-loop-i
invariant-loop-i l = Upto output_out l.outputs.slots l.initial.q.slots l.q.slots l.i 32
