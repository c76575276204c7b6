-- No place is in the window.
use borrow.Author.Rules.{rules}
use mathlib.Core.Path.{refl}
use Rattle.rings.specs.Ring.{ring_list}
use Rattle.queue.specs.View.{outs_of}
use Rattle.queue.proofs.Outputs.new.Goals as goal

pub returns : goal.returns
unfolding outs_of ring_list
returns c = record { wf = search rules; is = refl }
