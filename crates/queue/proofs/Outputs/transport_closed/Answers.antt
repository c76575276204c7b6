-- The flag alone changes.
use borrow.Author.Rules.{rules}
use mathlib.Core.Path.{refl}
use Rattle.queue.specs.View.{outs_of}
use Rattle.queue.proofs.Outputs.transport_closed.Goals as goal

pub returns : goal.returns
unfolding outs_of
returns c = record { wf = search rules; is = refl }
