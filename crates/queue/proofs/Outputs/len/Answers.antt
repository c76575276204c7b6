-- The count is the length of the list.
use mathlib.Core.Path.{sym}
use Rattle.queue.proofs.Laws.{outs-length}
use Rattle.queue.proofs.Outputs.len.Goals as goal

pub returns : goal.returns
returns c = sym (outs-length c.args.self)
