-- A queue that passes its check has a count that six more do not take past the largest number.
use mathlib.Core.Path.{sym, ◌∙◌}
use Rattle.queue.proofs.Laws.{outs-length}
use Rattle.queue.proofs.Outputs.room.Goals as goal

pub returns : goal.returns
returns c = rw (sym c.sound.ensures ∙ c.if-not-sound.false, outs-length c.args.self)
