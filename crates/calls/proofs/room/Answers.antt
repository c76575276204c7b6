-- The count is the length of the list.
use native.Mathlib.Omega.{arith}
use Rattle.queue.proofs.Laws.{outs-length}
use Rattle.calls.proofs.room.Goals as goal

pub overflow_add-len : goal.overflow_add-len
overflow_add-len c = omega (arith, c.len.ensures, outs-length c.args.queue, c.requires.count_in)
