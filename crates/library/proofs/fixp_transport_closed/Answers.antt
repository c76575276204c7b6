-- A good record's queue is in order.
use Rattle.std.proofs.Common.{rules}
use Rattle.calls.proofs.Laws.{good-queue}
use Rattle.library.proofs.fixp_transport_closed.Goals as goal

pub transport_closed-requires : goal.transport_closed-requires
transport_closed-requires c = search (rules, good-queue)
