-- What was printed and what the records from here on print are the goal.
use Prim.Native.Nat.{◌-◌}
use mathlib.Core.Path.{◌≡◌}
use mathlib.Core.List.{◌++◌}
use lib.ListN.{length, take}
use Rattle.calls.specs.View.{world_of}
use Rattle.replay.specs.Run.{lines_from, records_from}
use Rattle.replay.proofs.Runs.{Running}
use Rattle.replay.proofs.run.Given as goal

abbrev pub invariant-loop-bytes : goal.invariant-loop-bytes
invariant-loop-bytes l =
    let s = l.fn.records.bytes.now in
    let o = l.fn.opened in
    (l.records.bytes ≡ l.fn.records.bytes)
    × Running s (take l.fn.first l.fn.out ++ lines_from 1 (world_of o.session o.link o.queue) (records_from (length s - 1) s l.fn.records.at)) (length l.fn.out) l.out l.held.session l.held.link l.held.queue l.wrote l.records.at l.index

abbrev pub decreases-loop-bytes : goal.decreases-loop-bytes
decreases-loop-bytes l = length l.fn.records.bytes.now - l.records.at
