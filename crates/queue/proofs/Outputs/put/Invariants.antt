-- Each turn puts one more line behind what is there.
use Prim.Native.Nat.{ℕ, ◌+◌, ◌≤◌}
use mathlib.Core.Path.{◌≡◌}
use mathlib.Core.List.{List, map}
use Rattle.types.specs.Outputs.{output_of}
use Rattle.rules.specs.Names.{Output, Reason}
use Rattle.rules.specs.State.{queued}
use Rattle.rules.specs.Calls.{room_for_call}
use Rattle.rings.specs.Ring.{ring_list}
use Rattle.queue.specs.Added.{no_line}
use Rattle.queue.specs.View.{queue_of, OutsWf}
use Rattle.queue.specs.declared.Outputs.{Outputs}
use Rattle.queue.specs.declared.added.Added.{Added}
use Rattle.queue.proofs.Laws.{Taken}
use Rattle.queue.proofs.Outputs.put.Given as goal

-- the outputs of the first i lines
abbrev pub first_of : Reason → Reason → Added → ℕ → List Output
first_of kept given a i = map (output_of kept given) (ring_list room_for_call no_line a.lines 0 i)

-- the queue with the first i lines behind what was there
pub record Filling (q₀ : Outputs) (a : Added) (kept given : Reason) (q : Outputs) (i : ℕ) : Type 0 where
  pub room : Taken q₀ a.count
  pub turn : i ≤ a.count
  pub count : q.count ≡ q₀.count + i
  pub wf : OutsWf q
  pub is : queue_of q ≡ queued (queue_of q₀) (first_of kept given a i)

abbrev pub invariant-loop-line : goal.invariant-loop-line
invariant-loop-line l = Filling l.fn.self l.fn.added l.fn.kept l.fn.given l.self l.line-index
