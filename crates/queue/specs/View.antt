-- The queue as the list that it stands for, with its closing flag.
use Rattle.std.specs.Prelude.{ℕ, ◌+◌, ◌<◌, ◌≤◌, ◌≡◌, Bool, true, false, ◌&&◌, ◌||◌, List, [], ◌∷◌, ltb, leb, eqb, Option, Some, None}
use Rattle.rings.specs.Ring.{ring_list}
use Rattle.rules.specs.Names.{Output, Reason}
use Rattle.rules.specs.State.{Queue, queued}
use Rattle.rules.specs.Outputs.{close_transport}
use Rattle.rules.specs.Calls.{max_outs, room_for_call, has_room, texts_fit, polled}
use Rattle.queue.specs.declared.Outputs.{Outputs}
use Rattle.queue.specs.declared.Polled.{Polled}
use Rattle.queue.specs.declared.Room.{Room}
use Rattle.queue.specs.declared.added.Added.{Added}
use Rattle.queue.specs.Added.{said_in}

-- the outputs, oldest first; what stands outside the window is none
unfoldable pub outs_of : Outputs → List Output
outs_of q = ring_list max_outs close_transport q.slots q.head q.count

abbrev pub queue_of : Outputs → Queue
queue_of q = record { outs = outs_of q; closing = q.closing }

abbrev pub empty_queue : Queue
empty_queue = record { outs = []; closing = false }

pub record OutsWf (q : Outputs) : Type 0 where
  pub head_in : q.head < max_outs
  pub count_in : q.count ≤ max_outs

-- r is a queue in order, and stands for m
pub record QueueIs (r : Outputs) (m : Queue) : Type 0 where
  pub wf : OutsWf r
  pub is : queue_of r ≡ m

-- the first output, if there is one
abbrev pub first_output : List Output → Option Output
first_output [] = None
first_output (x ∷ l) = Some x

pub record PolledIs (r : Polled) (q : Queue) : Type 0 where
  pub queue : QueueIs r.queue (polled q)
  pub output : r.output ≡ first_output q.outs

-- refusal 1, of the queue
abbrev pub sound_outs : Outputs → Bool
sound_outs q = ltb q.head max_outs && leb q.count max_outs && texts_fit (outs_of q)

-- what a call has to know of the queue: refusals 1 and 7
abbrev pub room_of : Outputs → Room
room_of q = record { good = sound_outs q; free = sound_outs q && has_room (queue_of q) }

-- a queue in order with places for n outputs of one call
abbrev pub takes : Outputs → ℕ → Bool
takes q n = ltb q.head max_outs && leb q.count max_outs && leb n room_for_call && leb (q.count + n) max_outs

-- r is q with what a call says behind it; exactly q where nothing is said, or where q does not take it
pub record Filled (q : Outputs) (a : Added) (kept given : Reason) (r : Outputs) (done : Bool) : Type 0 where
  pub answer : done ≡ (eqb a.count 0 || takes q a.count)
  pub nothing : a.count ≡ 0 → r ≡ q
  pub refused : takes q a.count ≡ false → r ≡ q
  pub taken : takes q a.count ≡ true → QueueIs r (queued (queue_of q) (said_in kept given a))
