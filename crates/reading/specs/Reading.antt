-- What the reading calls promise: the queue that the rule book says, or the refusal of a bad record. Of a query it is `if_good` of the calls.
use Rattle.std.specs.Prelude.{◌≡◌, Bool, true, false, List, [], ◌∷◌, Option, Some, None, Result, Ok, Err}
use Rattle.rules.specs.Names.{Refusal, Output}
use Rattle.rules.specs.Names.refusal
use Rattle.rules.specs.Calls.{polled, transport_closed}
use Rattle.queue.specs.View.{queue_of, QueueIs}
use Rattle.queue.specs.declared.Outputs.{Outputs}
use Rattle.reading.specs.declared.Polled.{Polled}
use Rattle.reading.specs.declared.Closed.{Closed}

-- ---- a poll
-- no output, and the queue exactly as before
abbrev pub untaken : Result (Option Output) Refusal → Outputs → Polled
untaken a q = record { queue = q; output = a }

pub record Took (o : Output) (r : Polled) (q : Outputs) : Type 0 where
  pub queue : QueueIs r.queue (polled (queue_of q))
  pub output : r.output ≡ Ok (Some o)

abbrev pub PolledOf : List Output → Polled → Outputs → Type 0
PolledOf [] r q = r ≡ untaken (Ok None) q
PolledOf (o ∷ l) r q = Took o r q

-- of a record that is good or not
abbrev pub PolledBy : Bool → Polled → Outputs → Type 0
PolledBy true r q = PolledOf (queue_of q).outs r q
PolledBy false r q = r ≡ untaken (Err refusal.BadRecord) q

-- ---- the transport closed
pub record ClosedOf (r : Closed) (q : Outputs) : Type 0 where
  pub queue : QueueIs r.queue (transport_closed (queue_of q))
  pub answer : r.answer ≡ Ok tt

-- the queue exactly as before
abbrev pub unclosed : Outputs → Closed
unclosed q = record { queue = q; answer = Err refusal.BadRecord }

abbrev pub ClosedBy : Bool → Closed → Outputs → Type 0
ClosedBy true r q = ClosedOf r q
ClosedBy false r q = r ≡ unclosed q
