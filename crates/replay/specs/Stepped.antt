-- What a record leaves in the course of a run.
use Rattle.std.specs.Prelude.{ℕ, ◌≡◌, length}
use Rattle.rules.specs.Names.{Link, Answer}
use Rattle.rules.specs.Calls.{World, call}
use Rattle.queue.specs.View.{OutsWf}
use Rattle.queue.specs.declared.Outputs.{Outputs}
use Rattle.session.specs.View.{SessWf}
use Rattle.session.specs.declared.Session.{Session}
use Rattle.calls.specs.View.{world_of}
use Rattle.trace.specs.declared.records.Record.{Record}
use Rattle.replay.specs.Run.{asks, emptied}

-- session, binding and queue in order after the rule book's call, the queue emptied, with its answer and the number of its outputs
pub record Stepped (r : Record) (w : World) (s : Session) (l : Link) (q : Outputs) (a : Answer) (n : ℕ) : Type 0 where
  pub session : SessWf s
  pub queue : OutsWf q
  pub world : world_of s l q ≡ emptied (call (asks r) w).world
  pub answer : a ≡ (call (asks r) w).answer
  pub outputs : n ≡ length (call (asks r) w).world.queue.outs
