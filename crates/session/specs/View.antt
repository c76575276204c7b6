-- What a session and a step stand for in the rule book, and when a session is in order.
use Rattle.std.specs.Prelude.{ℕ, ◌+◌, length, ◌≤◌, ◌≡◌, if◌then◌else◌, Option, Some, None, Ok, Err}
use Rattle.types.specs.Flows.{is_sequenced}
use Rattle.rules.specs.Names.{FlowType, SeqNum, PeerMessage, Binding, Bound, Answer}
use Rattle.rules.specs.Names.verdict
use Rattle.rules.specs.Peer.{is_delivery}
use Rattle.rules.specs.State.{Sess, sess, Queue, queued, Did}
use Rattle.rules.specs.Binding.{first_number}
use Rattle.rings.specs.View.{lists_of, GapsWf}
use Rattle.queue.specs.View.{queue_of, OutsWf}
use Rattle.session.specs.declared.Session.{Session}
use Rattle.session.specs.declared.Step.{Step}
use Rattle.session.specs.declared.numbering.Counted.{Counted}
use Rattle.rules.specs.Numbering.{discard, Counted as CountedRule}
use Rattle.rules.specs.Names.{Refusal, Instant}
use Rattle.rules.specs.Names.bound
use Rattle.rules.specs.State.{answering}
use Rattle.rules.specs.Numbering.{allocate_outbound}
use Rattle.rules.specs.Local.{Refused, passes, refuses, kept_alive}
use Rattle.queue.specs.declared.Outputs.{Outputs}

-- every field, with lists for rings
abbrev pub view : Session → Sess
view s =
    sess s.id s.local_flow s.remote_flow s.config s.outbound_next s.inbound_next s.start_pending (lists_of s.gaps) s.outstanding s.replay s.awaiting_resume
    s.provider s.peer_finished s.finalized

-- ring positions and counts within their room, and few enough gaps allowed that one more has a place
pub record SessWf (s : Session) : Type 0 where
  pub gaps : GapsWf s.gaps
  pub pending : s.config.max_pending_gaps ≤ 64

-- what a step asks for: rings in order
pub record InOrder (s : Session) (q : Outputs) : Type 0 where
  pub session : SessWf s
  pub queue : OutsWf q

-- and places for the k outputs that it may add
pub record Ready (k : ℕ) (s : Session) (q : Outputs) : Type 0 where
  pub session : SessWf s
  pub queue : OutsWf q
  pub room : length (queue_of q).outs + k ≤ 32

-- r is in order, and stands for m
pub record SessIs (r : Session) (m : Sess) : Type 0 where
  pub wf : SessWf r
  pub is : view r ≡ m

-- what a step leaves, the queue whole
pub record After : Type 0 where
  pub session : Sess
  pub binding : Binding
  pub queue : Queue
  pub bound : Bound
  pub answer : Answer

abbrev pub view_step : Step → After
view_step r = record { session = view r.session; binding = r.binding; queue = queue_of r.queue; bound = r.bound; answer = r.answer }

-- what d does, its outputs added to q
abbrev pub after : Queue → Did → After
after q d = record { session = d.session; binding = d.binding; queue = queued q d.outs; bound = d.bound; answer = d.answer }

-- r is in order, and is what d does with a queue that stands for q
pub record StepIs (r : Step) (q : Queue) (d : Did) : Type 0 where
  pub session : SessWf r.session
  pub queue : OutsWf r.queue
  pub is : view_step r ≡ after q d

abbrev pub with_answer : Answer → Step → Step
with_answer a r = record { session = r.session; binding = r.binding; queue = r.queue; bound = r.bound; answer = a }

abbrev pub first_of : FlowType → Option SeqNum
first_of f = if is_sequenced f then Some first_number else None

abbrev pub view_counted : Counted → CountedRule
view_counted k = record { session = view k.session; complete = k.complete }

pub record CountedIs (r : Counted) (m : CountedRule) : Type 0 where
  pub wf : SessWf r.session
  pub is : view_counted r ≡ m

-- what a closing binding answers to a message
abbrev pub closing_answer : PeerMessage → Answer
closing_answer m = if is_delivery m then discard else (Ok verdict.Done)

-- ---- local calls
-- a refused call: session, binding and queue exactly as they were
abbrev pub refused_step : Session → Binding → Outputs → Refusal → Step
refused_step s b q x = record { session = s; binding = b; queue = q; bound = bound.Stay; answer = Err x }

-- r is what a local call gives that is refused so, or passes and does d
abbrev pub LocalIs : Step → Session → Binding → Outputs → Refused → Did → Type 0
LocalIs r s b q passes d = StepIs r (queue_of q) d
LocalIs r s b q (refuses x) d = r ≡ refused_step s b q x

-- an application message with this side's next number
abbrev pub sent_numbered : Instant → Sess → Binding → Did
sent_numbered now s b = answering (Ok (verdict.Sent (Some s.outbound_next))) (kept_alive now (allocate_outbound s b))
