-- The state as a reader of 01 thinks of it: the session with lists for rings, the queue as a list with its closing flag, and what a
-- step does.
use Rattle.std.specs.Prelude.{Bool, true, false, ◌||◌, List, [], ◌∷◌, ◌++◌, if◌then◌else◌, Option, Ok}
use Rattle.types.specs.States.{is_stay}
use Rattle.rules.specs.Names.{SeqNum, SessionId, FlowType, FixpConfig, Output, Said, Bound, Binding, Gap, Outstanding, PeerFinished, Replay, Provider, Answer}
use Rattle.rules.specs.Names.bound
use Rattle.rules.specs.Names.said
use Rattle.rules.specs.Names.verdict

-- the unrecovered gaps, in order, and the overflow runs: numbers already received inside the last gap, in order
pub record Lists : Type 0 where
  pub missing : List Gap
  pub overflow_received : List Gap

pub record Sess : Type 0 where
  pub id : SessionId
  pub local_flow : FlowType
  pub remote_flow : FlowType
  pub config : FixpConfig
  pub outbound_next : SeqNum
  pub inbound_next : Option SeqNum
  pub start_pending : Bool
  pub gaps : Lists
  pub outstanding : Option Outstanding
  pub replay : Option Replay
  pub awaiting_resume : Bool
  pub provider : Option Provider
  pub peer_finished : Option PeerFinished
  pub finalized : Bool

abbrev pub sess : SessionId → FlowType → FlowType → FixpConfig → SeqNum → Option SeqNum → Bool → Lists → Option Outstanding → Option Replay → Bool → Option Provider → Option PeerFinished → Bool → Sess
sess id l r c out next start g o p w v f z =
    record {
      id = id;
      local_flow = l;
      remote_flow = r;
      config = c;
      outbound_next = out;
      inbound_next = next;
      start_pending = start;
      gaps = g;
      outstanding = o;
      replay = p;
      awaiting_resume = w;
      provider = v;
      peer_finished = f;
      finalized = z;
    }

-- ---- a session with one field another
abbrev pub with_outbound : SeqNum → Sess → Sess
with_outbound n s = sess s.id s.local_flow s.remote_flow s.config n s.inbound_next s.start_pending s.gaps s.outstanding s.replay s.awaiting_resume s.provider s.peer_finished s.finalized

abbrev pub with_inbound : Option SeqNum → Sess → Sess
with_inbound n s = sess s.id s.local_flow s.remote_flow s.config s.outbound_next n s.start_pending s.gaps s.outstanding s.replay s.awaiting_resume s.provider s.peer_finished s.finalized

abbrev pub with_start : Bool → Sess → Sess
with_start t s = sess s.id s.local_flow s.remote_flow s.config s.outbound_next s.inbound_next t s.gaps s.outstanding s.replay s.awaiting_resume s.provider s.peer_finished s.finalized

abbrev pub with_gaps : Lists → Sess → Sess
with_gaps g s = sess s.id s.local_flow s.remote_flow s.config s.outbound_next s.inbound_next s.start_pending g s.outstanding s.replay s.awaiting_resume s.provider s.peer_finished s.finalized

abbrev pub with_outstanding : Option Outstanding → Sess → Sess
with_outstanding o s = sess s.id s.local_flow s.remote_flow s.config s.outbound_next s.inbound_next s.start_pending s.gaps o s.replay s.awaiting_resume s.provider s.peer_finished s.finalized

abbrev pub with_replay : Option Replay → Sess → Sess
with_replay p s = sess s.id s.local_flow s.remote_flow s.config s.outbound_next s.inbound_next s.start_pending s.gaps s.outstanding p s.awaiting_resume s.provider s.peer_finished s.finalized

abbrev pub with_awaiting : Bool → Sess → Sess
with_awaiting w s = sess s.id s.local_flow s.remote_flow s.config s.outbound_next s.inbound_next s.start_pending s.gaps s.outstanding s.replay w s.provider s.peer_finished s.finalized

abbrev pub with_provider : Option Provider → Sess → Sess
with_provider v s = sess s.id s.local_flow s.remote_flow s.config s.outbound_next s.inbound_next s.start_pending s.gaps s.outstanding s.replay s.awaiting_resume v s.peer_finished s.finalized

abbrev pub with_peer_finished : Option PeerFinished → Sess → Sess
with_peer_finished f s = sess s.id s.local_flow s.remote_flow s.config s.outbound_next s.inbound_next s.start_pending s.gaps s.outstanding s.replay s.awaiting_resume s.provider f s.finalized

abbrev pub with_finalized : Bool → Sess → Sess
with_finalized z s = sess s.id s.local_flow s.remote_flow s.config s.outbound_next s.inbound_next s.start_pending s.gaps s.outstanding s.replay s.awaiting_resume s.provider s.peer_finished z

-- ---- the queue: outputs in order, and whether this side has asked for the transport to be closed
pub record Queue : Type 0 where
  pub outs : List Output
  pub closing : Bool

abbrev pub is_close : Said → Bool
is_close (said.Send m) = false
is_close (said.SendApplication n m) = false
is_close said.CloseTransport = true
is_close (said.Event e) = false

abbrev pub closes : List Output → Bool
closes [] = false
closes (o ∷ l) = is_close o.said || closes l

-- the queue with outputs added, in order
unfoldable pub queued : Queue → List Output → Queue
queued q l = record { outs = q.outs ++ l; closing = q.closing || closes l }

-- ---- what a step does: the session and binding that it leaves, the outputs that it adds, whether the binding stands, and its answer
pub record Did : Type 0 where
  pub session : Sess
  pub binding : Binding
  pub outs : List Output
  pub bound : Bound
  pub answer : Answer

abbrev pub did : Sess → Binding → List Output → Bound → Answer → Did
did s b o u a = record { session = s; binding = b; outs = o; bound = u; answer = a }

-- the binding stands; it ends
abbrev pub stays : Sess → Binding → List Output → Did
stays s b o = did s b o bound.Stay (Ok verdict.Done)

abbrev pub ends : Sess → Binding → List Output → Did
ends s b o = did s b o bound.Unbind (Ok verdict.Done)

-- outputs that come before a step's own
unfoldable pub saying : List Output → Did → Did
saying l d = did d.session d.binding (l ++ d.outs) d.bound d.answer

-- a step with another answer
unfoldable pub answering : Answer → Did → Did
answering a d = did d.session d.binding d.outs d.bound a

-- one step after another, unless the first ended the binding
unfoldable pub and_then : Did → (Sess → Binding → Did) → Did
and_then d k = if is_stay d.bound then saying d.outs (k d.session d.binding) else d
