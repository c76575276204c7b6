-- What a worked case is: a world, calls one after another, and what the last of them answers and leaves. The calls and outputs of the
-- cases by short names.
use Rattle.std.specs.Prelude.{ℕ, zero, suc, ◌≡◌, List, [], ◌∷◌, ◌++◌, length, Some, None, Ok}
use Rattle.types.specs.Reasons.{no_text}
use Rattle.types.specs.States.{link_status}
use Rattle.rules.specs.Names.{SeqNum, SessionId, Nanotime, Instant, FixpConfig, RetransmitStallPolicy, PeerMessage, Output, Gap, SessionStatus}
use Rattle.rules.specs.Names.flow
use Rattle.rules.specs.Names.code
use Rattle.rules.specs.Names.policy
use Rattle.rules.specs.Names.peer
use Rattle.rules.specs.Names.rejection
use Rattle.rules.specs.Names.message
use Rattle.rules.specs.Names.event as ev
use Rattle.rules.specs.Names.by
use Rattle.rules.specs.Names.verdict
use Rattle.rules.specs.Outputs.{send, send_with, event, event_with, close_transport}
use Rattle.rules.specs.Gaps.{gap_of}
use Rattle.rules.specs.Answers.{Told, told, numbers}
use Rattle.rules.specs.Calls.{World, world, Call, bind_call, peer_call, application_call, send_call, timeout_call, Ran, call, opened}

-- ---- a case
-- what the trace prints of the last call (answer, status, expected number, gaps, outputs), with the gaps and the outputs themselves and
-- the number of runs
pub record Line : Type 0 where
  pub answer : Told
  pub status : SessionStatus
  pub expected : List ℕ
  pub gaps : List Gap
  pub runs : ℕ
  pub outputs : ℕ
  pub outs : List Output

abbrev pub line : Told → SessionStatus → ℕ → List Gap → ℕ → ℕ → List Output → Line
line t b n g r k l = record { answer = t; status = b; expected = n ∷ []; gaps = g; runs = r; outputs = k; outs = l }

pub record Case : Type 0 where
  pub start : World
  pub calls : List Call
  pub leaves : Line

abbrev pub case : World → List Call → Line → Case
case w cs l = record { start = w; calls = cs; leaves = l }

-- the host takes every output
abbrev pub emptied : World → World
emptied w = world w.session w.link (record { outs = []; closing = w.queue.closing })

-- "empties the queue after each record": so what is in it at the end is of the last call
unfoldable pub ran : Ran → List Call → Ran
ran r [] = r
ran r (c ∷ cs) = ran (call c (emptied r.world)) cs

abbrev pub after : World → List Call → Ran
after w cs = ran (record { world = w; answer = Ok verdict.Done }) cs

abbrev pub line_of : Ran → Line
line_of r =
    record {
      answer = told r.answer;
      status = link_status r.world.link.binding;
      expected = numbers r.world.session.inbound_next;
      gaps = r.world.session.gaps.missing;
      runs = length r.world.session.gaps.overflow_received;
      outputs = length r.world.queue.outs;
      outs = r.world.queue.outs;
    }

-- what the rules make of each case is what it says
abbrev pub AllRight : List Case → Type 0
AllRight [] = Unit {0}
AllRight (c ∷ cs) = (line_of (after c.start c.calls) ≡ c.leaves) × AllRight cs

-- ---- sessions: of 01's example, but for the policy
abbrev pub num : ℕ → SeqNum
num n = record { 0 = n }

abbrev pub range : ℕ → ℕ → Gap
range a b = gap_of (num a) (num b)

abbrev pub self : SessionId
self = record { 0 = 1; 1 = 1 }

abbrev pub configured : ℕ → RetransmitStallPolicy → FixpConfig
configured gaps stall =
    record {
      max_gap_len = 100;
      max_retransmit_count = 10;
      max_pending_gaps = gaps;
      retransmit_timeout = 1000;
      peer_silence_grace = Some 1000;
      retransmit_stall_policy = stall;
    }

abbrev pub new_with : ℕ → RetransmitStallPolicy → World
new_with gaps stall = opened self flow.Recoverable flow.Recoverable (configured gaps stall)

-- both flows Recoverable, gaps up to 100 long, 10 to a request, two gaps, durations 1000
abbrev pub new : World
new = new_with 2 policy.Terminate

-- ---- calls: at instant 0 and with stamp 7, where they say no other
abbrev pub at : ℕ → Instant
at n = record { 0 = n }

abbrev pub stamped : ℕ → Nanotime
stamped n = record { 0 = n }

-- a bind with no number of the peer, and with one
abbrev pub joins : Call
joins = bind_call (at 0) (stamped 7) 1000 1000 None

abbrev pub binds : ℕ → Call
binds n = bind_call (at 0) (stamped 7) 1000 1000 (Some (num n))

abbrev pub says : PeerMessage → Call
says m = peer_call (at 0) (stamped 7) m no_text

abbrev pub sequence : ℕ → Call
sequence n = says (peer.Sequence (record { next_seq_no = num n }))

abbrev pub context : ℕ → Call
context n = says (peer.Context (record { session_id = self; next_seq_no = num n }))

abbrev pub finishes : ℕ → Call
finishes last = says (peer.FinishedSending (record { session_id = self; last_seq_no = Some (num last) }))

-- the peer asks: from, count
abbrev pub asks : ℕ → ℕ → Call
asks n k = says (peer.RetransmitRequest (record { session_id = self; timestamp = stamped 9; from_seq_no = num n; count = k }))

-- the header of a batch: stamp, first number, count
abbrev pub headed : ℕ → ℕ → ℕ → Call
headed t n k = says (peer.Retransmission (record { session_id = self; request_timestamp = stamped t; next_seq_no = num n; count = k }))

abbrev pub header : ℕ → ℕ → Call
header n k = headed 7 n k

abbrev pub rejects : Call
rejects = says (peer.RetransmitReject (record { session_id = self; request_timestamp = stamped 7; code = rejection.OutOfRange }))

abbrev pub arrives : Call
arrives = application_call (at 0) (stamped 7)

abbrev pub sends : Call
sends = send_call (at 0)

abbrev pub lapses : ℕ → Call
lapses n = timeout_call (at n) (stamped 7)

-- n times the same calls
abbrev pub times : ℕ → List Call → List Call → List Call
times zero cs l = l
times (suc n) cs l = cs ++ times n cs l

-- ---- outputs
-- this side ends the binding: Terminate, Terminated and CloseTransport, with reason n
abbrev pub fails : ℕ → List Output
fails n = send_with (message.Terminate (record { session_id = self; code = code.UnspecifiedError })) n ∷ event_with (ev.Terminated code.UnspecifiedError by.Local) n ∷ close_transport ∷ []

-- a violation for reason n: four outputs
abbrev pub violates : ℕ → List Output
violates n = event_with ev.ProtocolViolation n ∷ fails n

abbrev pub gap_seen : ℕ → ℕ → Output
gap_seen n k = event (ev.SequenceGap (num n) k)

-- this side's request: first number, count
abbrev pub requests : ℕ → ℕ → Output
requests n k = send (message.RetransmitRequest (record { session_id = self; timestamp = stamped 7; from_seq_no = num n; count = k }))

-- this side's Sequence
abbrev pub announces : ℕ → Output
announces n = send (message.Sequence (record { next_seq_no = num n }))
