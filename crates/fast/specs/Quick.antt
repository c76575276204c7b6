-- What an ordinary call does: where the fields that it looks at say so, the rule book's step is this, whatever the rest of the session is.
use Rattle.std.specs.Prelude.{ℕ, ◌-◌, ◌≡◌, Bool, true, false, ◌&&◌, [], ◌∷◌, ltb, eqb, Option, Some, None, Ok}
use Rattle.types.specs.Reasons.{reason_fits}
use Rattle.types.specs.States.{with_received, with_keepalive, leave_sequence}
use Rattle.rules.specs.Names.{SeqNum, Nanotime, Instant, Reason, Binding, Gap, Outstanding, Provider, Retransmission, RetransmitRequest}
use Rattle.rules.specs.Names.peer
use Rattle.rules.specs.Names.bound
use Rattle.rules.specs.Names.verdict
use Rattle.rules.specs.Names.message
use Rattle.rules.specs.Names.event as ev
use Rattle.rules.specs.State.{Sess, did, stays, with_outbound, with_inbound, with_start, with_gaps, with_outstanding, with_replay, with_awaiting}
use Rattle.rules.specs.Outputs.{event, send}
use Rattle.rules.specs.Gaps.{lists}
use Rattle.rules.specs.Asking.{fewer, asked, begin_batch}
use Rattle.rules.specs.Numbering.{next, accept_live, accept_replayed, on_application}
use Rattle.rules.specs.Peer.{on_peer}
use Rattle.rules.specs.Serving.{serve}
use Rattle.rules.specs.Local.{passes, send_refused, send_application, retransmit_refused, retransmit, batch}
use Rattle.rules.specs.Deadlines.{on_timeout}
use Rattle.rules.specs.Calls.{config_fits, max_outs}
use Rattle.rings.specs.View.{sound_gaps}
use Rattle.queue.specs.declared.Outputs.{Outputs}
use Rattle.session.specs.declared.Session.{Session}

-- a good record whose queue is empty: refusals 1 and 7 do not come
unfoldable pub ready_record : Session → Reason → Outputs → Bool
ready_record s reason q = config_fits s.config && sound_gaps s.gaps && reason_fits reason && eqb q.count 0 && ltb q.head max_outs

-- a live message takes the expected number
abbrev pub Live : Option SeqNum → Sess → Binding → Type 0
Live None s b = Unit {0}
Live (Some n) s b =
    (now : Instant) (stamp : Nanotime) →
    on_application now stamp s b ≡ did (with_inbound (Some (next n)) (with_start false s)) (with_received now b) [] bound.Stay (accept_live (Some n))

-- an announced number that is the expected one: the wait for a Sequence ends
abbrev pub Same : Bool → SeqNum → Sess → Binding → Type 0
Same false n s b = Unit {0}
Same true n s b =
    (now : Instant) (stamp : Nanotime) (reason text : Reason) →
    on_peer (peer.Sequence (record { next_seq_no = n })) now stamp reason text s b ≡ stays (with_awaiting false s) (with_received now b) []

-- a message is sent in sequence: no output, and the next number
pub record Sending (s : Sess) (b : Binding) : Type 0 where
  pub passed : send_refused s b ≡ passes
  pub does : (now : Instant) → send_application now s b ≡ did (with_outbound (next s.outbound_next) s) (with_keepalive now b) [] bound.Stay (Ok (verdict.Sent (Some s.outbound_next)))

abbrev pub Sent : Bool → Sess → Binding → Type 0
Sent false s b = Unit {0}
Sent true s b = Sending s b

-- nothing is due
abbrev pub Idle : Bool → Instant → Sess → Binding → Type 0
Idle false now s b = Unit {0}
Idle true now s b = (stamp : Nanotime) (reason : Reason) → on_timeout now stamp reason s b ≡ stays s b []

-- the header of a batch of the request o
abbrev pub Header : Option Outstanding → Retransmission → Sess → Binding → Type 0
Header None m s b = Unit {0}
Header (Some o) m s b =
    (now : Instant) (stamp : Nanotime) (reason text : Reason) →
    on_peer (peer.Retransmission m) now stamp reason text s b ≡ begin_batch now m o s (with_received now b)

-- the first gap, which is asked for
abbrev pub Lost : Option Gap → SeqNum → Nanotime → Sess → Binding → Type 0
Lost None n stamp s b = Unit {0}
Lost (Some g) n stamp s b =
    (now : Instant) (reason text : Reason) →
    on_peer (peer.Sequence (record { next_seq_no = n })) now stamp reason text s b
    ≡ stays
    (with_outstanding (Some (asked stamp g.from (fewer (g.end.0 - g.from.0) s.config.max_retransmit_count) now)) (with_inbound (Some n) (with_gaps (lists (g ∷ []) s.gaps.overflow_received) (with_awaiting false s))))
    (leave_sequence (with_received now b))
    (event (ev.SequenceGap g.from (n.0 - g.from.0)) ∷ send (message.RetransmitRequest (record { session_id = s.id; timestamp = stamp; from_seq_no = g.from; count = fewer (g.end.0 - g.from.0) s.config.max_retransmit_count })) ∷ [])

-- the message that completes the last request: nothing is missing any more
abbrev pub Recovered : Option SeqNum → Sess → Binding → Type 0
Recovered None s b = Unit {0}
Recovered (Some n) s b =
    (now : Instant) (stamp : Nanotime) →
    on_application now stamp s b ≡ did (with_replay None (with_gaps (lists [] []) (with_outstanding None s))) (with_received now b) (event ev.RecoveryComplete ∷ []) bound.Stay (accept_replayed n)

-- a request of the peer that is served
abbrev pub Asked : Bool → RetransmitRequest → Sess → Binding → Type 0
Asked false m s b = Unit {0}
Asked true m s b =
    (now : Instant) (stamp : Nanotime) (reason text : Reason) →
    on_peer (peer.RetransmitRequest m) now stamp reason text s b ≡ serve m s (with_received now b)

-- a batch of the request v
pub record Serving (v : Provider) (count : ℕ) (s : Sess) (b : Binding) : Type 0 where
  pub counted : eqb count 0 ≡ false
  pub passed : retransmit_refused count s b ≡ passes
  pub does : (now : Instant) → retransmit now count s b ≡ batch now count v s b

abbrev pub Batch : Option Provider → ℕ → Sess → Binding → Type 0
Batch None count s b = Unit {0}
Batch (Some v) count s b = Serving v count s b
