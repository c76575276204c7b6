-- 01, "Timeout": silence, then stall, then heartbeat; at the deadline counts as due (FIXP 4.4 and 4.5).
use Rattle.std.specs.Prelude.{ℕ, ◌+◌, Bool, true, false, ◌||◌, [], ◌∷◌, leb, if◌then◌else◌, Option, Some, None}
use Rattle.types.specs.Base.{deadline_at}
use Rattle.types.specs.Flows.{is_sequenced}
use Rattle.types.specs.States.{with_keepalive, with_in_sequence}
use Rattle.rules.specs.Names.{Nanotime, Instant, RetransmitStallPolicy, Reason, BindState, Binding, Outstanding}
use Rattle.rules.specs.Names.code
use Rattle.rules.specs.Names.policy
use Rattle.rules.specs.Names.message
use Rattle.rules.specs.Names.event as ev
use Rattle.rules.specs.Names.by
use Rattle.rules.specs.Names.state
use Rattle.rules.specs.State.{Sess, with_outstanding, Did, stays, ends, saying, and_then}
use Rattle.rules.specs.Outputs.{send, event, event_quoting, close_transport}
use Rattle.rules.specs.Ending.{fail, release_binding_state}
use Rattle.rules.specs.Asking.{re_request}

-- the grace beside the peer's keepalive: that of the configuration, else the keepalive again
abbrev pub grace_or : Option ℕ → ℕ → ℕ
grace_or None keepalive = keepalive
grace_or (Some grace) keepalive = grace

unfoldable pub silence_deadline : Sess → Binding → Option Instant
silence_deadline s b =
    deadline_at (b.last_received.0 + (b.remote_keepalive + grace_or s.config.peer_silence_grace b.remote_keepalive))

-- a stall already reported runs no timer
abbrev pub stall_at : Option Outstanding → ℕ → Option Instant
stall_at None timeout = None
stall_at (Some o) timeout =
    if o.stall_reported then None else
    deadline_at (o.last_progress.0 + timeout)

unfoldable pub stall_deadline : Sess → Option Instant
stall_deadline s = stall_at s.outstanding s.config.retransmit_timeout

unfoldable pub heartbeat_deadline : Binding → Option Instant
heartbeat_deadline b = deadline_at (b.last_keepalive.0 + b.local_keepalive)

abbrev pub earlier_than : Instant → Option Instant → Option Instant
earlier_than a None = Some a
earlier_than a (Some b) = if leb a.0 b.0 then Some a else Some b

-- the earlier of two deadlines
abbrev pub earlier : Option Instant → Option Instant → Option Instant
earlier None d = d
earlier (Some a) d = earlier_than a d

abbrev pub deadline_in : BindState → Sess → Binding → Option Instant
deadline_in state.Established s b = earlier (silence_deadline s b) (earlier (heartbeat_deadline b) (stall_deadline s))
deadline_in (state.Terminating sent code) s b = deadline_at (sent.0 + b.local_keepalive)
deadline_in (state.Closing deadline) s b = deadline

-- the next instant at which a timeout has work to do
unfoldable pub next_deadline : Sess → Binding → Option Instant
next_deadline s b = deadline_in b.state s b

-- "at the deadline counts as due"
abbrev pub is_due : Option Instant → Instant → Bool
is_due None now = false
is_due (Some d) now = leb d.0 now.0

-- ---- a heartbeat (FIXP 4.5)
unfoldable pub heartbeat : Instant → Sess → Binding → Did
heartbeat now s b =
    if is_sequenced s.local_flow then stays s (with_keepalive now (with_in_sequence true b)) (send (message.Sequence (record { next_seq_no = s.outbound_next })) ∷ []) else
    stays s (with_keepalive now b) (send message.UnsequencedHeartbeat ∷ [])

unfoldable pub heartbeat_if_due : Instant → Sess → Binding → Did
heartbeat_if_due now s b = if is_due (heartbeat_deadline b) now then heartbeat now s b else stays s b []

-- ---- a stall
abbrev pub reported : Outstanding → Outstanding
reported o =
    record {
      timestamp = o.timestamp;
      from = o.from;
      count = o.count;
      delivered = o.delivered;
      last_progress = o.last_progress;
      interrupted = o.interrupted;
      batch_complete = o.batch_complete;
      stall_reported = true;
    }

-- the stall is reported and waited out
unfoldable pub wait_out : Outstanding → Sess → Binding → Did
wait_out o s b = stays (with_outstanding (Some (reported o)) s) b []

abbrev pub stall_by : RetransmitStallPolicy → Instant → Nanotime → Outstanding → Sess → Binding → Did
stall_by policy.Terminate now stamp o s b = fail code.UnspecifiedError 41 s b
stall_by policy.ReRequestAfterContextSwitch now stamp o s b = if o.interrupted then re_request now stamp o s b else wait_out o s b
stall_by policy.ReRequestAfterBatch now stamp o s b = if o.interrupted || o.batch_complete then re_request now stamp o s b else wait_out o s b
stall_by policy.EventOnly now stamp o s b = wait_out o s b

unfoldable pub on_stall : Instant → Nanotime → Outstanding → Sess → Binding → Did
on_stall now stamp o s b = saying (event (ev.RetransmitTimedOut o.from o.count) ∷ []) (stall_by s.config.retransmit_stall_policy now stamp o s b)

abbrev pub stall_of : Option Outstanding → Instant → Nanotime → Sess → Binding → Did
stall_of None now stamp s b = stays s b []
stall_of (Some o) now stamp s b = on_stall now stamp o s b

unfoldable pub stall_if_due : Instant → Nanotime → Sess → Binding → Did
stall_if_due now stamp s b = if is_due (stall_deadline s) now then stall_of s.outstanding now stamp s b else stays s b []

-- ---- the timers of each state
-- "Silence, then stall, then heartbeat"
unfoldable pub established_timeout : Instant → Nanotime → Sess → Binding → Did
established_timeout now stamp s b =
    if is_due (silence_deadline s b) now then saying (event ev.KeepaliveLapsed ∷ []) (fail code.UnspecifiedError 40 s b) else
    and_then (stall_if_due now stamp s b) (heartbeat_if_due now)

-- reason is that of this side's own Terminate
abbrev pub timeout_in : BindState → Instant → Nanotime → Reason → Sess → Binding → Did
timeout_in state.Established now stamp reason s b = established_timeout now stamp s b
timeout_in (state.Terminating sent code) now stamp reason s b =
    if is_due (deadline_at (sent.0 + b.local_keepalive)) now then ends (release_binding_state s) b (event_quoting (ev.Terminated code by.Local) reason ∷ close_transport ∷ []) else
    stays s b []
timeout_in (state.Closing deadline) now stamp reason s b =
    if is_due deadline now then ends s b (close_transport ∷ []) else
    stays s b []

unfoldable pub on_timeout : Instant → Nanotime → Reason → Sess → Binding → Did
on_timeout now stamp reason s b = timeout_in b.state now stamp reason s b
