-- The calls: what each is refused for, in the order of 01's table, and what it does where nothing refuses it.
use Rattle.std.specs.Prelude.{ℕ, ◌+◌, Bool, true, false, not, ◌&&◌, List, [], ◌∷◌, length, leb, eqb, Option, Some, None, Ok, Err}
use Rattle.types.specs.Reasons.{no_text, reason_fits}
use Rattle.rules.specs.Names.{SessionId, Nanotime, Instant, SeqNum, FlowType, TerminationCode, RetransmitRejectCode, FixpConfig, Reason, PeerMessage, Output, Bound, Binding, Link, Answer}
use Rattle.rules.specs.Names.bound
use Rattle.rules.specs.Names.refusal
use Rattle.rules.specs.Names.verdict
use Rattle.rules.specs.Lists.{rest}
use Rattle.rules.specs.State.{Sess, Queue, queued, Did}
use Rattle.rules.specs.Gaps.{max_gaps, max_runs}
use Rattle.rules.specs.Ending.{release_binding_state}
use Rattle.rules.specs.Numbering.{on_application}
use Rattle.rules.specs.Binding.{new_session, bind}
use Rattle.rules.specs.Peer.{on_peer}
use Rattle.rules.specs.Local as local
use Rattle.rules.specs.Local.{Refused, passes, refuses, unless}
use Rattle.rules.specs.Deadlines.{on_timeout, next_deadline}

-- a session with its binding and its queue
pub record World : Type 0 where
  pub session : Sess
  pub link : Link
  pub queue : Queue

abbrev pub world : Sess → Link → Queue → World
world s l q = record { session = s; link = l; queue = q }

-- no binding
abbrev pub unlinked : Link
unlinked = record { binding = None; reason = no_text }

-- "The queue has 32 places"; "at least 6 free output places"
abbrev pub max_outs : ℕ
max_outs = 32

abbrev pub room_for_call : ℕ
room_for_call = 6

-- ---- the tests of the table
-- 2: "`max_gap_len` or `max_retransmit_count` 0, or `max_pending_gaps` 0 or over 64"
unfoldable pub config_fits : FixpConfig → Bool
config_fits c = leb 1 c.max_gap_len && leb 1 c.max_retransmit_count && leb 1 c.max_pending_gaps && leb c.max_pending_gaps 64

abbrev pub texts_fit : List Output → Bool
texts_fit [] = true
texts_fit (o ∷ l) = reason_fits o.text && texts_fit l

-- 1: "a list count [...] or reason length passes its room, or the stored configuration is out of range" (ring positions: `view` has none)
unfoldable pub sound : World → Bool
sound w =
    config_fits w.session.config
    && leb (length w.session.gaps.missing) max_gaps
    && leb (length w.session.gaps.overflow_received) max_runs
    && reason_fits w.link.reason
    && leb (length w.queue.outs) max_outs
    && texts_fit w.queue.outs

abbrev pub is_bound : Option Binding → Bool
is_bound None = false
is_bound (Some b) = true

-- 7: "fewer than 6 free places"
abbrev pub has_room : Queue → Bool
has_room q = leb (length q.outs + room_for_call) max_outs

-- ---- the calls but new, poll, transport_closed and the queries
pub data Call : Type 0 where
  -- now, stamp, local and remote keepalive, the peer's next number
  bind_call : Instant → Nanotime → ℕ → ℕ → Option SeqNum → Call
  release_call : Call
  -- now, stamp, message, its reason
  peer_call : Instant → Nanotime → PeerMessage → Reason → Call
  application_call : Instant → Nanotime → Call
  send_call : Instant → Call
  terminate_call : Instant → TerminationCode → Reason → Call
  retransmit_call : Instant → ℕ → Call
  reject_call : RetransmitRejectCode → Reason → Call
  end_call : Call
  timeout_call : Instant → Nanotime → Call

-- 3: "no binding"
abbrev pub if_bound : Option Binding → (Binding → Refused) → Refused
if_bound None k = refuses refusal.NotBound
if_bound (Some b) k = k b

-- "Order: as numbered through 7, then the Rust's own"
abbrev pub wrong : Call → World → Refused
wrong (bind_call now stamp l r next) w =
    unless (sound w) refusal.BadRecord
    (unless (not (is_bound w.link.binding)) refusal.AlreadyBound
    (unless (has_room w.queue) refusal.OutputFull passes))
wrong release_call w = unless (sound w) refusal.BadRecord passes
wrong (peer_call now stamp m text) w =
    unless (sound w) refusal.BadRecord
    (if_bound w.link.binding (λ b.
    unless (reason_fits text) refusal.BadMessage
    (unless (has_room w.queue) refusal.OutputFull passes)))
wrong (application_call now stamp) w =
    unless (sound w) refusal.BadRecord
    (if_bound w.link.binding (λ b.
    unless (has_room w.queue) refusal.OutputFull passes))
wrong (send_call now) w =
    unless (sound w) refusal.BadRecord
    (if_bound w.link.binding (λ b.
    unless (has_room w.queue) refusal.OutputFull (local.send_refused w.session b)))
wrong (terminate_call now code text) w =
    unless (sound w) refusal.BadRecord
    (if_bound w.link.binding (λ b.
    unless (has_room w.queue) refusal.OutputFull (local.terminate_refused text w.session b)))
wrong (retransmit_call now count) w =
    unless (sound w) refusal.BadRecord
    (if_bound w.link.binding (λ b.
    unless (not (eqb count 0)) refusal.ZeroCount
    (unless (has_room w.queue) refusal.OutputFull (local.retransmit_refused count w.session b))))
wrong (reject_call code text) w =
    unless (sound w) refusal.BadRecord
    (if_bound w.link.binding (λ b.
    unless (has_room w.queue) refusal.OutputFull (local.reject_refused text w.session b)))
wrong end_call w =
    unless (sound w) refusal.BadRecord
    (if_bound w.link.binding (λ b. local.end_refused w.session b))
wrong (timeout_call now stamp) w =
    unless (sound w) refusal.BadRecord
    (if_bound w.link.binding (λ b.
    unless (has_room w.queue) refusal.OutputFull passes))

-- a call's answer, and what it leaves
pub record Ran : Type 0 where
  pub world : World
  pub answer : Answer

-- "`Unbind` drops the binding"; the reason of this side's Terminate stays beside a binding that stands
abbrev pub link_after : Bound → Binding → Reason → Link
link_after bound.Stay b reason = record { binding = Some b; reason = reason }
link_after bound.Unbind b reason = unlinked

abbrev pub ran_as : Queue → Reason → Did → Ran
ran_as q reason d = record { world = world d.session (link_after d.bound d.binding reason) (queued q d.outs); answer = d.answer }

-- with no binding: refusal 3 has come before
abbrev pub within : World → Option Binding → (Binding → Did) → Reason → Ran
within w None k reason = record { world = w; answer = Ok verdict.Done }
within w (Some b) k reason = ran_as w.queue reason (k b)

-- a bind has no reason beside it yet, and a terminate sets it
abbrev pub does : Call → World → Ran
does (bind_call now stamp l r next) w = ran_as w.queue no_text (bind now stamp l r next w.session)
does release_call w = record { world = world (release_binding_state w.session) unlinked w.queue; answer = Ok verdict.Done }
does (peer_call now stamp m text) w = within w w.link.binding (on_peer m now stamp w.link.reason text w.session) w.link.reason
does (application_call now stamp) w = within w w.link.binding (on_application now stamp w.session) w.link.reason
does (send_call now) w = within w w.link.binding (local.send_application now w.session) w.link.reason
does (terminate_call now code text) w = within w w.link.binding (local.terminate now code text w.session) text
does (retransmit_call now count) w = within w w.link.binding (local.retransmit now count w.session) w.link.reason
does (reject_call code text) w = within w w.link.binding (local.reject_retransmit_request code text w.session) w.link.reason
does end_call w = within w w.link.binding (local.end_retransmission w.session) w.link.reason
does (timeout_call now stamp) w = within w w.link.binding (on_timeout now stamp w.link.reason w.session) w.link.reason

-- "Each leaves session, binding and queue unchanged."
abbrev pub ran_if : Refused → Ran → World → Ran
ran_if passes d w = d
ran_if (refuses r) d w = record { world = w; answer = Err r }

unfoldable pub call : Call → World → Ran
call c w = ran_if (wrong c w) (does c w) w

-- ---- a new session: refusal 2 alone
abbrev pub opening : FixpConfig → Refused
opening config = unless (config_fits config) refusal.BadConfig passes

abbrev pub opened : SessionId → FlowType → FlowType → FixpConfig → World
opened id local remote config = world (new_session id local remote config) unlinked (record { outs = []; closing = false })

-- ---- poll, transport_closed and next_deadline: refusal 1 alone
abbrev pub reading : World → Refused
reading w = unless (sound w) refusal.BadRecord passes

-- the first output goes to the host
abbrev pub polled : Queue → Queue
polled q = record { outs = rest q.outs; closing = q.closing }

-- the host reports the transport closed
abbrev pub transport_closed : Queue → Queue
transport_closed q = record { outs = q.outs; closing = false }

-- "Unbound, there is no deadline."
abbrev pub deadline_of : World → Option Binding → Option Instant
deadline_of w None = None
deadline_of w (Some b) = next_deadline w.session b
