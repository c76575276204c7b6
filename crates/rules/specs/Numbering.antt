-- 01, "Expected number" and "Gaps": an announced number, a gap, an application message (FIXP 3.5, 4.6, 4.8).
use Rattle.std.specs.Prelude.{ℕ, ◌+◌, ◌-◌, ◌^◌, Bool, true, false, not, [], ◌∷◌, ltb, leb, eqb, if◌then◌else◌, Option, Some, None, Ok}
use Rattle.types.specs.Base.{all_ones}
use Rattle.types.specs.Flows.{is_sequenced}
use Rattle.types.specs.States.{is_established, is_closing, with_received, with_keepalive, with_in_sequence}
use Rattle.rules.specs.Names.{SeqNum, Nanotime, Instant, FlowType, Output, NotApplied, Answer, Binding, Outstanding, PeerFinished, Replay}
use Rattle.rules.specs.Names.code
use Rattle.rules.specs.Names.flow
use Rattle.rules.specs.Names.name
use Rattle.rules.specs.Names.message
use Rattle.rules.specs.Names.said
use Rattle.rules.specs.Names.event as ev
use Rattle.rules.specs.Names.delivery
use Rattle.rules.specs.Names.verdict
use Rattle.rules.specs.Names.bound
use Rattle.types.specs.Reasons.{no_text}
use Rattle.rules.specs.State.{Sess, Did, did, stays, saying, answering, with_outbound, with_inbound, with_start, with_gaps, with_outstanding, with_replay, with_awaiting}
use Rattle.rules.specs.Outputs.{output, send, event, event_with}
use Rattle.rules.specs.Gaps.{Kept, Seen, record_gap, hold_refused_gap, received_in_overflow}
use Rattle.rules.specs.Ending.{fail, violation}
use Rattle.rules.specs.Asking.{request_missing, complete_outstanding}

-- ---- sending a number
abbrev pub next : SeqNum → SeqNum
next n = record { 0 = n.0 + 1 }

-- 11: "the number after this one would pass 2^64-2"
abbrev pub outbound_exhausted : Sess → Bool
outbound_exhausted s = leb (all_ones - 1) s.outbound_next.0

-- the next number of this side, behind a Sequence where the receiver could not number it by itself
unfoldable pub allocate_outbound : Sess → Binding → Did
allocate_outbound s b =
    stays (with_outbound (next s.outbound_next) s) (with_in_sequence true b)
    (if b.in_sequence then [] else send (message.Sequence (record { next_seq_no = s.outbound_next })) ∷ [])

abbrev pub send_application_of : Option SeqNum → NotApplied → Output
send_application_of n m = output (said.SendApplication n m) 0 no_text

-- the NotApplied goes out behind what its number needs
abbrev pub not_applied_after : Instant → SeqNum → NotApplied → Did → Did
not_applied_after now n m d = saying d.outs (stays d.session (with_keepalive now d.binding) (send_application_of (Some n) m ∷ []))

abbrev pub not_applied_numbered : Instant → NotApplied → Sess → Binding → Did
not_applied_numbered now m s b =
    if outbound_exhausted s then fail code.UnspecifiedError 39 s b else
    not_applied_after now s.outbound_next m (allocate_outbound s b)

abbrev pub not_applied_on : FlowType → Instant → NotApplied → Sess → Binding → Did
not_applied_on flow.None now m s b = stays s b []
not_applied_on flow.Unsequenced now m s b = stays s (with_keepalive now b) (send_application_of None m ∷ [])
not_applied_on flow.Recoverable now m s b = not_applied_numbered now m s b
not_applied_on flow.Idempotent now m s b = not_applied_numbered now m s b

-- "NotApplied is sent if the binding is Established and the local flow carries it"
unfoldable pub send_not_applied : Instant → NotApplied → Sess → Binding → Did
send_not_applied now m s b =
    if not (is_established b.state) then stays s b [] else
    not_applied_on s.local_flow now m s b

-- ---- a gap
-- "Held or not, reason 18 unbinds. A 257th run is refused and the expected number does not move."
unfoldable pub gap_held : SeqNum → Kept → Sess → Binding → Did
gap_held next k s b =
    if k.ok then violation 18 (with_inbound (Some next) (with_gaps k.gaps s)) b else
    violation 18 (with_gaps k.gaps s) b

unfoldable pub gap_recorded : Instant → Nanotime → SeqNum → SeqNum → Kept → Sess → Binding → Did
gap_recorded now stamp from next k s b =
    if k.ok then request_missing now stamp (with_inbound (Some next) (with_gaps k.gaps s)) b else
    gap_held next (hold_refused_gap s.config.max_pending_gaps from next k.gaps) s b

-- "An Idempotent peer's gap is not kept: the expected number moves [...]; a gap of 2^32 or more is a violation."
unfoldable pub gap_reported : Instant → SeqNum → SeqNum → Sess → Binding → Did
gap_reported now from next s b =
    if leb (2 ^ 32) (next.0 - from.0) then violation 19 (with_inbound (Some next) s) b else
    send_not_applied now (record { from_seq_no = from; count = next.0 - from.0 }) (with_inbound (Some next) s) b

abbrev pub gap_on : FlowType → Instant → Nanotime → SeqNum → SeqNum → Sess → Binding → Did
gap_on flow.Recoverable now stamp from next s b = gap_recorded now stamp from next (record_gap s.config.max_pending_gaps from next s.gaps) s b
gap_on flow.Idempotent now stamp from next s b = gap_reported now from next s b
gap_on flow.Unsequenced now stamp from next s b = stays (with_inbound (Some next) s) b []
gap_on flow.None now stamp from next s b = stays (with_inbound (Some next) s) b []

-- the peer's flow skipped the numbers from one to the other
unfoldable pub on_gap : Instant → Nanotime → SeqNum → SeqNum → Sess → Binding → Did
on_gap now stamp from next s b =
    saying (event (ev.SequenceGap from (next.0 - from.0)) ∷ []) (gap_on s.remote_flow now stamp from next s b)

-- ---- an announced number
-- "past the finished end"
abbrev pub past_end : Option SeqNum → ℕ → Bool
past_end None n = false
past_end (Some end) n = ltb end.0 n

abbrev pub past_finished : Option PeerFinished → ℕ → Bool
past_finished None n = false
past_finished (Some f) n = past_end f.end n

abbrev pub cut : Instant → Outstanding → Outstanding
cut now o =
    record {
      timestamp = o.timestamp;
      from = o.from;
      count = o.count;
      delivered = o.delivered;
      last_progress = now;
      interrupted = true;
      batch_complete = o.batch_complete;
      stall_reported = false;
    }

abbrev pub cut_off : Option Outstanding → Instant → Option Outstanding
cut_off None now = None
cut_off (Some o) now = Some (cut now o)

abbrev pub stop_at : Option Replay → Instant → Sess → Sess
stop_at None now s = s
stop_at (Some r) now s = with_replay None (with_outstanding (cut_off s.outstanding now) s)

-- "then replay stops (`interrupted`) and the wait for a Sequence ends"
unfoldable pub stop_replay : Instant → Sess → Sess
stop_replay now s = stop_at s.replay now (with_awaiting false s)

-- "an announced `next` equal to it does nothing, a lower one is a violation, a higher one is a gap unless longer than `max_gap_len`"
abbrev pub announced_to : Option SeqNum → Instant → Nanotime → SeqNum → Sess → Binding → Did
announced_to None now stamp next s b = stays (with_inbound (Some next) s) b []
announced_to (Some expected) now stamp next s b =
    if ltb next.0 expected.0 then violation 17 s b else
    (if eqb next.0 expected.0 then stays s b [] else
    (if ltb s.config.max_gap_len (next.0 - expected.0) then violation 16 s b else
    on_gap now stamp expected next s b))

-- "The first announcement sets it without a gap"
unfoldable pub announced : Instant → Nanotime → SeqNum → Sess → Binding → Did
announced now stamp next s b =
    if s.start_pending then stays (with_inbound (Some next) (with_start false s)) b [] else
    announced_to s.inbound_next now stamp next s b

-- "Before that: unsequenced, zero, and past the finished end are violations in this order"
unfoldable pub on_next_seq : Instant → Nanotime → SeqNum → Sess → Binding → Did
on_next_seq now stamp next s b =
    if not (is_sequenced s.remote_flow) then violation 13 s b else
    (if eqb next.0 0 then violation 14 s b else
    (if past_finished s.peer_finished next.0 then violation 15 s b else
    announced now stamp next (stop_replay now s) b))

-- ---- an application message
abbrev pub discard : Answer
discard = Ok (verdict.Delivered delivery.Discard)

abbrev pub accept_live : Option SeqNum → Answer
accept_live n = Ok (verdict.Delivered (delivery.Accept n false))

abbrev pub accept_replayed : SeqNum → Answer
accept_replayed n = Ok (verdict.Delivered (delivery.Accept (Some n) true))

-- the batch after one more of its messages
unfoldable pub replay_after : Replay → Option Replay
replay_after r = if leb r.remaining 1 then None else Some (record { next = next r.next; remaining = r.remaining - 1 })

-- one more was delivered
abbrev pub progressed : Instant → Bool → Outstanding → Outstanding
progressed now last o =
    record {
      timestamp = o.timestamp;
      from = o.from;
      count = o.count;
      delivered = o.delivered + 1;
      last_progress = now;
      interrupted = o.interrupted;
      batch_complete = last;
      stall_reported = false;
    }

-- the session, and whether the request is now answered in full
pub record Counted : Type 0 where
  pub session : Sess
  pub complete : Bool

abbrev pub counted_at : Option Outstanding → Instant → Bool → Sess → Counted
counted_at None now last s = record { session = s; complete = false }
counted_at (Some o) now last s =
    if eqb o.delivered (2 ^ 32 - 1) then record { session = s; complete = true } else
    record { session = with_outstanding (Some (progressed now last o)) s; complete = leb o.count (o.delivered + 1) }

-- "a number in an overflow run is discarded and still counts as delivered"
unfoldable pub count_delivered : Instant → Bool → Sess → Counted
count_delivered now last s = counted_at s.outstanding now last s

unfoldable pub complete_if : Bool → Instant → Nanotime → Sess → Binding → Did
complete_if complete now stamp s b = if complete then complete_outstanding now stamp s b else stays s b []

abbrev pub replayed_seen : Bool → SeqNum → Answer
replayed_seen duplicate n = if duplicate then discard else accept_replayed n

unfoldable pub replayed_counted : Instant → Nanotime → SeqNum → Counted → Binding → Did
replayed_counted now stamp n k b =
    let seen : Seen = received_in_overflow n k.session.gaps in
    answering (replayed_seen seen.duplicate n) (complete_if k.complete now stamp (with_gaps seen.gaps k.session) b)

-- "Application messages are then replayed"
unfoldable pub on_replayed : Instant → Nanotime → Replay → Sess → Binding → Did
on_replayed now stamp r s b =
    if eqb r.next.0 all_ones then answering discard (violation 7 s b) else
    replayed_counted now stamp r.next (count_delivered now (leb r.remaining 1) (with_replay (replay_after r) s)) b

abbrev pub numbered_as : Option SeqNum → Sess → Binding → Did
numbered_as None s b = answering discard (violation 11 s b)
numbered_as (Some n) s b =
    if eqb n.0 all_ones then answering discard (violation 12 s b) else
    did (with_inbound (Some (next n)) s) b [] bound.Stay (accept_live (Some n))

-- "an application message settles it as it stands"
unfoldable pub number_live : Sess → Binding → Did
number_live s b =
    if s.awaiting_resume then answering discard (violation 10 s b) else
    numbered_as s.inbound_next (with_start false s) b

abbrev pub live_on : FlowType → Sess → Binding → Did
live_on flow.None s b = answering discard (violation 9 s b)
live_on flow.Unsequenced s b = did s b [] bound.Stay (accept_live None)
live_on flow.Recoverable s b = number_live s b
live_on flow.Idempotent s b = number_live s b

abbrev pub is_peer_finished : Option PeerFinished → Bool
is_peer_finished None = false
is_peer_finished (Some f) = true

unfoldable pub on_live : Sess → Binding → Did
on_live s b =
    if is_peer_finished s.peer_finished then answering discard (violation 8 s b) else
    live_on s.remote_flow s b

abbrev pub arrived_in : Option Replay → Instant → Nanotime → Sess → Binding → Did
arrived_in None now stamp s b = on_live s b
arrived_in (Some r) now stamp s b = on_replayed now stamp r s b

-- "Closing ignores every peer and application message and leaves `last_received`; otherwise that becomes now first."
unfoldable pub on_application : Instant → Nanotime → Sess → Binding → Did
on_application now stamp s b =
    if is_closing b.state then did s b (event_with (ev.Ignored name.ApplicationMessage) 1 ∷ []) bound.Stay discard else
    arrived_in s.replay now stamp s (with_received now b)
