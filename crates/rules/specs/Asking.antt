-- 01, "Asking": what is missing is asked for, one request at a time (FIXP 4.6).
use Rattle.std.specs.Prelude.{ℕ, ◌+◌, ◌-◌, Bool, true, false, not, ◌&&◌, ◌||◌, [], ◌∷◌, leb, eqb, if◌then◌else◌, Option, Some, None}
use Rattle.types.specs.Base.{all_ones, same_id}
use Rattle.types.specs.Flows.{is_recoverable}
use Rattle.types.specs.States.{is_established, leave_sequence}
use Rattle.rules.specs.Names.{SeqNum, Nanotime, Instant, Reason, Retransmission, RetransmitReject, Binding, Gap, Outstanding, PeerFinished}
use Rattle.rules.specs.Names.code
use Rattle.rules.specs.Names.name
use Rattle.rules.specs.Names.message
use Rattle.rules.specs.Names.event as ev
use Rattle.rules.specs.Lists.{is_nil, front_of}
use Rattle.rules.specs.State.{Sess, with_outstanding, with_replay, with_awaiting, with_peer_finished, Did, stays, saying}
use Rattle.rules.specs.Outputs.{send, event, event_with, event_quoting}
use Rattle.rules.specs.Ending.{consumed, fail, violation}

abbrev pub is_outstanding : Option Outstanding → Bool
is_outstanding None = false
is_outstanding (Some o) = true

-- "count the smaller of its length and max_retransmit_count"
unfoldable pub fewer : ℕ → ℕ → ℕ
fewer len max = if leb len max then len else max

-- a request just sent
abbrev pub asked : Nanotime → SeqNum → ℕ → Instant → Outstanding
asked stamp from count now =
    record {
      timestamp = stamp;
      from = from;
      count = count;
      delivered = 0;
      last_progress = now;
      interrupted = false;
      batch_complete = false;
      stall_reported = false;
    }

unfoldable pub ask : Instant → Nanotime → Gap → Sess → Binding → Did
ask now stamp g s b =
    let count : ℕ = fewer (g.end.0 - g.from.0) s.config.max_retransmit_count in
    stays (with_outstanding (Some (asked stamp g.from count now)) s) (leave_sequence b)
    (send (message.RetransmitRequest (record { session_id = s.id; timestamp = stamp; from_seq_no = g.from; count = count })) ∷ [])

-- an empty first gap is not asked for; a clock out of range ends the binding
abbrev pub ask_for : Option Gap → Instant → Nanotime → Sess → Binding → Did
ask_for None now stamp s b = stays s b []
ask_for (Some g) now stamp s b =
    if leb g.end.0 g.from.0 then stays s b [] else
    (if eqb stamp.0 all_ones then fail code.UnspecifiedError 20 s b else
    ask now stamp g s b)

-- "Only Established, Recoverable, nothing outstanding: first gap"
unfoldable pub request_missing : Instant → Nanotime → Sess → Binding → Did
request_missing now stamp s b =
    if is_established b.state && is_recoverable s.remote_flow && not (is_outstanding s.outstanding) then ask_for (front_of s.gaps.missing) now stamp s b else
    stays s b []

-- FinishedReceiving goes out once the peer has finished and no gap is being recovered (FIXP 4.7.2); it goes once
abbrev pub finish_at : Option PeerFinished → Sess → Binding → Did
finish_at None s b = stays s b []
finish_at (Some f) s b =
    if f.receiving_sent || not (is_established b.state) || not (is_nil s.gaps.missing) || is_outstanding s.outstanding then stays s b [] else
    stays (with_peer_finished (Some (record { receiving_sent = true; end = f.end })) s) (leave_sequence b)
    (send (message.FinishedReceiving (record { session_id = s.id })) ∷ [])

unfoldable pub maybe_finish_receiving : Sess → Binding → Did
maybe_finish_receiving s b = finish_at s.peer_finished s b

-- a request is over: the next gap is asked for, or recovery is complete
unfoldable pub recovered : Instant → Nanotime → Sess → Binding → Did
recovered now stamp s b =
    if is_nil s.gaps.missing then saying (event ev.RecoveryComplete ∷ []) (maybe_finish_receiving s b) else
    request_missing now stamp s b

-- the request in flight was answered in full: its whole count is consumed
abbrev pub completed_at : Option Outstanding → Sess → Sess
completed_at None s = s
completed_at (Some o) s = consumed o.count (with_outstanding None s)

unfoldable pub complete_outstanding : Instant → Nanotime → Sess → Binding → Did
complete_outstanding now stamp s b = recovered now stamp (with_replay None (completed_at s.outstanding s)) b

-- "next undelivered number and remaining count": its count is 1 to what remains
unfoldable pub in_range : Retransmission → Outstanding → Bool
in_range m o = leb 1 m.count && leb (m.count + o.delivered) o.count && eqb m.next_seq_no.0 (o.from.0 + o.delivered)

-- a batch has begun
abbrev pub begun : Instant → Outstanding → Outstanding
begun now o =
    record {
      timestamp = o.timestamp;
      from = o.from;
      count = o.count;
      delivered = o.delivered;
      last_progress = now;
      interrupted = false;
      batch_complete = false;
      stall_reported = false;
    }

-- application messages are now replayed, and the next live one waits for a Sequence
abbrev pub begin_batch : Instant → Retransmission → Outstanding → Sess → Binding → Did
begin_batch now m o s b =
    stays (with_outstanding (Some (begun now o)) (with_awaiting true (with_replay (Some (record { next = m.next_seq_no; remaining = m.count })) s))) b []

abbrev pub header_at : Option Outstanding → Instant → Retransmission → Sess → Binding → Did
header_at None now m s b = violation 23 s b
header_at (Some o) now m s b =
    if not (eqb m.request_timestamp.0 o.timestamp.0) then violation 24 s b else
    (if not (in_range m o) then violation 25 s b else
    begin_batch now m o s b)

-- "A Retransmission must match session, stamp, next undelivered number and remaining count."
unfoldable pub on_retransmission : Instant → Retransmission → Sess → Binding → Did
on_retransmission now m s b =
    if not (is_recoverable s.remote_flow) then violation 21 s b else
    (if not (same_id m.session_id s.id) then violation 22 s b else
    header_at s.outstanding now m s b)

-- it answers no outstanding request
abbrev pub unasked : Sess → Binding → Did
unasked s b = stays s b (event_with (ev.Ignored name.RetransmitReject) 26 ∷ [])

-- "rejection [consumes] the whole count": the range is abandoned
abbrev pub rejected : Instant → Nanotime → RetransmitReject → Reason → Outstanding → Sess → Binding → Did
rejected now stamp m text o s b =
    saying (event_quoting (ev.RetransmitRejected o.from o.count m.code) text ∷ []) (recovered now stamp (consumed o.count (with_replay None (with_outstanding None s))) b)

abbrev pub rejected_at : Option Outstanding → Instant → Nanotime → RetransmitReject → Reason → Sess → Binding → Did
rejected_at None now stamp m text s b = unasked s b
rejected_at (Some o) now stamp m text s b =
    if eqb o.timestamp.0 m.request_timestamp.0 && same_id m.session_id s.id then rejected now stamp m text o s b else
    unasked s b

unfoldable pub on_retransmit_reject : Instant → Nanotime → RetransmitReject → Reason → Sess → Binding → Did
on_retransmit_reject now stamp m text s b = rejected_at s.outstanding now stamp m text s b

-- a stalled request is given up, what it delivered kept, and what is still missing asked for
unfoldable pub re_request : Instant → Nanotime → Outstanding → Sess → Binding → Did
re_request now stamp o s b = request_missing now stamp (consumed o.delivered (with_replay None (with_outstanding None s))) b
