-- 01, "Serving": a peer's RetransmitRequest (FIXP 4.6.1 to 4.6.4).
use Rattle.std.specs.Prelude.{ℕ, ◌+◌, Bool, true, false, not, ◌&&◌, [], ◌∷◌, ltb, leb, eqb, if◌then◌else◌, Option, Some, None}
use Rattle.types.specs.Base.{same_id}
use Rattle.types.specs.Flows.{is_recoverable}
use Rattle.types.specs.States.{is_established, leave_sequence}
use Rattle.rules.specs.Names.{RetransmitRejectCode, RetransmitRequest, Binding, Provider}
use Rattle.rules.specs.Names.code
use Rattle.rules.specs.Names.rejection
use Rattle.rules.specs.Names.name
use Rattle.rules.specs.Names.message
use Rattle.rules.specs.Names.event as ev
use Rattle.rules.specs.State.{Sess, with_provider, Did, stays, saying}
use Rattle.rules.specs.Outputs.{send_with, event, event_with}
use Rattle.rules.specs.Ending.{fail, violation}

abbrev pub is_serving : Option Provider → Bool
is_serving None = false
is_serving (Some v) = true

-- the rejection carries the request's own id
unfoldable pub refuse_retransmit : RetransmitRequest → RetransmitRejectCode → ℕ → Sess → Binding → Did
refuse_retransmit m code n s b =
    stays s (leave_sequence b)
    (send_with (message.RetransmitReject (record { session_id = m.session_id; request_timestamp = m.timestamp; code = code })) n ∷ event_with (ev.Refused name.RetransmitReject) n ∷ [])

-- "from at least 1 and end at most `outbound_next`"
unfoldable pub is_sent : RetransmitRequest → Sess → Bool
is_sent m s = leb 1 m.from_seq_no.0 && leb (m.from_seq_no.0 + m.count) s.outbound_next.0

unfoldable pub serve : RetransmitRequest → Sess → Binding → Did
serve m s b =
    stays (with_provider (Some (record { request_timestamp = m.timestamp; from = m.from_seq_no; count = m.count; sent = 0 })) s) b
    (event (ev.RetransmitRequested m.from_seq_no m.count) ∷ [])

-- "Checks in order: established (else ignored), local Recoverable, session, none in progress, count 0, count over limit, from at
-- least 1 and end at most `outbound_next`."
unfoldable pub on_retransmit_request : RetransmitRequest → Sess → Binding → Did
on_retransmit_request m s b =
    if not (is_established b.state) then stays s b (event_with (ev.Ignored name.RetransmitRequest) 27 ∷ []) else
    (if not (is_recoverable s.local_flow) then violation 28 s b else
    (if not (same_id m.session_id s.id) then refuse_retransmit m rejection.InvalidSession 29 s b else
    (if is_serving s.provider then saying (event_with ev.ProtocolViolation 30 ∷ []) (fail code.ReRequestInProgress 30 s b) else
    (if eqb m.count 0 then refuse_retransmit m rejection.OutOfRange 31 s b else
    (if ltb s.config.max_retransmit_count m.count then refuse_retransmit m rejection.RequestLimitExceeded 32 s b else
    (if not (is_sent m s) then refuse_retransmit m rejection.OutOfRange 33 s b else
    serve m s b))))))
