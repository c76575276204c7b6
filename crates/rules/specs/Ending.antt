-- How a binding ends: what it leaves, a failure, a violation, and the peer's Terminate (FIXP 4.4 and 6.3).
use Rattle.std.specs.Prelude.{ℕ, ◌+◌, Bool, true, false, not, ◌&&◌, [], ◌∷◌, if◌then◌else◌, Option, Some, None}
use Rattle.types.specs.Base.{same_id, deadline_at}
use Rattle.types.specs.Flows.{is_finished}
use Rattle.types.specs.States.{is_established, with_state}
use Rattle.rules.specs.Names.{Instant, TerminationCode, Reason, Terminate, BindState, Binding, Outstanding, PeerFinished}
use Rattle.rules.specs.Names.code
use Rattle.rules.specs.Names.message
use Rattle.rules.specs.Names.event as ev
use Rattle.rules.specs.Names.by
use Rattle.rules.specs.Names.state
use Rattle.rules.specs.State.{Sess, with_gaps, with_outstanding, with_replay, with_awaiting, with_provider, with_finalized, Did, ends, stays, saying}
use Rattle.rules.specs.Outputs.{send, send_with, event_with, event_quoting, close_transport}
use Rattle.rules.specs.Gaps.{consume_missing}

-- the first count numbers of the first gap go
abbrev pub consumed : ℕ → Sess → Sess
consumed count s = with_gaps (consume_missing count s.gaps) s

-- "Release consumes what was delivered"
abbrev pub released_at : Option Outstanding → Sess → Sess
released_at None s = s
released_at (Some o) s = consumed o.delivered (with_outstanding None s)

unfoldable pub release_binding_state : Sess → Sess
release_binding_state s = with_provider None (with_awaiting false (with_replay None (released_at s.outstanding s)))

-- FinishedReceiving has gone out
abbrev pub sent_at : Option PeerFinished → Bool
sent_at None = false
sent_at (Some f) = f.receiving_sent

abbrev pub finished_receiving_sent : Sess → Bool
finished_receiving_sent s = sent_at s.peer_finished

unfoldable pub finalize_if_finished : Sess → Sess
finalize_if_finished s = if finished_receiving_sent s then with_finalized true s else s

-- Terminate if this side may still send, then the transport closes; nothing is waited for
unfoldable pub fail : TerminationCode → ℕ → Sess → Binding → Did
fail code n s b =
    ends (release_binding_state s) b
    (if is_established b.state
    then send_with (message.Terminate (record { session_id = s.id; code = code })) n ∷ event_with (ev.Terminated code by.Local) n ∷ close_transport ∷ []
    else close_transport ∷ [])

-- the peer broke the protocol, for reason n
unfoldable pub violation : ℕ → Sess → Binding → Did
violation n s b = saying (event_with ev.ProtocolViolation n ∷ []) (fail code.UnspecifiedError n s b)

-- a session that ended by a Terminate of each side is finalized if both were graceful
abbrev pub ended_by : Bool → Sess → Sess
ended_by graceful s = if graceful then finalize_if_finished (release_binding_state s) else release_binding_state s

-- the peer's Terminate is answered with one of zero bytes and no number, the last message sent
abbrev pub answer_terminate : Instant → Terminate → Reason → Sess → Binding → Did
answer_terminate now m text s b =
    stays (ended_by (is_finished m.code) s) (with_state (state.Closing (deadline_at (now.0 + b.local_keepalive))) b)
    (send (message.Terminate (record { session_id = s.id; code = code.Finished })) ∷ event_quoting (ev.Terminated m.code by.Peer) text ∷ [])

-- the answer to this side's own Terminate, which has that code and reason
abbrev pub answered_terminate : Reason → TerminationCode → TerminationCode → Sess → Binding → Did
answered_terminate reason ours theirs s b =
    ends (ended_by (is_finished ours && is_finished theirs) s) b (event_quoting (ev.Terminated ours by.Local) reason ∷ close_transport ∷ [])

abbrev pub terminate_at : BindState → Instant → Reason → Terminate → Reason → Sess → Binding → Did
terminate_at state.Established now reason m text s b = answer_terminate now m text s b
terminate_at (state.Terminating t ours) now reason m text s b = answered_terminate reason ours m.code s b
terminate_at (state.Closing d) now reason m text s b = stays s b []

-- reason is that of this side's own Terminate, text the peer's
unfoldable pub on_terminate : Instant → Reason → Terminate → Reason → Sess → Binding → Did
on_terminate now reason m text s b =
    if not (same_id m.session_id s.id) then violation 34 s b else
    terminate_at b.state now reason m text s b
