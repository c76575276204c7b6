-- The local calls: what each refuses, in the Rust's order, and what it does where it refuses nothing.
use Rattle.std.specs.Prelude.{ℕ, ◌+◌, ◌-◌, Bool, true, false, not, ◌||◌, [], ◌∷◌, leb, if◌then◌else◌, Option, Some, None, Ok}
use Rattle.types.specs.Base.{all_ones}
use Rattle.types.specs.Flows.{is_sequenced, carries_none, is_finished}
use Rattle.types.specs.States.{is_established, status_of, with_state, with_keepalive, leave_sequence}
use Rattle.types.specs.Reasons.{max_reason_len, reason_fits}
use Rattle.rules.specs.Names.{Instant, TerminationCode, RetransmitRejectCode, Reason, Binding, Provider, Operation, Refusal}
use Rattle.rules.specs.Names.message
use Rattle.rules.specs.Names.event as ev
use Rattle.rules.specs.Names.by
use Rattle.rules.specs.Names.bound
use Rattle.rules.specs.Names.state
use Rattle.rules.specs.Names.verdict
use Rattle.rules.specs.Names.operation
use Rattle.rules.specs.Names.refusal
use Rattle.rules.specs.State.{Sess, with_provider, Did, did, stays, ends, answering}
use Rattle.rules.specs.Outputs.{send, send_quoting, event_quoting, close_transport}
use Rattle.rules.specs.Ending.{release_binding_state, finished_receiving_sent}
use Rattle.rules.specs.Numbering.{outbound_exhausted, allocate_outbound}

-- a call passes, or is refused
pub data Refused : Type 0 where
  passes : Refused
  refuses : Refusal → Refused

-- refused so unless the test holds; else what comes next in the table
abbrev pub unless : Bool → Refusal → Refused → Refused
unless true r rest = rest
unless false r rest = refuses r

-- 8: "not Established; carries operation and status"
abbrev pub require_established : Operation → Binding → Refused → Refused
require_established o b rest = unless (is_established b.state) (refusal.InvalidState o (status_of b.state)) rest

-- 14: "a local reason over 64 bytes; carries both lengths"
abbrev pub check_reason : Reason → Refused → Refused
check_reason r rest = unless (reason_fits r) (refusal.ReasonTooLong r.len max_reason_len) rest

-- ---- send: 8, 9, 10 or 11
unfoldable pub send_refused : Sess → Binding → Refused
send_refused s b =
    require_established operation.SendApplication b
    (unless (not (finished_receiving_sent s)) refusal.FinishedReceivingSent
    (unless (not (carries_none s.local_flow)) refusal.FlowCarriesNoApplicationMessages
    (unless (not (is_sequenced s.local_flow) || not (outbound_exhausted s)) refusal.SequenceExhausted
    passes)))

abbrev pub kept_alive : Instant → Did → Did
kept_alive now d = did d.session (with_keepalive now d.binding) d.outs d.bound d.answer

-- the message's number is the next one of this side, if its flow has numbers
unfoldable pub send_application : Instant → Sess → Binding → Did
send_application now s b =
    if is_sequenced s.local_flow then answering (Ok (verdict.Sent (Some s.outbound_next))) (kept_alive now (allocate_outbound s b)) else
    did s (with_keepalive now b) [] bound.Stay (Ok (verdict.Sent None))

-- ---- terminate: 8, 14
unfoldable pub terminate_refused : Reason → Sess → Binding → Refused
terminate_refused text s b = require_established operation.Terminate b (check_reason text passes)

-- a graceful Terminate waits for the answer, any other ends the binding
unfoldable pub terminate : Instant → TerminationCode → Reason → Sess → Binding → Did
terminate now code text s b =
    if is_finished code
    then stays (with_provider None s) (with_state (state.Terminating now code) b) (send_quoting (message.Terminate (record { session_id = s.id; code = code })) text ∷ [])
    else ends (release_binding_state s) b (send_quoting (message.Terminate (record { session_id = s.id; code = code })) text ∷ event_quoting (ev.Terminated code by.Local) text ∷ close_transport ∷ [])

-- ---- retransmit: 8, 12, 13, 11
abbrev pub batch_refused : Option Provider → ℕ → Refused
batch_refused None count = refuses refusal.NoRetransmissionInProgress
batch_refused (Some v) count =
    unless (leb v.sent v.count) refusal.NoRetransmissionInProgress
    (unless (leb count (v.count - v.sent)) (refusal.RetransmissionOverrun count (v.count - v.sent))
    (unless (leb (v.from.0 + v.sent) all_ones) refusal.SequenceExhausted
    passes))

unfoldable pub retransmit_refused : ℕ → Sess → Binding → Refused
retransmit_refused count s b = require_established operation.Retransmit b (batch_refused s.provider count)

-- what is left to serve after a batch
unfoldable pub provider_after : ℕ → Provider → Option Provider
provider_after count v =
    if leb v.count (v.sent + count) then None else
    Some (record { request_timestamp = v.request_timestamp; from = v.from; count = v.count; sent = v.sent + count })

unfoldable pub batch : Instant → ℕ → Provider → Sess → Binding → Did
batch now count v s b =
    did (with_provider (provider_after count v) s) (with_keepalive now (leave_sequence b))
    (send (message.Retransmission (record { session_id = s.id; request_timestamp = v.request_timestamp; next_seq_no = record { 0 = v.from.0 + v.sent }; count = count })) ∷ [])
    bound.Stay (Ok (verdict.Batch (record { from = record { 0 = v.from.0 + v.sent }; count = count })))

abbrev pub batch_at : Option Provider → Instant → ℕ → Sess → Binding → Did
batch_at None now count s b = stays s b []
batch_at (Some v) now count s b = batch now count v s b

unfoldable pub retransmit : Instant → ℕ → Sess → Binding → Did
retransmit now count s b = batch_at s.provider now count s b

-- ---- reject: 8, 14, 12
abbrev pub serving_refused : Option Provider → Refused
serving_refused None = refuses refusal.NoRetransmissionInProgress
serving_refused (Some v) = passes

unfoldable pub reject_refused : Reason → Sess → Binding → Refused
reject_refused text s b = require_established operation.RejectRetransmitRequest b (check_reason text (serving_refused s.provider))

abbrev pub reject_at : Option Provider → RetransmitRejectCode → Reason → Sess → Binding → Did
reject_at None code text s b = stays s b []
reject_at (Some v) code text s b =
    stays (with_provider None s) (leave_sequence b)
    (send_quoting (message.RetransmitReject (record { session_id = s.id; request_timestamp = v.request_timestamp; code = code })) text ∷ [])

unfoldable pub reject_retransmit_request : RetransmitRejectCode → Reason → Sess → Binding → Did
reject_retransmit_request code text s b = reject_at s.provider code text s b

-- ---- end: 8, 12
unfoldable pub end_refused : Sess → Binding → Refused
end_refused s b = require_established operation.EndRetransmission b (serving_refused s.provider)

unfoldable pub end_retransmission : Sess → Binding → Did
end_retransmission s b = stays (with_provider None s) b []
