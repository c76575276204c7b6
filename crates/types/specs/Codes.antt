-- What a code stands for, if it is in its list (01, "Trace program"): the case that has the number.
use Rattle.std.specs.Prelude.{ℕ, eqb, if◌then◌else◌, Result, Ok, Err}
use Rattle.types.specs.declared.ids.FlowType.{FlowType}
use Rattle.types.specs.declared.ids.FlowType.TheVariants as flow
use Rattle.types.specs.declared.ids.TerminationCode.{TerminationCode}
use Rattle.types.specs.declared.ids.TerminationCode.TheVariants as code
use Rattle.types.specs.declared.ids.RetransmitRejectCode.{RetransmitRejectCode}
use Rattle.types.specs.declared.ids.RetransmitRejectCode.TheVariants as rejection
use Rattle.types.specs.declared.config.RetransmitStallPolicy.{RetransmitStallPolicy}
use Rattle.types.specs.declared.config.RetransmitStallPolicy.TheVariants as policy
use Rattle.types.specs.declared.output.TerminatedBy.{TerminatedBy}
use Rattle.types.specs.declared.output.TerminatedBy.TheVariants as by
use Rattle.types.specs.declared.messages.MessageName.{MessageName}
use Rattle.types.specs.declared.messages.MessageName.TheVariants as name
use Rattle.types.specs.declared.codes.Unlisted.{Unlisted}
use Rattle.types.specs.Flows.{flow_number, policy_number, termination_number, rejection_number, by_number, name_number}

abbrev pub unlisted : {A : Type 0} → Result A Unlisted
unlisted = Err (record {})

unfoldable pub flow_of : ℕ → Result FlowType Unlisted
flow_of n =
    if eqb n (flow_number flow.Recoverable) then Ok flow.Recoverable
    else (if eqb n (flow_number flow.Idempotent) then Ok flow.Idempotent
    else (if eqb n (flow_number flow.Unsequenced) then Ok flow.Unsequenced
    else (if eqb n (flow_number flow.None) then Ok flow.None
    else unlisted)))

unfoldable pub policy_of : ℕ → Result RetransmitStallPolicy Unlisted
policy_of n =
    if eqb n (policy_number policy.Terminate) then Ok policy.Terminate
    else (if eqb n (policy_number policy.ReRequestAfterContextSwitch) then Ok policy.ReRequestAfterContextSwitch
    else (if eqb n (policy_number policy.ReRequestAfterBatch) then Ok policy.ReRequestAfterBatch
    else (if eqb n (policy_number policy.EventOnly) then Ok policy.EventOnly
    else unlisted)))

unfoldable pub termination_of : ℕ → Result TerminationCode Unlisted
termination_of n =
    if eqb n (termination_number code.Finished) then Ok code.Finished
    else (if eqb n (termination_number code.UnspecifiedError) then Ok code.UnspecifiedError
    else (if eqb n (termination_number code.ReRequestOutOfBounds) then Ok code.ReRequestOutOfBounds
    else (if eqb n (termination_number code.ReRequestInProgress) then Ok code.ReRequestInProgress
    else unlisted)))

unfoldable pub rejection_of : ℕ → Result RetransmitRejectCode Unlisted
rejection_of n =
    if eqb n (rejection_number rejection.OutOfRange) then Ok rejection.OutOfRange
    else (if eqb n (rejection_number rejection.InvalidSession) then Ok rejection.InvalidSession
    else (if eqb n (rejection_number rejection.RequestLimitExceeded) then Ok rejection.RequestLimitExceeded
    else unlisted))

unfoldable pub by_of : ℕ → Result TerminatedBy Unlisted
by_of n =
    if eqb n (by_number by.Local) then Ok by.Local
    else (if eqb n (by_number by.Peer) then Ok by.Peer
    else unlisted)

-- a message's name by the kind of its trace record
unfoldable pub name_of_number : ℕ → Result MessageName Unlisted
name_of_number n =
    if eqb n (name_number name.ApplicationMessage) then Ok name.ApplicationMessage
    else (if eqb n (name_number name.Sequence) then Ok name.Sequence
    else (if eqb n (name_number name.Context) then Ok name.Context
    else (if eqb n (name_number name.UnsequencedHeartbeat) then Ok name.UnsequencedHeartbeat
    else (if eqb n (name_number name.RetransmitRequest) then Ok name.RetransmitRequest
    else (if eqb n (name_number name.Retransmission) then Ok name.Retransmission
    else (if eqb n (name_number name.RetransmitReject) then Ok name.RetransmitReject
    else (if eqb n (name_number name.Terminate) then Ok name.Terminate
    else (if eqb n (name_number name.FinishedSending) then Ok name.FinishedSending
    else (if eqb n (name_number name.FinishedReceiving) then Ok name.FinishedReceiving
    else (if eqb n (name_number name.Applied) then Ok name.Applied
    else (if eqb n (name_number name.NotApplied) then Ok name.NotApplied
    else (if eqb n (name_number name.Topic) then Ok name.Topic
    else (if eqb n (name_number name.MessageTemplate) then Ok name.MessageTemplate
    else unlisted)))))))))))))
