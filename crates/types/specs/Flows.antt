-- What the flows and codes are asked, and 01's numbers for them.
use Rattle.std.specs.Prelude.{ℕ, Bool, true, false}
use Rattle.types.specs.declared.ids.FlowType.{FlowType}
use Rattle.types.specs.declared.ids.FlowType.TheVariants as flow
use Rattle.types.specs.declared.ids.TerminationCode.{TerminationCode}
use Rattle.types.specs.declared.ids.TerminationCode.TheVariants as code
use Rattle.types.specs.declared.ids.RetransmitRejectCode.{RetransmitRejectCode}
use Rattle.types.specs.declared.ids.RetransmitRejectCode.TheVariants as rejection
use Rattle.types.specs.declared.config.RetransmitStallPolicy.{RetransmitStallPolicy}
use Rattle.types.specs.declared.config.RetransmitStallPolicy.TheVariants as policy
use Rattle.types.specs.declared.output.TerminatedBy.{TerminatedBy}
use Rattle.types.specs.declared.output.TerminatedBy.TheVariants as by
use Rattle.types.specs.declared.messages.MessageName.{MessageName}
use Rattle.types.specs.declared.messages.MessageName.TheVariants as name

-- 01: "Flows 1 to 4"
abbrev pub flow_number : FlowType → ℕ
flow_number flow.Recoverable = 1
flow_number flow.Idempotent = 2
flow_number flow.Unsequenced = 3
flow_number flow.None = 4

-- 01: "Recoverable and Idempotent flows are sequenced"
abbrev pub is_sequenced : FlowType → Bool
is_sequenced flow.Recoverable = true
is_sequenced flow.Idempotent = true
is_sequenced flow.Unsequenced = false
is_sequenced flow.None = false

abbrev pub is_recoverable : FlowType → Bool
is_recoverable flow.Recoverable = true
is_recoverable flow.Idempotent = false
is_recoverable flow.Unsequenced = false
is_recoverable flow.None = false

abbrev pub is_idempotent : FlowType → Bool
is_idempotent flow.Recoverable = false
is_idempotent flow.Idempotent = true
is_idempotent flow.Unsequenced = false
is_idempotent flow.None = false

-- a None flow carries no application messages
abbrev pub carries_none : FlowType → Bool
carries_none flow.Recoverable = false
carries_none flow.Idempotent = false
carries_none flow.Unsequenced = false
carries_none flow.None = true

-- 01: "Termination 1 to 4"
abbrev pub termination_number : TerminationCode → ℕ
termination_number code.Finished = 1
termination_number code.UnspecifiedError = 2
termination_number code.ReRequestOutOfBounds = 3
termination_number code.ReRequestInProgress = 4

-- a graceful end
abbrev pub is_finished : TerminationCode → Bool
is_finished code.Finished = true
is_finished code.UnspecifiedError = false
is_finished code.ReRequestOutOfBounds = false
is_finished code.ReRequestInProgress = false

-- 01: "Rejection 1 to 3"
abbrev pub rejection_number : RetransmitRejectCode → ℕ
rejection_number rejection.OutOfRange = 1
rejection_number rejection.InvalidSession = 2
rejection_number rejection.RequestLimitExceeded = 3

-- 01: "Policy 1 to 4"
abbrev pub policy_number : RetransmitStallPolicy → ℕ
policy_number policy.Terminate = 1
policy_number policy.ReRequestAfterContextSwitch = 2
policy_number policy.ReRequestAfterBatch = 3
policy_number policy.EventOnly = 4

-- who ended a binding: 1 this side, 2 the peer
abbrev pub by_number : TerminatedBy → ℕ
by_number by.Local = 1
by_number by.Peer = 2

-- the kind of the message's trace record (01, "Trace program")
abbrev pub name_number : MessageName → ℕ
name_number name.ApplicationMessage = 4
name_number name.Sequence = 32
name_number name.Context = 33
name_number name.UnsequencedHeartbeat = 34
name_number name.RetransmitRequest = 35
name_number name.Retransmission = 36
name_number name.RetransmitReject = 37
name_number name.Terminate = 38
name_number name.FinishedSending = 39
name_number name.FinishedReceiving = 40
name_number name.Applied = 41
name_number name.NotApplied = 42
name_number name.Topic = 43
name_number name.MessageTemplate = 44
