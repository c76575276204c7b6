-- The declared types and their constructors under short names, for the rules and for the proofs above them.
pub use Rattle.types.specs.declared.ids.SeqNum.{SeqNum}
pub use Rattle.types.specs.declared.ids.Nanotime.{Nanotime}
pub use Rattle.types.specs.declared.ids.Instant.{Instant}
pub use Rattle.types.specs.declared.ids.SessionId.{SessionId}
pub use Rattle.types.specs.declared.ids.FlowType.{FlowType}
pub use Rattle.types.specs.declared.ids.FlowType.TheVariants as flow
pub use Rattle.types.specs.declared.ids.TerminationCode.{TerminationCode}
pub use Rattle.types.specs.declared.ids.TerminationCode.TheVariants as code
pub use Rattle.types.specs.declared.ids.RetransmitRejectCode.{RetransmitRejectCode}
pub use Rattle.types.specs.declared.ids.RetransmitRejectCode.TheVariants as rejection
pub use Rattle.types.specs.declared.config.FixpConfig.{FixpConfig}
pub use Rattle.types.specs.declared.config.RetransmitStallPolicy.{RetransmitStallPolicy}
pub use Rattle.types.specs.declared.config.RetransmitStallPolicy.TheVariants as policy
pub use Rattle.types.specs.declared.reasons.Reason.{Reason}
pub use Rattle.types.specs.declared.messages.Sequence.{Sequence}
pub use Rattle.types.specs.declared.messages.Context.{Context}
pub use Rattle.types.specs.declared.messages.RetransmitRequest.{RetransmitRequest}
pub use Rattle.types.specs.declared.messages.Retransmission.{Retransmission}
pub use Rattle.types.specs.declared.messages.RetransmitReject.{RetransmitReject}
pub use Rattle.types.specs.declared.messages.Terminate.{Terminate}
pub use Rattle.types.specs.declared.messages.FinishedSending.{FinishedSending}
pub use Rattle.types.specs.declared.messages.FinishedReceiving.{FinishedReceiving}
pub use Rattle.types.specs.declared.messages.Applied.{Applied}
pub use Rattle.types.specs.declared.messages.NotApplied.{NotApplied}
pub use Rattle.types.specs.declared.messages.PeerMessage.{PeerMessage}
pub use Rattle.types.specs.declared.messages.PeerMessage.TheVariants as peer
pub use Rattle.types.specs.declared.messages.MessageName.{MessageName}
pub use Rattle.types.specs.declared.messages.MessageName.TheVariants as name
pub use Rattle.types.specs.declared.messages.SessionMessage.{SessionMessage}
pub use Rattle.types.specs.declared.messages.SessionMessage.TheVariants as message
pub use Rattle.types.specs.declared.output.Output.{Output}
pub use Rattle.types.specs.declared.output.Line.{Line}
pub use Rattle.types.specs.declared.output.Quote.{Quote}
pub use Rattle.types.specs.declared.output.Quote.TheVariants as quote
pub use Rattle.types.specs.declared.output.Said.{Said}
pub use Rattle.types.specs.declared.output.Said.TheVariants as said
pub use Rattle.types.specs.declared.output.Event.{Event}
pub use Rattle.types.specs.declared.output.Event.TheVariants as event
pub use Rattle.types.specs.declared.output.TerminatedBy.{TerminatedBy}
pub use Rattle.types.specs.declared.output.TerminatedBy.TheVariants as by
pub use Rattle.types.specs.declared.binding.Bound.{Bound}
pub use Rattle.types.specs.declared.binding.Bound.TheVariants as bound
pub use Rattle.types.specs.declared.binding.BindState.{BindState}
pub use Rattle.types.specs.declared.binding.BindState.TheVariants as state
pub use Rattle.types.specs.declared.binding.Binding.{Binding}
pub use Rattle.types.specs.declared.binding.Link.{Link}
pub use Rattle.types.specs.declared.parts.Gap.{Gap}
pub use Rattle.types.specs.declared.parts.Outstanding.{Outstanding}
pub use Rattle.types.specs.declared.parts.PeerFinished.{PeerFinished}
pub use Rattle.types.specs.declared.parts.Replay.{Replay}
pub use Rattle.types.specs.declared.parts.Provider.{Provider}
pub use Rattle.types.specs.declared.answers.Delivery.{Delivery}
pub use Rattle.types.specs.declared.answers.Delivery.TheVariants as delivery
pub use Rattle.types.specs.declared.answers.RetransmitBatch.{RetransmitBatch}
pub use Rattle.types.specs.declared.answers.SessionStatus.{SessionStatus}
pub use Rattle.types.specs.declared.answers.SessionStatus.TheVariants as status
pub use Rattle.types.specs.declared.answers.Operation.{Operation}
pub use Rattle.types.specs.declared.answers.Operation.TheVariants as operation
pub use Rattle.types.specs.declared.answers.Refusal.{Refusal}
pub use Rattle.types.specs.declared.answers.Refusal.TheVariants as refusal
pub use Rattle.types.specs.declared.answers.Verdict.{Verdict}
pub use Rattle.types.specs.declared.answers.Verdict.TheVariants as verdict
pub use Rattle.types.specs.Answers.{Answer}
