-- The names that events give the messages.
use Rattle.types.specs.declared.messages.PeerMessage.{PeerMessage}
use Rattle.types.specs.declared.messages.PeerMessage.TheVariants as peer
use Rattle.types.specs.declared.messages.MessageName.{MessageName}
use Rattle.types.specs.declared.messages.MessageName.TheVariants as name

abbrev pub name_of : PeerMessage → MessageName
name_of peer.Topic = name.Topic
name_of (peer.Sequence m) = name.Sequence
name_of (peer.Context m) = name.Context
name_of peer.UnsequencedHeartbeat = name.UnsequencedHeartbeat
name_of (peer.RetransmitRequest m) = name.RetransmitRequest
name_of (peer.Retransmission m) = name.Retransmission
name_of (peer.RetransmitReject m) = name.RetransmitReject
name_of (peer.Terminate m) = name.Terminate
name_of (peer.FinishedSending m) = name.FinishedSending
name_of peer.FinishedReceiving = name.FinishedReceiving
name_of (peer.Applied m) = name.Applied
name_of (peer.NotApplied m) = name.NotApplied
name_of peer.MessageTemplate = name.MessageTemplate
