-- By the kind.
use mathlib.Core.Path.{ap}
use Rattle.rules.specs.Names.{PeerMessage}
use Rattle.rules.specs.Peer.{on_message}
use Rattle.session.specs.View.{view}
use Rattle.session.proofs.Session.on_message.Goals as goal

pub returns-in-Topic : goal.returns-in-Topic
returns-in-Topic c = rw (ap (λ (m : PeerMessage). on_message m c.args.now c.args.stamp c.args.reason c.args.text (view c.args.self) c.args.binding) c.in-Topic.is) c.violation.ensures

pub returns-in-Sequence : goal.returns-in-Sequence
returns-in-Sequence c = rw (ap (λ (m : PeerMessage). on_message m c.args.now c.args.stamp c.args.reason c.args.text (view c.args.self) c.args.binding) c.in-Sequence.is) c.on_next_seq.ensures

pub returns-in-Context : goal.returns-in-Context
returns-in-Context c = rw (ap (λ (m : PeerMessage). on_message m c.args.now c.args.stamp c.args.reason c.args.text (view c.args.self) c.args.binding) c.in-Context.is) c.on_context.ensures

pub returns-in-UnsequencedHeartbeat : goal.returns-in-UnsequencedHeartbeat
returns-in-UnsequencedHeartbeat c = rw (ap (λ (m : PeerMessage). on_message m c.args.now c.args.stamp c.args.reason c.args.text (view c.args.self) c.args.binding) c.in-UnsequencedHeartbeat.is) c.on_unsequenced_heartbeat.ensures

pub returns-in-RetransmitRequest : goal.returns-in-RetransmitRequest
returns-in-RetransmitRequest c = rw (ap (λ (m : PeerMessage). on_message m c.args.now c.args.stamp c.args.reason c.args.text (view c.args.self) c.args.binding) c.in-RetransmitRequest.is) c.on_retransmit_request.ensures

pub returns-in-Retransmission : goal.returns-in-Retransmission
returns-in-Retransmission c = rw (ap (λ (m : PeerMessage). on_message m c.args.now c.args.stamp c.args.reason c.args.text (view c.args.self) c.args.binding) c.in-Retransmission.is) c.on_retransmission.ensures

pub returns-in-RetransmitReject : goal.returns-in-RetransmitReject
returns-in-RetransmitReject c = rw (ap (λ (m : PeerMessage). on_message m c.args.now c.args.stamp c.args.reason c.args.text (view c.args.self) c.args.binding) c.in-RetransmitReject.is) c.on_retransmit_reject.ensures

pub returns-in-Terminate : goal.returns-in-Terminate
returns-in-Terminate c = rw (ap (λ (m : PeerMessage). on_message m c.args.now c.args.stamp c.args.reason c.args.text (view c.args.self) c.args.binding) c.in-Terminate.is) c.on_terminate.ensures

pub returns-in-FinishedSending : goal.returns-in-FinishedSending
returns-in-FinishedSending c = rw (ap (λ (m : PeerMessage). on_message m c.args.now c.args.stamp c.args.reason c.args.text (view c.args.self) c.args.binding) c.in-FinishedSending.is) c.on_finished_sending.ensures

pub returns-in-FinishedReceiving : goal.returns-in-FinishedReceiving
returns-in-FinishedReceiving c = rw (ap (λ (m : PeerMessage). on_message m c.args.now c.args.stamp c.args.reason c.args.text (view c.args.self) c.args.binding) c.in-FinishedReceiving.is) c.violation-in-FinishedReceiving.ensures

pub returns-in-Applied : goal.returns-in-Applied
returns-in-Applied c = rw (ap (λ (m : PeerMessage). on_message m c.args.now c.args.stamp c.args.reason c.args.text (view c.args.self) c.args.binding) c.in-Applied.is) c.on_applied.ensures

pub returns-in-NotApplied : goal.returns-in-NotApplied
returns-in-NotApplied c = rw (ap (λ (m : PeerMessage). on_message m c.args.now c.args.stamp c.args.reason c.args.text (view c.args.self) c.args.binding) c.in-NotApplied.is) c.on_not_applied.ensures

pub returns-in-MessageTemplate : goal.returns-in-MessageTemplate
returns-in-MessageTemplate c = rw (ap (λ (m : PeerMessage). on_message m c.args.now c.args.stamp c.args.reason c.args.text (view c.args.self) c.args.binding) c.in-MessageTemplate.is) c.stay.ensures
