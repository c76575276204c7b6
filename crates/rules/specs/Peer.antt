-- A session message of the peer, by its kind.
use Rattle.std.specs.Prelude.{Bool, true, false, not, [], ◌∷◌, ◌++◌, eqb, if◌then◌else◌, Ok, Err}
use Rattle.types.specs.Base.{all_ones, same_id}
use Rattle.types.specs.Flows.{is_sequenced, is_idempotent}
use Rattle.types.specs.States.{is_closing, with_received}
use Rattle.types.specs.Messages.{name_of}
use Rattle.rules.specs.Names.{Nanotime, Instant, Reason, Context, Event, PeerMessage, Answer, Binding}
use Rattle.rules.specs.Names.peer
use Rattle.rules.specs.Names.event as ev
use Rattle.rules.specs.Names.bound
use Rattle.rules.specs.Names.delivery
use Rattle.rules.specs.Names.verdict
use Rattle.rules.specs.State.{Sess, Did, did, stays, answering}
use Rattle.rules.specs.Outputs.{event, event_with}
use Rattle.rules.specs.Ending.{violation, on_terminate}
use Rattle.rules.specs.Asking.{on_retransmission, on_retransmit_reject}
use Rattle.rules.specs.Numbering.{on_next_seq, on_application, discard}
use Rattle.rules.specs.Serving.{on_retransmit_request}
use Rattle.rules.specs.Finishing.{on_finished_sending}

-- "Context for another session is a violation. Context with 2^64-1 is skipped; Sequence with it is not."
unfoldable pub on_context : Instant → Nanotime → Context → Sess → Binding → Did
on_context now stamp m s b =
    if not (same_id m.session_id s.id) then violation 2 s b else
    (if eqb m.next_seq_no.0 all_ones then stays s b [] else
    on_next_seq now stamp m.next_seq_no s b)

unfoldable pub on_unsequenced_heartbeat : Sess → Binding → Did
on_unsequenced_heartbeat s b =
    if is_sequenced s.remote_flow then violation 3 s b else
    stays s b []

abbrev pub is_accept : Answer → Bool
is_accept (Ok verdict.Done) = false
is_accept (Ok (verdict.Delivered delivery.Discard)) = false
is_accept (Ok (verdict.Delivered (delivery.Accept n r))) = true
is_accept (Ok (verdict.Sent n)) = false
is_accept (Ok (verdict.Batch b)) = false
is_accept (Err r) = false

-- an event that follows everything else of an accepted message
unfoldable pub reporting : Event → Did → Did
reporting e d = if is_accept d.answer then did d.session d.binding (d.outs ++ (event e ∷ [])) d.bound d.answer else d

-- "Applied and NotApplied are numbered as application messages; the event follows everything else of that call."
unfoldable pub on_applied : Instant → Nanotime → Event → Sess → Binding → Did
on_applied now stamp e s b = reporting e (on_application now stamp s b)

unfoldable pub on_not_applied : Instant → Nanotime → Event → Sess → Binding → Did
on_not_applied now stamp e s b =
    if not (is_idempotent s.local_flow) then answering discard (violation 4 s b) else
    on_applied now stamp e s b

-- reason is that of this side's own Terminate; text is that of the message
abbrev pub on_message : PeerMessage → Instant → Nanotime → Reason → Reason → Sess → Binding → Did
on_message peer.Topic now stamp reason text s b = violation 5 s b
on_message (peer.Sequence m) now stamp reason text s b = on_next_seq now stamp m.next_seq_no s b
on_message (peer.Context m) now stamp reason text s b = on_context now stamp m s b
on_message peer.UnsequencedHeartbeat now stamp reason text s b = on_unsequenced_heartbeat s b
on_message (peer.RetransmitRequest m) now stamp reason text s b = on_retransmit_request m s b
on_message (peer.Retransmission m) now stamp reason text s b = on_retransmission now m s b
on_message (peer.RetransmitReject m) now stamp reason text s b = on_retransmit_reject now stamp m text s b
on_message (peer.Terminate m) now stamp reason text s b = on_terminate now reason m text s b
on_message (peer.FinishedSending m) now stamp reason text s b = on_finished_sending now stamp m s b
on_message peer.FinishedReceiving now stamp reason text s b = violation 6 s b
on_message (peer.Applied m) now stamp reason text s b = on_applied now stamp (ev.Applied m.from_seq_no m.count) s b
on_message (peer.NotApplied m) now stamp reason text s b = on_not_applied now stamp (ev.NotApplied m.from_seq_no m.count) s b
on_message peer.MessageTemplate now stamp reason text s b = stays s b []

-- Applied and NotApplied answer with their delivery
abbrev pub is_delivery : PeerMessage → Bool
is_delivery peer.Topic = false
is_delivery (peer.Sequence m) = false
is_delivery (peer.Context m) = false
is_delivery peer.UnsequencedHeartbeat = false
is_delivery (peer.RetransmitRequest m) = false
is_delivery (peer.Retransmission m) = false
is_delivery (peer.RetransmitReject m) = false
is_delivery (peer.Terminate m) = false
is_delivery (peer.FinishedSending m) = false
is_delivery peer.FinishedReceiving = false
is_delivery (peer.Applied m) = true
is_delivery (peer.NotApplied m) = true
is_delivery peer.MessageTemplate = false

-- "Closing ignores every peer and application message and leaves `last_received`; otherwise that becomes now first."
unfoldable pub on_peer : PeerMessage → Instant → Nanotime → Reason → Reason → Sess → Binding → Did
on_peer m now stamp reason text s b =
    if is_closing b.state then did s b (event_with (ev.Ignored (name_of m)) 1 ∷ []) bound.Stay (if is_delivery m then discard else (Ok verdict.Done)) else
    on_message m now stamp reason text s (with_received now b)
