-- The output that a plain one stands for, and the plain form of each: the kind of the trace record for what is sent, 1 CloseTransport, events 101 to 113.
use Rattle.std.specs.Prelude.{ℕ, Bool, true, false, ◌&&◌, List, [], ◌∷◌, map, eqb, if◌then◌else◌}
use Rattle.types.specs.Flows.{termination_number, rejection_number, by_number, name_number}
use Rattle.types.specs.Reasons.{no_text}
use Rattle.rules.specs.Names.{SessionMessage, Event, Said, Output, SeqNum, Nanotime}
use Rattle.rules.specs.Names.message
use Rattle.rules.specs.Names.event
use Rattle.rules.specs.Names.said
use Rattle.queue.specs.declared.Outputs.{Outputs}
use Rattle.library.specs.declared.mirror.Id.{Id}
use Rattle.library.specs.declared.mirror.Number.{Number}
use Rattle.library.specs.declared.mirror.Out.{Out}
use Rattle.library.specs.declared.mirror.Queue.{Queue}
use Rattle.library.specs.Numbers.{is_listed, termination_in, rejection_in, by_in, name_in, is_name_number}
use Rattle.library.specs.Parts.{no_number, seq_in, seq_out, id_in, id_out, text_in, text_out}

-- ---- to plain numbers
-- kind, code, by, count, id, stamp, number, length, seq
abbrev pub out_of : ℕ → ℕ → ℕ → ℕ → Id → ℕ → ℕ → ℕ → Number → Out
out_of kind code by count id stamp number length seq =
    record {
      kind = kind;
      code = code;
      by = by;
      reason = 0;
      count = count;
      id = id;
      stamp = stamp;
      number = number;
      length = length;
      seq = seq;
      text = text_out no_text;
    }

abbrev pub nil_id : Id
nil_id = record { low = 0; high = 0 }

abbrev pub bare_out : ℕ → Out
bare_out kind = out_of kind 1 1 0 nil_id 0 0 0 no_number

abbrev pub coded_out : ℕ → ℕ → Out
coded_out kind code = out_of kind code 1 0 nil_id 0 0 0 no_number

abbrev pub counted_out : ℕ → SeqNum → ℕ → Out
counted_out kind number count = out_of kind 1 1 count nil_id 0 number.0 0 no_number

abbrev pub message_out : SessionMessage → Out
message_out (message.Sequence m) = counted_out 32 m.next_seq_no 0
message_out message.UnsequencedHeartbeat = bare_out 34
message_out (message.RetransmitRequest m) = out_of 35 1 1 m.count (id_out m.session_id) m.timestamp.0 m.from_seq_no.0 0 no_number
message_out (message.Retransmission m) = out_of 36 1 1 m.count (id_out m.session_id) m.request_timestamp.0 m.next_seq_no.0 0 no_number
message_out (message.RetransmitReject m) = out_of 37 (rejection_number m.code) 1 0 (id_out m.session_id) m.request_timestamp.0 0 0 no_number
message_out (message.Terminate m) = out_of 38 (termination_number m.code) 1 0 (id_out m.session_id) 0 0 0 no_number
message_out (message.FinishedReceiving m) = out_of 40 1 1 0 (id_out m.session_id) 0 0 0 no_number

abbrev pub event_out : Event → Out
event_out (event.Refused n) = coded_out 101 (name_number n)
event_out (event.SequenceGap from count) = out_of 102 1 1 0 nil_id 0 from.0 count no_number
event_out event.RecoveryComplete = bare_out 103
event_out (event.RetransmitRequested from count) = counted_out 104 from count
event_out (event.RetransmitRejected from count k) = out_of 105 (rejection_number k) 1 count nil_id 0 from.0 0 no_number
event_out (event.RetransmitTimedOut from count) = counted_out 106 from count
event_out (event.NotApplied from count) = counted_out 107 from count
event_out (event.Applied from count) = counted_out 108 from count
event_out (event.Terminated k b) = out_of 109 (termination_number k) (by_number b) 0 nil_id 0 0 0 no_number
event_out event.KeepaliveLapsed = bare_out 110
event_out event.ProtocolViolation = bare_out 111
event_out (event.PeerFinishedSending last) = out_of 112 1 1 0 nil_id 0 0 0 (seq_out last)
event_out (event.Ignored n) = coded_out 113 (name_number n)

abbrev pub said_out : Said → Out
said_out (said.Send m) = message_out m
said_out (said.SendApplication n m) = out_of 42 1 1 m.count nil_id 0 m.from_seq_no.0 0 (seq_out n)
said_out said.CloseTransport = bare_out 1
said_out (said.Event e) = event_out e

abbrev pub output_from : Out → Output → Out
output_from o x =
    record {
      kind = o.kind;
      code = o.code;
      by = o.by;
      reason = x.reason;
      count = o.count;
      id = o.id;
      stamp = o.stamp;
      number = o.number;
      length = o.length;
      seq = o.seq;
      text = text_out x.text;
    }

abbrev pub output_out : Output → Out
output_out x = output_from (said_out x.said) x

abbrev pub queue_out : Outputs → Queue
queue_out q = record { slots = map output_out q.slots; head = q.head; count = q.count; closing = q.closing }

-- ---- from plain numbers
abbrev pub number_in : Out → SeqNum
number_in o = record { 0 = o.number }

abbrev pub stamp_in : Out → Nanotime
stamp_in o = record { 0 = o.stamp }

-- a kind of no output reads as CloseTransport: `is_said` turns it away before
unfoldable pub said_in : Out → Said
said_in o =
    if eqb o.kind 32 then said.Send (message.Sequence (record { next_seq_no = number_in o }))
    else (if eqb o.kind 34 then said.Send message.UnsequencedHeartbeat
    else (if eqb o.kind 35 then said.Send (message.RetransmitRequest (record { session_id = id_in o.id; timestamp = stamp_in o; from_seq_no = number_in o; count = o.count }))
    else (if eqb o.kind 36 then said.Send (message.Retransmission (record { session_id = id_in o.id; request_timestamp = stamp_in o; next_seq_no = number_in o; count = o.count }))
    else (if eqb o.kind 37 then said.Send (message.RetransmitReject (record { session_id = id_in o.id; request_timestamp = stamp_in o; code = rejection_in o.code }))
    else (if eqb o.kind 38 then said.Send (message.Terminate (record { session_id = id_in o.id; code = termination_in o.code }))
    else (if eqb o.kind 40 then said.Send (message.FinishedReceiving (record { session_id = id_in o.id }))
    else (if eqb o.kind 42 then said.SendApplication (seq_in o.seq) (record { from_seq_no = number_in o; count = o.count })
    else (if eqb o.kind 101 then said.Event (event.Refused (name_in o.code))
    else (if eqb o.kind 102 then said.Event (event.SequenceGap (number_in o) o.length)
    else (if eqb o.kind 103 then said.Event event.RecoveryComplete
    else (if eqb o.kind 104 then said.Event (event.RetransmitRequested (number_in o) o.count)
    else (if eqb o.kind 105 then said.Event (event.RetransmitRejected (number_in o) o.count (rejection_in o.code))
    else (if eqb o.kind 106 then said.Event (event.RetransmitTimedOut (number_in o) o.count)
    else (if eqb o.kind 107 then said.Event (event.NotApplied (number_in o) o.count)
    else (if eqb o.kind 108 then said.Event (event.Applied (number_in o) o.count)
    else (if eqb o.kind 109 then said.Event (event.Terminated (termination_in o.code) (by_in o.by))
    else (if eqb o.kind 110 then said.Event event.KeepaliveLapsed
    else (if eqb o.kind 111 then said.Event event.ProtocolViolation
    else (if eqb o.kind 112 then said.Event (event.PeerFinishedSending (seq_in o.seq))
    else (if eqb o.kind 113 then said.Event (event.Ignored (name_in o.code))
    else said.CloseTransport))))))))))))))))))))

-- whether kind and code are of their lists
unfoldable pub is_said : Out → Bool
is_said o =
    if eqb o.kind 1 then true
    else (if eqb o.kind 32 then true
    else (if eqb o.kind 34 then true
    else (if eqb o.kind 35 then true
    else (if eqb o.kind 36 then true
    else (if eqb o.kind 37 then is_listed o.code 3
    else (if eqb o.kind 38 then is_listed o.code 4
    else (if eqb o.kind 40 then true
    else (if eqb o.kind 42 then true
    else (if eqb o.kind 101 then is_name_number o.code
    else (if eqb o.kind 102 then true
    else (if eqb o.kind 103 then true
    else (if eqb o.kind 104 then true
    else (if eqb o.kind 105 then is_listed o.code 3
    else (if eqb o.kind 106 then true
    else (if eqb o.kind 107 then true
    else (if eqb o.kind 108 then true
    else (if eqb o.kind 109 then is_listed o.by 2 && is_listed o.code 4
    else (if eqb o.kind 110 then true
    else (if eqb o.kind 111 then true
    else (if eqb o.kind 112 then true
    else (if eqb o.kind 113 then is_name_number o.code
    else false)))))))))))))))))))))

abbrev pub all_said : List Out → Bool
all_said [] = true
all_said (o ∷ l) = is_said o && all_said l

abbrev pub output_in : Out → Output
output_in o = record { said = said_in o; reason = o.reason; text = text_in o.text }

abbrev pub queue_in : Queue → Outputs
queue_in q = record { slots = map output_in q.slots; head = q.head; count = q.count; closing = q.closing }
