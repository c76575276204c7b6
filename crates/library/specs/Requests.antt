-- The call that a request's numbers stand for (01, "Trace program"): the kinds of the trace's records.
use Rattle.std.specs.Prelude.{ℕ, leb, eqb, if◌then◌else◌}
use Rattle.rules.specs.Names.{SeqNum, Nanotime, PeerMessage}
use Rattle.rules.specs.Names.peer
use Rattle.trace.specs.declared.records.Entry.{Entry}
use Rattle.trace.specs.declared.records.Entry.TheVariants as entry
use Rattle.library.specs.declared.mirror.Request.{Request}
use Rattle.library.specs.Numbers.{is_listed, termination_in, rejection_in}
use Rattle.library.specs.Parts.{id_in, seq_in}

abbrev pub number_in : Request → SeqNum
number_in r = record { 0 = r.number }

abbrev pub stamp_in : Request → Nanotime
stamp_in r = record { 0 = r.message_stamp }

-- "32 Sequence: next. 33 Context: id, next. [...] 43 Topic. 44 MessageTemplate."
unfoldable pub message_in : Request → PeerMessage
message_in r =
    if eqb r.kind 32 then peer.Sequence (record { next_seq_no = number_in r })
    else (if eqb r.kind 33 then peer.Context (record { session_id = id_in r.id; next_seq_no = number_in r })
    else (if eqb r.kind 34 then peer.UnsequencedHeartbeat
    else (if eqb r.kind 35 then peer.RetransmitRequest (record { session_id = id_in r.id; timestamp = stamp_in r; from_seq_no = number_in r; count = r.count })
    else (if eqb r.kind 36 then peer.Retransmission (record { session_id = id_in r.id; request_timestamp = stamp_in r; next_seq_no = number_in r; count = r.count })
    else (if eqb r.kind 37 then peer.RetransmitReject (record { session_id = id_in r.id; request_timestamp = stamp_in r; code = rejection_in r.code })
    else (if eqb r.kind 38 then peer.Terminate (record { session_id = id_in r.id; code = termination_in r.code })
    else (if eqb r.kind 39 then peer.FinishedSending (record { session_id = id_in r.id; last_seq_no = seq_in r.seq })
    else (if eqb r.kind 40 then peer.FinishedReceiving
    else (if eqb r.kind 41 then peer.Applied (record { from_seq_no = number_in r; count = r.count })
    else (if eqb r.kind 42 then peer.NotApplied (record { from_seq_no = number_in r; count = r.count })
    else (if eqb r.kind 43 then peer.Topic
    else peer.MessageTemplate)))))))))))

-- a code outside its list is Malformed
abbrev pub coded_in : ℕ → ℕ → Entry → Entry
coded_in code last e = if is_listed code last then e else entry.Malformed

unfoldable pub peer_in : Request → Entry
peer_in r =
    if leb 32 r.kind then
    if leb r.kind 44 then
    if eqb r.kind 37 then coded_in r.code 3 (entry.Peer (message_in r))
    else (if eqb r.kind 38 then coded_in r.code 4 (entry.Peer (message_in r))
    else entry.Peer (message_in r))
    else entry.Malformed
    else entry.Malformed

-- "2 bind: [...]. 3 release. 4 application. [...] 64 send. 65 terminate, 67 reject: code, reason. 66 retransmit: u32. 68 end. 69 timeout."
unfoldable pub entry_in : Request → Entry
entry_in r =
    if eqb r.kind 2 then entry.Bind r.local_keepalive r.remote_keepalive (seq_in r.seq)
    else (if eqb r.kind 3 then entry.Release
    else (if eqb r.kind 4 then entry.Application
    else (if eqb r.kind 64 then entry.Send
    else (if eqb r.kind 65 then coded_in r.code 4 (entry.Terminate (termination_in r.code))
    else (if eqb r.kind 66 then entry.Retransmit r.count
    else (if eqb r.kind 67 then coded_in r.code 3 (entry.Reject (rejection_in r.code))
    else (if eqb r.kind 68 then entry.End
    else (if eqb r.kind 69 then entry.Timeout
    else peer_in r))))))))
