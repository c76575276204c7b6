-- Which bytes are a record of the trace, and what it means (01, "Trace program"). A number past the end reads 0: a length decides first.
use Rattle.std.specs.Prelude.{ℕ, zero, suc, ◌+◌, ◌*◌, ◌-◌, Bool, ◌&&◌, List, [], ◌∷◌, length, get_or, leb, eqb, if◌then◌else◌, Option, Some, None, Result, Ok, Err}
use Rattle.types.specs.Base.{all_ones}
use Rattle.types.specs.Codes.{flow_of, termination_of, rejection_of, policy_of}
use Rattle.types.specs.declared.codes.Unlisted.{Unlisted}
use Rattle.types.specs.Reasons.{no_text, max_reason_len}
use Rattle.rules.specs.Names.{SeqNum, Nanotime, SessionId, RetransmitStallPolicy, FixpConfig, Reason, PeerMessage}
use Rattle.rules.specs.Names.peer
use Rattle.trace.specs.declared.records.Entry.{Entry}
use Rattle.trace.specs.declared.records.Entry.TheVariants as entry
use Rattle.trace.specs.declared.records.Record.{Record}

-- ---- numbers: "all little-endian"
-- the number of k bytes from a place on
unfoldable pub number_at : ℕ → List ℕ → ℕ → ℕ
number_at zero s at = 0
number_at (suc k) s at = get_or s at 0 + 256 * number_at k s (at + 1)

-- n bytes from a place on
unfoldable pub bytes_at : ℕ → List ℕ → ℕ → List ℕ
bytes_at zero s at = []
bytes_at (suc n) s at = get_or s at 0 ∷ bytes_at n s (at + 1)

-- "codes one, numbers with no width given u64"
abbrev pub code_at : List ℕ → ℕ → ℕ
code_at s at = get_or s at 0

abbrev pub u16_at : List ℕ → ℕ → ℕ
u16_at s at = number_at 2 s at

abbrev pub u32_at : List ℕ → ℕ → ℕ
u32_at s at = number_at 4 s at

abbrev pub u64_at : List ℕ → ℕ → ℕ
u64_at s at = number_at 8 s at

abbrev pub seq_at : List ℕ → ℕ → SeqNum
seq_at s at = record { 0 = u64_at s at }

abbrev pub stamp_at : List ℕ → ℕ → Nanotime
stamp_at s at = record { 0 = u64_at s at }

-- "ids are 16 bytes": two halves
abbrev pub id_at : List ℕ → ℕ → SessionId
id_at s at = record { 0 = u64_at s at; 1 = u64_at s (at + 8) }

-- "All ones means absent only in bind's next, FinishedSending's last, open's grace"
unfoldable pub maybe_seq : ℕ → Option SeqNum
maybe_seq n = if eqb n all_ones then None else Some (record { 0 = n })

unfoldable pub maybe_duration : ℕ → Option ℕ
maybe_duration n = if eqb n all_ones then None else Some n

-- "Reasons fill the rest of the record": its true length, and as many of its bytes as there is room for
unfoldable pub reason_at : List ℕ → ℕ → Reason
reason_at s at = record { bytes = bytes_at max_reason_len s at; len = length s - at }

-- ---- codes: "A code outside its list makes the record malformed."
abbrev pub with_code : {A : Type 0} → Result A Unlisted → (A → Entry) → Entry
with_code (Ok c) k = k c
with_code (Err u) k = entry.Malformed

-- ---- bodies: they start at 20, after length, kind, instant and stamp
abbrev pub header : ℕ
header = 20

-- "id, local flow, remote flow, max_gap_len u64, max_retransmit_count u32, max_pending_gaps u16, timeout u64, grace u64, policy"
unfoldable pub config_at : List ℕ → RetransmitStallPolicy → FixpConfig
config_at s p =
    record {
      max_gap_len = u64_at s 38;
      max_retransmit_count = u32_at s 46;
      max_pending_gaps = u16_at s 50;
      retransmit_timeout = u64_at s 52;
      peer_silence_grace = maybe_duration (u64_at s 60);
      retransmit_stall_policy = p;
    }

unfoldable pub open_of : List ℕ → Entry
open_of s =
    with_code (flow_of (code_at s 36)) (λ local.
    with_code (flow_of (code_at s 37)) (λ remote.
    with_code (policy_of (code_at s 68)) (λ p. entry.Open (id_at s 20) local remote (config_at s p))))

-- "local keepalive, remote keepalive, next (u64 each)"
unfoldable pub bind_of : List ℕ → Entry
bind_of s = entry.Bind (u64_at s 20) (u64_at s 28) (maybe_seq (u64_at s 36))

-- "next"
abbrev pub sequence_of : List ℕ → PeerMessage
sequence_of s = peer.Sequence (record { next_seq_no = seq_at s 20 })

-- "id, next"
abbrev pub context_of : List ℕ → PeerMessage
context_of s = peer.Context (record { session_id = id_at s 20; next_seq_no = seq_at s 36 })

-- "id, stamp, number, count u32"
abbrev pub request_of : List ℕ → PeerMessage
request_of s = peer.RetransmitRequest (record { session_id = id_at s 20; timestamp = stamp_at s 36; from_seq_no = seq_at s 44; count = u32_at s 52 })

abbrev pub retransmission_of : List ℕ → PeerMessage
retransmission_of s = peer.Retransmission (record { session_id = id_at s 20; request_timestamp = stamp_at s 36; next_seq_no = seq_at s 44; count = u32_at s 52 })

-- "id, stamp, code, reason"
unfoldable pub peer_reject_of : List ℕ → Entry
peer_reject_of s =
    with_code (rejection_of (code_at s 44)) (λ c.
    entry.Peer (peer.RetransmitReject (record { session_id = id_at s 20; request_timestamp = stamp_at s 36; code = c })))

-- "id, code, reason"
unfoldable pub peer_terminate_of : List ℕ → Entry
peer_terminate_of s =
    with_code (termination_of (code_at s 36)) (λ c.
    entry.Peer (peer.Terminate (record { session_id = id_at s 20; code = c })))

-- "id, last"
abbrev pub finished_of : List ℕ → PeerMessage
finished_of s = peer.FinishedSending (record { session_id = id_at s 20; last_seq_no = maybe_seq (u64_at s 36) })

-- "from, count u32"
abbrev pub applied_of : List ℕ → PeerMessage
applied_of s = peer.Applied (record { from_seq_no = seq_at s 20; count = u32_at s 28 })

abbrev pub not_applied_of : List ℕ → PeerMessage
not_applied_of s = peer.NotApplied (record { from_seq_no = seq_at s 20; count = u32_at s 28 })

-- "code, reason"
unfoldable pub terminate_of : List ℕ → Entry
terminate_of s = with_code (termination_of (code_at s 20)) entry.Terminate

unfoldable pub reject_of : List ℕ → Entry
reject_of s = with_code (rejection_of (code_at s 20)) entry.Reject

-- ---- the table of kinds, with the length of each body
-- a record of n bytes is as long as its kind says
unfoldable pub exactly : ℕ → ℕ → Entry → Entry
exactly whole n e = if eqb n whole then e else entry.Malformed

-- or longer: a reason fills the rest
unfoldable pub at_least : ℕ → ℕ → Entry → Entry
at_least whole n e = if leb whole n then e else entry.Malformed

-- the messages of the peer
unfoldable pub peer_of : ℕ → List ℕ → Entry
peer_of kind s =
    if eqb kind 32 then exactly (header + 8) (length s) (entry.Peer (sequence_of s))
    else (if eqb kind 33 then exactly (header + 24) (length s) (entry.Peer (context_of s))
    else (if eqb kind 34 then exactly (header + 0) (length s) (entry.Peer peer.UnsequencedHeartbeat)
    else (if eqb kind 35 then exactly (header + 36) (length s) (entry.Peer (request_of s))
    else (if eqb kind 36 then exactly (header + 36) (length s) (entry.Peer (retransmission_of s))
    else (if eqb kind 37 then at_least (header + 25) (length s) (peer_reject_of s)
    else (if eqb kind 38 then at_least (header + 17) (length s) (peer_terminate_of s)
    else (if eqb kind 39 then exactly (header + 24) (length s) (entry.Peer (finished_of s))
    else (if eqb kind 40 then exactly (header + 16) (length s) (entry.Peer peer.FinishedReceiving)
    else (if eqb kind 41 then exactly (header + 12) (length s) (entry.Peer (applied_of s))
    else (if eqb kind 42 then exactly (header + 12) (length s) (entry.Peer (not_applied_of s))
    else (if eqb kind 43 then exactly (header + 0) (length s) (entry.Peer peer.Topic)
    else (if eqb kind 44 then exactly (header + 0) (length s) (entry.Peer peer.MessageTemplate)
    else entry.Malformed))))))))))))

-- the calls, and any other kind
unfoldable pub entry_of : ℕ → List ℕ → Entry
entry_of kind s =
    if eqb kind 1 then exactly (header + 49) (length s) (open_of s)
    else (if eqb kind 2 then exactly (header + 24) (length s) (bind_of s)
    else (if eqb kind 3 then exactly (header + 0) (length s) entry.Release
    else (if eqb kind 4 then exactly (header + 0) (length s) entry.Application
    else (if eqb kind 64 then exactly (header + 0) (length s) entry.Send
    else (if eqb kind 65 then at_least (header + 1) (length s) (terminate_of s)
    else (if eqb kind 66 then exactly (header + 4) (length s) (entry.Retransmit (u32_at s 20))
    else (if eqb kind 67 then at_least (header + 1) (length s) (reject_of s)
    else (if eqb kind 68 then exactly (header + 0) (length s) entry.End
    else (if eqb kind 69 then exactly (header + 0) (length s) entry.Timeout
    else peer_of kind s)))))))))

-- where a reason starts, in the kinds that have one
unfoldable pub reason_of : ℕ → List ℕ → Reason
reason_of kind s =
    if eqb kind 37 then reason_at s 45
    else (if eqb kind 38 then reason_at s 37
    else (if eqb kind 65 then reason_at s 21
    else (if eqb kind 67 then reason_at s 21
    else no_text)))

-- ---- a record: "length (u16, whole record), kind (u16), instant (u64), stamp (u64), body"
-- s is as long as its first two bytes say, and has a header
unfoldable pub framed : List ℕ → Bool
framed s = leb header (length s) && eqb (u16_at s 0) (length s)

-- what the bytes say: Malformed, or the record that they are
unfoldable pub decode : List ℕ → Record
decode s =
    record {
      entry = if framed s then entry_of (u16_at s 2) s else entry.Malformed;
      now = record { 0 = u64_at s 4 };
      stamp = stamp_at s 12;
      reason = reason_of (u16_at s 2) s;
    }
