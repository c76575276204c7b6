-- Worked examples of 01's format and lines, both sides of each edge: each holds by computing.
use Rattle.std.specs.Prelude.{ℕ, zero, suc, ◌+◌, ◌/◌, ◌%◌, ◌≡◌, refl, true, false, List, [], ◌∷◌, ◌++◌, length, replicate, Option, Some, None, Ok, Err}
use Rattle.types.specs.Base.{all_ones}
use Rattle.types.specs.Codes.{flow_of, termination_of, rejection_of, policy_of}
use Rattle.rules.specs.Names.{SeqNum, SessionId}
use Rattle.rules.specs.Names.flow
use Rattle.rules.specs.Names.code
use Rattle.rules.specs.Names.rejection
use Rattle.rules.specs.Names.policy
use Rattle.rules.specs.Names.peer
use Rattle.rules.specs.Names.status
use Rattle.rules.specs.Names.refusal
use Rattle.rules.specs.Names.delivery
use Rattle.rules.specs.Names.verdict
use Rattle.trace.specs.declared.records.Entry.{Entry}
use Rattle.trace.specs.declared.records.Entry.TheVariants as entry
use Rattle.trace.specs.Format.{number_at, bytes_at, maybe_seq, maybe_duration, reason_at}
use Rattle.trace.specs.Format.{config_at, open_of, bind_of, peer_reject_of, peer_terminate_of, terminate_of, reject_of, exactly, at_least}
use Rattle.trace.specs.Format.{peer_of, entry_of, reason_of, framed, decode}
use Rattle.trace.specs.Places.{size_at}
use Rattle.trace.specs.Ascii.{ascii}
use Rattle.trace.specs.Text.{digits, line_text, end_text}

-- ---- records
-- k bytes of a number, little-endian
abbrev little : ℕ → ℕ → List ℕ
little zero n = []
little (suc k) n = n % 256 ∷ little k (n / 256)

-- a record of a kind at instant 5 with stamp 7 and this body
abbrev recorded : ℕ → List ℕ → List ℕ
recorded kind body = little 2 (20 + length body) ++ little 2 kind ++ little 8 5 ++ little 8 7 ++ body

-- the id whose bytes are 1 to 16
abbrev id : List ℕ
id = little 8 578437695752307201 ++ little 8 1157159078456920585

abbrev the_id : SessionId
the_id = record { 0 = 578437695752307201; 1 = 1157159078456920585 }

-- an open with these three codes and no grace
abbrev open_with : ℕ → ℕ → ℕ → List ℕ
open_with local remote stall = id ++ (local ∷ remote ∷ []) ++ little 8 100 ++ little 4 10 ++ little 2 2 ++ little 8 1000 ++ little 8 all_ones ++ (stall ∷ [])

record Case : Type 0 where
  kind : ℕ
  body : List ℕ
  means : Entry

abbrev AllRight : List Case → Type 0
AllRight [] = Unit {0}
AllRight (c ∷ cs) = ((decode (recorded c.kind c.body)).entry ≡ c.means) × AllRight cs

abbrev case : ℕ → List ℕ → Entry → Case
case kind body e = record { kind = kind; body = body; means = e }

abbrev table : List Case
table =
    -- "All ones means absent only in bind's next, FinishedSending's last, open's grace"
    case 2 (little 8 1 ++ little 8 2 ++ little 8 all_ones) (entry.Bind 1 2 None)
    ∷ case 2 (little 8 1 ++ little 8 2 ++ little 8 18446744073709551614) (entry.Bind 1 2 (Some (record { 0 = 18446744073709551614 })))
    ∷ case 32 (little 8 all_ones) (entry.Peer (peer.Sequence (record { next_seq_no = record { 0 = all_ones } })))
    ∷ case 33 (id ++ little 8 all_ones) (entry.Peer (peer.Context (record { session_id = the_id; next_seq_no = record { 0 = all_ones } })))
    ∷ case 39 (id ++ little 8 all_ones) (entry.Peer (peer.FinishedSending (record { session_id = the_id; last_seq_no = None })))
    ∷ case 1 (open_with 1 4 4) (entry.Open the_id flow.Recoverable flow.None (record { max_gap_len = 100; max_retransmit_count = 10; max_pending_gaps = 2; retransmit_timeout = 1000; peer_silence_grace = None; retransmit_stall_policy = policy.EventOnly }))
    -- "A code outside its list makes the record malformed."
    ∷ case 1 (open_with 0 4 4) entry.Malformed
    ∷ case 1 (open_with 1 5 4) entry.Malformed
    ∷ case 1 (open_with 1 4 5) entry.Malformed
    ∷ case 65 (4 ∷ []) (entry.Terminate code.ReRequestInProgress)
    ∷ case 65 (5 ∷ []) entry.Malformed
    ∷ case 67 (3 ∷ ascii "late") (entry.Reject rejection.RequestLimitExceeded)
    ∷ case 67 (4 ∷ ascii "late") entry.Malformed
    -- a length other than the kind's; an unknown kind
    ∷ case 66 (little 4 4294967295) (entry.Retransmit 4294967295)
    ∷ case 66 (little 3 1) entry.Malformed
    ∷ case 66 (little 5 1) entry.Malformed
    ∷ case 38 id entry.Malformed
    ∷ case 38 (id ++ (1 ∷ [])) (entry.Peer (peer.Terminate (record { session_id = the_id; code = code.Finished })))
    ∷ case 5 [] entry.Malformed
    ∷ case 69 [] entry.Timeout
    ∷ case 70 [] entry.Malformed
    ∷ []

decoded : AllRight table
unfolding number_at maybe_seq maybe_duration flow_of termination_of rejection_of policy_of config_at open_of bind_of peer_reject_of peer_terminate_of terminate_of reject_of exactly at_least peer_of entry_of framed decode
decoded = (refl, (refl, (refl, (refl, (refl, (refl, (refl, (refl, (refl, (refl, (refl, (refl, (refl, (refl, (refl, (refl, (refl, (refl, (refl, (refl, (refl, tt)))))))))))))))))))))

-- instant and stamp, and a reason past its room: its true length, and the bytes that there is room for
headed : ((decode (recorded 65 (1 ∷ replicate 65 9))).now.0 ≡ 5) × ((decode (recorded 65 (1 ∷ replicate 65 9))).stamp.0 ≡ 7)
unfolding number_at decode
headed = (refl, refl)

long-reason : ((decode (recorded 65 (1 ∷ replicate 65 9))).reason.len ≡ 65) × ((decode (recorded 65 (1 ∷ replicate 65 9))).reason.bytes ≡ replicate 64 9)
unfolding number_at bytes_at reason_at reason_of decode
long-reason = (refl, refl)

-- a torn tail, a record that runs past the end, and one under a header
torn : (size_at (recorded 3 [] ++ (20 ∷ [])) 0 ≡ 20) × (size_at (recorded 3 [] ++ (20 ∷ [])) 20 ≡ 0) × (size_at (20 ∷ 0 ∷ replicate 17 0) 0 ≡ 0) × (size_at (19 ∷ 0 ∷ replicate 18 0) 0 ≡ 0)
unfolding number_at size_at
torn = (refl, refl, refl, refl)

-- ---- lines: of 01's sample, and the two ends of the rest
abbrev seq_of : ℕ → Option SeqNum
seq_of n = Some (record { 0 = n })

lines :
    (line_text 0 (Ok verdict.Done) status.Unbound (seq_of 1) 0 0 ≡ ascii "0 ok unbound 1 0 0\n")
    × (line_text 2 (Ok (verdict.Delivered (delivery.Accept (seq_of 1) false))) status.Established (seq_of 2) 0 0 ≡ ascii "2 accept:1 established 2 0 0\n")
    × (line_text 3 (Ok verdict.Done) status.Established (seq_of 4) 1 2 ≡ ascii "3 ok established 4 1 2\n")
    × (line_text 6 (Ok (verdict.Delivered (delivery.Accept (seq_of 3) true))) status.Established (seq_of 4) 0 1 ≡ ascii "6 replay:3 established 4 0 1\n")
    × (line_text 0 (Err refusal.BadConfig) status.Unbound None 0 0 ≡ ascii "0 refused:2 unbound - 0 0\n")
    × (line_text 10 (Ok (verdict.Delivered delivery.Discard)) status.Terminating None 64 6 ≡ ascii "10 discard terminating - 64 6\n")
    × (line_text 99 (Ok (verdict.Sent None)) status.Closing (seq_of 100) 0 0 ≡ ascii "99 sent closing 100 0 0\n")
    × (line_text 1 (Ok (verdict.Batch (record { from = record { 0 = 18446744073709551615 }; count = 4294967295 }))) status.Established None 0 2 ≡ ascii "1 batch:18446744073709551615:4294967295 established - 0 2\n")
    × (end_text 0 ≡ ascii "end missing 0\n")
unfolding digits line_text
lines = (refl, refl, refl, refl, refl, refl, refl, refl, refl)
