-- 01's sample, and the inputs that print less: each holds by computing.
use Rattle.std.specs.Prelude.{ℕ, zero, suc, ◌+◌, ◌/◌, ◌%◌, ◌≡◌, refl, List, [], ◌∷◌, ◌++◌, length, replicate}
use Rattle.types.specs.Reasons.{no_text}
use Rattle.rules.specs.State.{queued, saying, answering, and_then}
use Rattle.rules.specs.Gaps.{append_gap, record_gap, received_in_overflow, drop_first, consume_missing}
use Rattle.rules.specs.Ending.{release_binding_state}
use Rattle.rules.specs.Asking.{fewer, ask, request_missing, maybe_finish_receiving, recovered, complete_outstanding, in_range, on_retransmission}
use Rattle.rules.specs.Numbering.{gap_recorded, on_gap, stop_replay, announced, on_next_seq, replay_after, count_delivered, complete_if, replayed_counted, on_replayed, number_live, on_live, on_application}
use Rattle.rules.specs.Binding.{new_session, resume, on_established, bind}
use Rattle.rules.specs.Peer.{on_peer}
use Rattle.rules.specs.Calls.{config_fits, sound, call}
use Rattle.types.specs.Codes.{flow_of, policy_of}
use Rattle.trace.specs.Format.{number_at, bytes_at, maybe_seq, maybe_duration, reason_at, config_at, open_of, bind_of, exactly, at_least, peer_of, entry_of, reason_of, framed, decode}
use Rattle.trace.specs.Places.{size_at}
use Rattle.trace.specs.Ascii.{ascii}
use Rattle.trace.specs.Text.{digits, line_text}
use Rattle.replay.specs.Missing.{at_most}
use Rattle.replay.specs.Run.{records_from, lines_from, trace_text}

-- k bytes of a number, little-endian
abbrev little : ℕ → ℕ → List ℕ
little zero n = []
little (suc k) n = n % 256 ∷ little k (n / 256)

-- "All at instant 0"
abbrev recorded : ℕ → ℕ → List ℕ → List ℕ
recorded kind stamp body = little 2 (20 + length body) ++ little 2 kind ++ little 8 0 ++ little 8 stamp ++ body

abbrev id : List ℕ
id = replicate 16 1

-- "open (both Recoverable, gap 100, count 10, gaps 2)", "durations 1000, policy 1"
abbrev opens : ℕ → List ℕ
opens gaps = recorded 1 0 (id ++ (1 ∷ 1 ∷ []) ++ little 8 100 ++ little 4 10 ++ little 2 gaps ++ little 8 1000 ++ little 8 1000 ++ (1 ∷ []))

abbrev binds : List ℕ
binds = recorded 2 0 (little 8 1000 ++ little 8 1000 ++ little 8 1)

abbrev application : List ℕ
application = recorded 4 0 []

abbrev sequence : ℕ → ℕ → List ℕ
sequence stamp next = recorded 32 stamp (little 8 next)

abbrev retransmission : ℕ → ℕ → ℕ → List ℕ
retransmission stamp from count = recorded 36 0 (id ++ little 8 stamp ++ little 8 from ++ little 4 count)

-- "bind next 1, application, Sequence 4 with stamp 7, Retransmission stamp 7 from 2 count 2, two applications, Sequence 4"
abbrev sample : List ℕ
sample = opens 2 ++ binds ++ application ++ sequence 7 4 ++ retransmission 7 2 2 ++ application ++ application ++ sequence 0 4

pub sample-right : trace_text sample ≡ ascii "fixp-trace 1\n0 ok unbound 1 0 0\n1 ok established 1 0 0\n2 accept:1 established 2 0 0\n3 ok established 4 1 2\n4 ok established 4 1 0\n5 replay:2 established 4 1 0\n6 replay:3 established 4 0 1\n7 ok established 4 0 0\nend missing 0\n"
unfolding number_at bytes_at maybe_seq maybe_duration reason_at flow_of policy_of config_at open_of bind_of exactly at_least peer_of entry_of reason_of framed decode size_at digits line_text at_most records_from lines_from no_text queued saying answering and_then append_gap record_gap received_in_overflow drop_first consume_missing release_binding_state fewer ask request_missing maybe_finish_receiving recovered complete_outstanding in_range on_retransmission gap_recorded on_gap stop_replay announced on_next_seq replay_after count_delivered complete_if replayed_counted on_replayed number_live on_live on_application new_session resume on_established bind on_peer config_fits sound call
sample-right = refl

-- "Empty input prints the first and last line."; a refused open and what stands behind it; a record with no session; a later open; a torn tail
pub ends-right :
    (trace_text [] ≡ ascii "fixp-trace 1\nend missing 0\n")
    × (trace_text (opens 0) ≡ ascii "fixp-trace 1\n0 refused:2 unbound - 0 0\nend missing 0\n")
    × (trace_text (opens 65 ++ application) ≡ ascii "fixp-trace 1\n0 refused:2 unbound - 0 0\nstop 1\n")
    × (trace_text application ≡ ascii "fixp-trace 1\nstop 0\n")
    × (trace_text (opens 2 ++ opens 2) ≡ ascii "fixp-trace 1\n0 ok unbound 1 0 0\nstop 1\n")
    × (trace_text (opens 2 ++ (20 ∷ [])) ≡ ascii "fixp-trace 1\n0 ok unbound 1 0 0\nstop 1\n")
    × (trace_text (opens 2 ++ binds ++ sequence 7 4 ++ application ++ sequence 7 9) ≡ ascii "fixp-trace 1\n0 ok unbound 1 0 0\n1 ok established 1 0 0\n2 ok established 4 1 2\n3 accept:4 established 5 1 0\n4 ok established 9 2 1\nend missing 7\n")
unfolding number_at bytes_at maybe_seq maybe_duration reason_at flow_of policy_of config_at open_of bind_of exactly at_least peer_of entry_of reason_of framed decode size_at digits line_text at_most records_from lines_from no_text queued saying answering and_then append_gap record_gap received_in_overflow drop_first consume_missing release_binding_state fewer ask request_missing maybe_finish_receiving recovered complete_outstanding in_range on_retransmission gap_recorded on_gap stop_replay announced on_next_seq replay_after count_delivered complete_if replayed_counted on_replayed number_live on_live on_application new_session resume on_established bind on_peer config_fits sound call
ends-right = (refl, refl, refl, refl, refl, refl, refl)
