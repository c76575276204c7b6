-- 01's nine edges, both sides of each, as one table with one theorem: each row holds by computing the calls' own rules.
use Rattle.std.specs.Prelude.{ℕ, zero, suc, ◌+◌, refl, List, [], ◌∷◌, Some}
use Rattle.types.specs.Base.{deadline_at}
use Rattle.types.specs.Reasons.{no_text}
use Rattle.rules.specs.Names.{Output}
use Rattle.rules.specs.Names.status
use Rattle.rules.specs.Names.rejection
use Rattle.rules.specs.Names.policy
use Rattle.rules.specs.Names.name
use Rattle.rules.specs.Names.message
use Rattle.rules.specs.Names.event as ev
use Rattle.rules.specs.State.{with_outbound, queued, saying, answering, and_then}
use Rattle.rules.specs.Outputs.{event, send_with, event_with}
use Rattle.rules.specs.Gaps.{append_gap, record_gap, later_of, widen, hold_refused_gap, consume_missing}
use Rattle.rules.specs.Ending.{release_binding_state, fail, violation}
use Rattle.rules.specs.Asking.{fewer, ask, request_missing, maybe_finish_receiving}
use Rattle.rules.specs.Numbering.{allocate_outbound, gap_held, gap_recorded, on_gap, stop_replay, announced, on_next_seq, number_live, on_live, on_application}
use Rattle.rules.specs.Serving.{refuse_retransmit, is_sent, serve, on_retransmit_request}
use Rattle.rules.specs.Finishing.{finished_with, finished_sending, on_finished_sending}
use Rattle.rules.specs.Binding.{new_session, resume, on_established, bind}
use Rattle.rules.specs.Peer.{on_context, on_peer}
use Rattle.rules.specs.Local.{send_refused, send_application}
use Rattle.rules.specs.Answers.{ok, accept, discard, sent, refused}
use Rattle.rules.specs.Calls.{World, world, Call, config_fits, sound, call}
use Rattle.rules.specs.Worked.{Case, case, line, AllRight, ran, num, range, self, stamped, new, new_with, joins, binds, sequence, finishes, asks, arrives, sends, times, violates, gap_seen, requests, announces}

-- a world made, not reached: its next outbound number is n
abbrev sending_at : ℕ → World → World
sending_at n w = world (with_outbound (num n) w.session) w.link w.queue

-- the peer's request is rejected for its range: reason 33
abbrev range_refused : List Output
range_refused = send_with (message.RetransmitReject (record { session_id = self; request_timestamp = stamped 9; code = rejection.OutOfRange })) 33 ∷ event_with (ev.Refused name.RetransmitReject) 33 ∷ []

abbrev finish_seen : ℕ → Output
finish_seen last = event (ev.PeerFinishedSending (Some (num last)))

-- of a bound session that expects 1: 1, 3 and 5 arrive, 2 and 4 are gaps
abbrev two_gaps : List Call → List Call
two_gaps l = binds 1 ∷ arrives ∷ sequence 3 ∷ arrives ∷ sequence 5 ∷ arrives ∷ l

-- n is announced and arrives, n + 1 is lost, and so on, k times
abbrev every_second : ℕ → ℕ → List Call
every_second n zero = []
every_second n (suc k) = binds n ∷ arrives ∷ sequence (n + 2) ∷ every_second (n + 2) k

-- one gap allowed: 1 is the first, 3 is held, and each of the k gaps behind it is joined to that one
abbrev joined : ℕ → List Call
joined k = binds 1 ∷ sequence 2 ∷ arrives ∷ sequence 4 ∷ every_second 4 k

abbrev pub edges : List Case
edges =
    -- "1. New, Sequence 5: expects 5, no gap."
    case new (joins ∷ sequence 5 ∷ []) (line ok status.Established 5 [] 0 0 [])
    -- started: a gap
    ∷ case new (joins ∷ arrives ∷ sequence 5 ∷ []) (line ok status.Established 5 (range 2 5 ∷ []) 0 2 (gap_seen 2 3 ∷ requests 2 3 ∷ []))
    -- "2. New, application: accepts 1."
    ∷ case new (joins ∷ arrives ∷ []) (line (accept (1 ∷ [])) status.Established 2 [] 0 0 [])
    -- announced: accepts that number
    ∷ case new (joins ∷ sequence 5 ∷ arrives ∷ []) (line (accept (5 ∷ [])) status.Established 6 [] 0 0 [])
    -- "3. Announced one below: violation, 4 outputs."
    ∷ case new (binds 5 ∷ sequence 4 ∷ []) (line ok status.Unbound 5 [] 0 4 (violates 17))
    -- the number itself; one above
    ∷ case new (binds 5 ∷ sequence 5 ∷ []) (line ok status.Established 5 [] 0 0 [])
    ∷ case new (binds 5 ∷ sequence 6 ∷ []) (line ok status.Established 6 (range 5 6 ∷ []) 0 2 (gap_seen 5 1 ∷ requests 5 1 ∷ []))
    -- "4. Gap of `max_gap_len` recorded; one longer leaves no gap."
    ∷ case new (binds 1 ∷ sequence 101 ∷ []) (line ok status.Established 101 (range 1 101 ∷ []) 0 2 (gap_seen 1 100 ∷ requests 1 10 ∷ []))
    ∷ case new (binds 1 ∷ sequence 102 ∷ []) (line ok status.Unbound 1 [] 0 4 (violates 16))
    -- "5. New, Sequence 2^64-1, then application: exhausted."
    ∷ case new (joins ∷ sequence 18446744073709551615 ∷ arrives ∷ []) (line discard status.Unbound 18446744073709551615 [] 0 4 (violates 12))
    -- one below: the last number that is accepted
    ∷ case new (joins ∷ sequence 18446744073709551614 ∷ arrives ∷ []) (line (accept (18446744073709551614 ∷ [])) status.Established 18446744073709551615 [] 0 0 [])
    -- "6. `outbound_next` 2^64-3 sends; 2^64-2 gives 11, nothing queued."
    ∷ case (sending_at 18446744073709551613 new) (binds 1 ∷ sends ∷ []) (line (sent (18446744073709551613 ∷ [])) status.Established 1 [] 0 1 (announces 18446744073709551613 ∷ []))
    ∷ case (sending_at 18446744073709551614 new) (binds 1 ∷ sends ∷ []) (line (refused 11 []) status.Established 1 [] 0 0 [])
    -- the same, reached by the send before
    ∷ case (sending_at 18446744073709551613 new) (binds 1 ∷ sends ∷ sends ∷ []) (line (refused 11 []) status.Established 1 [] 0 0 [])
    -- "7. `outbound_next` 11: from 1 count 10 served; from 2 count 10 and from 0 count 1 rejected."
    ∷ case new (binds 1 ∷ times 10 (sends ∷ []) (asks 1 10 ∷ [])) (line ok status.Established 1 [] 0 1 (event (ev.RetransmitRequested (num 1) 10) ∷ []))
    ∷ case new (binds 1 ∷ times 10 (sends ∷ []) (asks 2 10 ∷ [])) (line ok status.Established 1 [] 0 2 range_refused)
    ∷ case new (binds 1 ∷ times 10 (sends ∷ []) (asks 0 1 ∷ [])) (line ok status.Established 1 [] 0 2 range_refused)
    -- "8. Two gaps allowed, third by Sequence: held, 5 outputs; by FinishedSending: 6."
    ∷ case new (two_gaps (sequence 7 ∷ [])) (line ok status.Unbound 7 (range 2 3 ∷ range 4 5 ∷ range 6 7 ∷ []) 0 5 (gap_seen 6 1 ∷ violates 18))
    ∷ case new (two_gaps (finishes 6 ∷ [])) (line ok status.Unbound 7 (range 2 3 ∷ range 4 5 ∷ range 6 7 ∷ []) 0 6 (finish_seen 6 ∷ gap_seen 6 1 ∷ violates 18))
    -- three allowed: recorded
    ∷ case (new_with 3 policy.Terminate) (two_gaps (sequence 7 ∷ [])) (line ok status.Established 7 (range 2 3 ∷ range 4 5 ∷ range 6 7 ∷ []) 0 1 (gap_seen 6 1 ∷ []))
    ∷ case (new_with 3 policy.Terminate) (two_gaps (finishes 6 ∷ [])) (line ok status.Established 7 (range 2 3 ∷ range 4 5 ∷ range 6 7 ∷ []) 0 2 (finish_seen 6 ∷ gap_seen 6 1 ∷ []))
    -- "9. Run 256 kept, 257 not.": the expected number moves, and does not
    ∷ case (new_with 1 policy.Terminate) (joined 256) (line ok status.Unbound 516 (range 1 2 ∷ range 3 516 ∷ []) 256 5 (gap_seen 515 1 ∷ violates 18))
    ∷ case (new_with 1 policy.Terminate) (joined 257) (line ok status.Unbound 517 (range 1 2 ∷ range 3 516 ∷ []) 256 5 (gap_seen 517 1 ∷ violates 18))
    ∷ []

pub edges-right : AllRight edges
unfolding ran call sound config_fits queued saying answering and_then no_text deadline_at append_gap record_gap later_of widen hold_refused_gap consume_missing release_binding_state fail violation fewer ask request_missing maybe_finish_receiving allocate_outbound gap_held gap_recorded on_gap stop_replay announced on_next_seq number_live on_live on_application refuse_retransmit is_sent serve on_retransmit_request finished_with finished_sending on_finished_sending new_session resume on_established bind on_context on_peer send_refused send_application
edges-right = (refl, (refl, (refl, (refl, (refl, (refl, (refl, (refl, (refl, (refl, (refl, (refl, (refl, (refl, (refl, (refl, (refl, (refl, (refl, (refl, (refl, (refl, (refl, tt)))))))))))))))))))))))
