-- Slips that a rule book could have, each shut out by worked cases on both sides of it: one table with one theorem, by computing the
-- calls' own rules. For each there is an edit in must-fail/ that makes the slip (docs/EDGES.md).
use Rattle.std.specs.Prelude.{ℕ, refl, List, [], ◌∷◌}
use Rattle.types.specs.Base.{deadline_at}
use Rattle.types.specs.Reasons.{no_text}
use Rattle.rules.specs.Names.{Output}
use Rattle.rules.specs.Names.status
use Rattle.rules.specs.Names.rejection
use Rattle.rules.specs.Names.policy
use Rattle.rules.specs.Names.event as ev
use Rattle.rules.specs.State.{queued, saying, answering, and_then}
use Rattle.rules.specs.Outputs.{event}
use Rattle.rules.specs.Gaps.{append_gap, record_gap, later_of, widen, hold_refused_gap, received_in_overflow, drop_first, consume_missing}
use Rattle.rules.specs.Ending.{release_binding_state, fail, violation}
use Rattle.rules.specs.Asking.{fewer, ask, request_missing, maybe_finish_receiving, recovered, complete_outstanding, in_range, on_retransmission, on_retransmit_reject, re_request}
use Rattle.rules.specs.Numbering.{allocate_outbound, gap_held, gap_recorded, on_gap, stop_replay, announced, on_next_seq, replay_after, count_delivered, complete_if, replayed_counted, on_replayed, number_live, on_live, on_application}
use Rattle.rules.specs.Binding.{new_session, resume, on_established, bind}
use Rattle.rules.specs.Peer.{on_context, on_peer}
use Rattle.rules.specs.Local.{send_refused, send_application}
use Rattle.rules.specs.Deadlines.{silence_deadline, stall_deadline, heartbeat_deadline, heartbeat, heartbeat_if_due, wait_out, on_stall, stall_if_due, established_timeout, on_timeout}
use Rattle.rules.specs.Answers.{ok, accept, replay, discard, sent}
use Rattle.rules.specs.Calls.{Call, release_call, config_fits, sound, call}
use Rattle.rules.specs.Worked.{Case, case, line, AllRight, ran, num, range, new, new_with, joins, binds, sequence, context, headed, header, rejects, arrives, sends, lapses, fails, violates, gap_seen, requests, announces}

-- 1 arrives, 2 and 3 are lost, 4 is announced: 2 and 3 are asked for
abbrev two_lost : List Call → List Call
two_lost l = binds 1 ∷ arrives ∷ sequence 4 ∷ l

-- the batch that answers it begins, and 2 is replayed
abbrev half_replayed : List Call → List Call
half_replayed l = two_lost (header 2 2 ∷ arrives ∷ l)

-- both are replayed
abbrev replayed : List Call → List Call
replayed l = half_replayed (arrives ∷ l)

-- one gap allowed, 2 the first: 4 is held, 5 arrives, 6 joins it, so that 4 to 6 is the last gap with 5 received. After the next bind 2 is
-- replayed, then a batch of three begins, and 4 is replayed
abbrev before_duplicate : List Call → List Call
before_duplicate l =
    binds 1 ∷ arrives ∷ sequence 3 ∷ arrives ∷ sequence 5 ∷ binds 5 ∷ arrives ∷ sequence 7 ∷
    binds 7 ∷ header 2 1 ∷ arrives ∷ header 4 3 ∷ arrives ∷ l

abbrev recovery_complete : Output
recovery_complete = event ev.RecoveryComplete

abbrev timed_out : ℕ → ℕ → Output
timed_out n k = event (ev.RetransmitTimedOut (num n) k)

-- the peer's rejection had no reason
abbrev abandoned : ℕ → ℕ → Output
abandoned n k = event (ev.RetransmitRejected (num n) k rejection.OutOfRange)

abbrev pub slips : List Case
slips =
    -- 1. a gap of `max_gap_len` is recorded, one longer is not: by Context, by bind
    case new (binds 1 ∷ context 101 ∷ []) (line ok status.Established 101 (range 1 101 ∷ []) 0 2 (gap_seen 1 100 ∷ requests 1 10 ∷ []))
    ∷ case new (binds 1 ∷ context 102 ∷ []) (line ok status.Unbound 1 [] 0 4 (violates 16))
    ∷ case new (binds 1 ∷ release_call ∷ binds 101 ∷ []) (line ok status.Established 101 (range 1 101 ∷ []) 0 2 (gap_seen 1 100 ∷ requests 1 10 ∷ []))
    ∷ case new (binds 1 ∷ release_call ∷ binds 102 ∷ []) (line ok status.Unbound 1 [] 0 4 (violates 16))
    -- 2. the expected number announced does nothing, a lower one is a violation: by Context, by bind
    ∷ case new (binds 5 ∷ context 5 ∷ []) (line ok status.Established 5 [] 0 0 [])
    ∷ case new (binds 5 ∷ context 4 ∷ []) (line ok status.Unbound 5 [] 0 4 (violates 17))
    ∷ case new (binds 5 ∷ release_call ∷ binds 5 ∷ []) (line ok status.Established 5 [] 0 0 [])
    ∷ case new (binds 5 ∷ release_call ∷ binds 4 ∷ []) (line ok status.Unbound 5 [] 0 4 (violates 17))
    -- 3. 2^64-1 is a number in Sequence, and skipped in Context; 2^64-2 is a number in both
    ∷ case new (joins ∷ sequence 18446744073709551615 ∷ []) (line ok status.Established 18446744073709551615 [] 0 0 [])
    ∷ case new (joins ∷ context 18446744073709551615 ∷ []) (line ok status.Established 1 [] 0 0 [])
    ∷ case new (joins ∷ sequence 18446744073709551614 ∷ []) (line ok status.Established 18446744073709551614 [] 0 0 [])
    ∷ case new (joins ∷ context 18446744073709551614 ∷ []) (line ok status.Established 18446744073709551614 [] 0 0 [])
    ∷ case new (binds 1 ∷ sequence 18446744073709551615 ∷ []) (line ok status.Unbound 1 [] 0 4 (violates 16))
    -- 4. a request's count is the gap's length up to `max_retransmit_count`, and that above it
    ∷ case new (binds 1 ∷ sequence 10 ∷ []) (line ok status.Established 10 (range 1 10 ∷ []) 0 2 (gap_seen 1 9 ∷ requests 1 9 ∷ []))
    ∷ case new (binds 1 ∷ sequence 11 ∷ []) (line ok status.Established 11 (range 1 11 ∷ []) 0 2 (gap_seen 1 10 ∷ requests 1 10 ∷ []))
    ∷ case new (binds 1 ∷ sequence 12 ∷ []) (line ok status.Established 12 (range 1 12 ∷ []) 0 2 (gap_seen 1 11 ∷ requests 1 10 ∷ []))
    -- 5. an announcement stops the replay: the next message is live; without it the message is replayed
    ∷ case new (half_replayed (sequence 4 ∷ arrives ∷ [])) (line (accept (4 ∷ [])) status.Established 5 (range 2 4 ∷ []) 0 0 [])
    ∷ case new (half_replayed (context 4 ∷ arrives ∷ [])) (line (accept (4 ∷ [])) status.Established 5 (range 2 4 ∷ []) 0 0 [])
    ∷ case new (half_replayed (arrives ∷ [])) (line (replay (3 ∷ [])) status.Established 4 [] 0 1 (recovery_complete ∷ []))
    -- it is `interrupted`: after a stall what is still missing is asked for; without it the stall is only reported
    ∷ case (new_with 2 policy.ReRequestAfterContextSwitch) (half_replayed (sequence 4 ∷ lapses 1000 ∷ [])) (line ok status.Established 4 (range 3 4 ∷ []) 0 3 (timed_out 2 2 ∷ requests 3 1 ∷ announces 1 ∷ []))
    ∷ case (new_with 2 policy.ReRequestAfterContextSwitch) (half_replayed (lapses 1000 ∷ [])) (line ok status.Established 4 (range 2 4 ∷ []) 0 2 (timed_out 2 2 ∷ announces 1 ∷ []))
    -- 6. after a batch a live message waits for an announcement, also after a rejection; a Context of 2^64-1 is none; a bind ends the wait
    ∷ case new (replayed (arrives ∷ [])) (line discard status.Unbound 4 [] 0 4 (violates 10))
    ∷ case new (replayed (sequence 4 ∷ arrives ∷ [])) (line (accept (4 ∷ [])) status.Established 5 [] 0 0 [])
    ∷ case new (replayed (context 18446744073709551615 ∷ arrives ∷ [])) (line discard status.Unbound 4 [] 0 4 (violates 10))
    ∷ case new (half_replayed (rejects ∷ arrives ∷ [])) (line discard status.Unbound 4 [] 0 4 (violates 10))
    ∷ case new (replayed (release_call ∷ joins ∷ arrives ∷ [])) (line (accept (4 ∷ [])) status.Established 5 [] 0 0 [])
    -- 7. a header with another stamp than the request's; with its stamp; with another number, another count
    ∷ case new (two_lost (headed 8 2 2 ∷ [])) (line ok status.Unbound 4 (range 2 4 ∷ []) 0 4 (violates 24))
    ∷ case new (two_lost (headed 7 2 2 ∷ [])) (line ok status.Established 4 (range 2 4 ∷ []) 0 0 [])
    ∷ case new (two_lost (headed 7 3 1 ∷ [])) (line ok status.Unbound 4 (range 2 4 ∷ []) 0 4 (violates 25))
    ∷ case new (two_lost (headed 7 2 3 ∷ [])) (line ok status.Unbound 4 (range 2 4 ∷ []) 0 4 (violates 25))
    -- 8. stall and heartbeat both due: the stall is first, and where it ends the binding there is no heartbeat
    ∷ case (new_with 2 policy.EventOnly) (two_lost (lapses 1000 ∷ [])) (line ok status.Established 4 (range 2 4 ∷ []) 0 2 (timed_out 2 2 ∷ announces 1 ∷ []))
    ∷ case (new_with 2 policy.Terminate) (two_lost (lapses 1000 ∷ [])) (line ok status.Unbound 4 (range 2 4 ∷ []) 0 4 (timed_out 2 2 ∷ fails 41))
    -- the heartbeat after the request leaves this side in sequence: a send needs no other
    ∷ case (new_with 2 policy.ReRequestAfterContextSwitch) (half_replayed (sequence 4 ∷ lapses 1000 ∷ sends ∷ [])) (line (sent (1 ∷ [])) status.Established 4 (range 3 4 ∷ []) 0 0 [])
    -- 9. at the deadline counts as due: silence at 2000, heartbeat at 1000, stall at 1000; not one below
    ∷ case new (binds 1 ∷ lapses 2000 ∷ []) (line ok status.Unbound 1 [] 0 4 (event ev.KeepaliveLapsed ∷ fails 40))
    ∷ case new (binds 1 ∷ lapses 1999 ∷ []) (line ok status.Established 1 [] 0 1 (announces 1 ∷ []))
    ∷ case new (binds 1 ∷ lapses 1000 ∷ []) (line ok status.Established 1 [] 0 1 (announces 1 ∷ []))
    ∷ case new (two_lost (lapses 999 ∷ [])) (line ok status.Established 4 (range 2 4 ∷ []) 0 0 [])
    -- 10. a release consumes what was delivered: one, none
    ∷ case new (half_replayed (release_call ∷ [])) (line ok status.Unbound 4 (range 3 4 ∷ []) 0 0 [])
    ∷ case new (two_lost (release_call ∷ [])) (line ok status.Unbound 4 (range 2 4 ∷ []) 0 0 [])
    -- a rejection the whole count, and no more of the gap
    ∷ case new (half_replayed (rejects ∷ [])) (line ok status.Established 4 [] 0 2 (abandoned 2 2 ∷ recovery_complete ∷ []))
    ∷ case new (binds 1 ∷ sequence 15 ∷ rejects ∷ []) (line ok status.Established 15 (range 11 15 ∷ []) 0 2 (abandoned 1 10 ∷ requests 11 4 ∷ []))
    -- a discarded duplicate counts as delivered: it is discarded, a release leaves what is behind it, the next message completes the request
    ∷ case (new_with 1 policy.Terminate) (before_duplicate (release_call ∷ [])) (line ok status.Unbound 7 (range 5 7 ∷ []) 1 0 [])
    ∷ case (new_with 1 policy.Terminate) (before_duplicate (arrives ∷ [])) (line discard status.Established 7 (range 4 7 ∷ []) 1 0 [])
    ∷ case (new_with 1 policy.Terminate) (before_duplicate (arrives ∷ release_call ∷ [])) (line ok status.Unbound 7 (range 6 7 ∷ []) 1 0 [])
    ∷ case (new_with 1 policy.Terminate) (before_duplicate (arrives ∷ arrives ∷ [])) (line (replay (6 ∷ [])) status.Established 7 [] 0 1 (recovery_complete ∷ []))
    ∷ []

pub slips-right : AllRight slips
unfolding ran call sound config_fits queued saying answering and_then no_text deadline_at append_gap record_gap later_of widen hold_refused_gap received_in_overflow drop_first consume_missing release_binding_state fail violation fewer ask request_missing maybe_finish_receiving recovered complete_outstanding in_range on_retransmission on_retransmit_reject re_request allocate_outbound gap_held gap_recorded on_gap stop_replay announced on_next_seq replay_after count_delivered complete_if replayed_counted on_replayed number_live on_live on_application new_session resume on_established bind on_context on_peer send_refused send_application silence_deadline stall_deadline heartbeat_deadline heartbeat heartbeat_if_due wait_out on_stall stall_if_due established_timeout on_timeout
slips-right = (refl, (refl, (refl, (refl, (refl, (refl, (refl, (refl, (refl, (refl, (refl, (refl, (refl, (refl, (refl, (refl, (refl, (refl, (refl, (refl, (refl, (refl, (refl, (refl, (refl, (refl, (refl, (refl, (refl, (refl, (refl, (refl, (refl, (refl, (refl, (refl, (refl, (refl, (refl, (refl, (refl, (refl, (refl, (refl, (refl, tt)))))))))))))))))))))))))))))))))))))))))))))
