-- How many outputs a step adds that leaves the binding standing: few enough that another step has room after it.
use Rattle.std.specs.Prelude.{if◌then◌else◌, Option, Some, None}
use Prim.Native.Nat.{ℕ, ◌+◌, ◌-◌, ◌≤◌, ◌^◌}
use mathlib.Core.Path.{◌≡◌}
use mathlib.Core.Bool.{Bool, true, false, not, ◌&&◌, ◌||◌, false≢true}
use mathlib.Core.List.{[], ◌∷◌}
use native.Mathlib.Omega.{arith}
use lib.ListN.{length, length-append}
use lib.Dec.{ltb, leb, eqb}
use Rattle.types.specs.Base.{all_ones}
use Rattle.types.specs.Flows.{is_sequenced, is_recoverable}
use Rattle.types.specs.States.{is_stay, is_established, is_closing, with_received}
use Rattle.rules.specs.Names.{SeqNum, Nanotime, Instant, FlowType, TerminationCode, NotApplied, Gap, Replay, PeerFinished, Output, Binding}
use Rattle.rules.specs.Names.flow
use Rattle.rules.specs.Names.code
use Rattle.rules.specs.Lists.{is_nil, front_of}
use Rattle.rules.specs.State.{Sess, Did, saying, answering, with_inbound, with_start, with_gaps, with_replay}
use Rattle.rules.specs.Outputs.{close_transport}
use Rattle.rules.specs.Gaps.{record_gap, hold_refused_gap, received_in_overflow}
use Rattle.rules.specs.Ending.{fail, violation}
use Rattle.rules.specs.Asking.{is_outstanding, ask, ask_for, request_missing, finish_at, maybe_finish_receiving, recovered, complete_outstanding}
use Rattle.rules.specs.Numbering.{outbound_exhausted, allocate_outbound, send_application_of, not_applied_numbered, not_applied_on, send_not_applied, gap_held, gap_recorded, gap_reported, gap_on, on_gap, past_finished, stop_replay, announced_to, announced, on_next_seq, discard, replay_after, Counted, count_delivered, complete_if, replayed_counted, on_replayed, numbered_as, number_live, live_on, is_peer_finished, on_live, arrived_in, on_application}
use Rattle.rules.specs.Names.{Outstanding, RetransmitStallPolicy}
use Rattle.rules.specs.Names.policy
use Rattle.rules.specs.Asking.{re_request}
use Rattle.rules.specs.Deadlines.{stall_deadline, is_due, wait_out, stall_by, on_stall, stall_of, stall_if_due}
use Rattle.session.proofs.Laws.{allocate-few}

-- at most k outputs, if the binding stands
pub record Few (k : ℕ) (d : Did) : Type 0 where
  pub few : is_stay d.bound ≡ true → length d.outs ≤ k

pub by-if : (k : ℕ) (t : Bool) (a b : Did) → Few k a → Few k b → Few k (if t then a else b)
by-if k true a b p q = p
by-if k false a b p q = q

pub saying-few : (k : ℕ) (o : Output) (d : Did) → Few k d → Few (k + 1) (saying (o ∷ []) d)
unfolding saying
saying-few k o d p = record { few = λ e. let h = p.few e in omega arith }

pub more : (j k : ℕ) (d : Did) → j ≤ k → Few j d → Few k d
more j k d h p = record { few = λ e. let g = p.few e in omega arith }

pub fail-few : (k : ℕ) (c : TerminationCode) (n : ℕ) (s : Sess) (b : Binding) → Few k (fail c n s b)
unfolding fail
fail-few k c n s b = record { few = λ e. absurd (false≢true e) }

pub violation-few : (k n : ℕ) (s : Sess) (b : Binding) → Few k (violation n s b)
unfolding violation fail saying
violation-few k n s b = record { few = λ e. absurd (false≢true e) }

pub request-few : (now : Instant) (stamp : Nanotime) (s : Sess) (b : Binding) → Few 1 (request_missing now stamp s b)
unfolding request_missing ask
request-few now stamp s b =
    by-if 1 (is_established b.state && is_recoverable s.remote_flow && not (is_outstanding s.outstanding)) _ _ (go (front_of s.gaps.missing)) (record { few = λ e. omega arith })
  where
    go : (g : Option Gap) → Few 1 (ask_for g now stamp s b)
    go None = record { few = λ e. omega arith }
    go (Some g) =
        by-if 1 (leb g.end.0 g.from.0) _ _ (record { few = λ e. omega arith })
        (by-if 1 (eqb stamp.0 all_ones) _ _ (fail-few 1 _ _ s b) (record { few = λ e. omega arith }))

pub not-applied-few : (now : Instant) (m : NotApplied) (s : Sess) (b : Binding) → Few 2 (send_not_applied now m s b)
unfolding send_not_applied saying
not-applied-few now m s b = by-if 2 (not (is_established b.state)) _ _ (record { few = λ e. omega arith }) (go s.local_flow)
  where
    numbered : Few 2 (not_applied_numbered now m s b)
    numbered =
        by-if 2 (outbound_exhausted s) _ _ (fail-few 2 _ _ s b)
        (record { few = λ e. let h = allocate-few s b in let l = length-append (allocate_outbound s b).outs (send_application_of (Some s.outbound_next) m ∷ []) in omega (arith, l) })

    go : (f : FlowType) → Few 2 (not_applied_on f now m s b)
    go flow.None = record { few = λ e. omega arith }
    go flow.Unsequenced = record { few = λ e. omega arith }
    go flow.Recoverable = numbered
    go flow.Idempotent = numbered

pub gap-few : (now : Instant) (stamp : Nanotime) (from next : SeqNum) (s : Sess) (b : Binding) → Few 3 (on_gap now stamp from next s b)
unfolding on_gap gap_recorded gap_held gap_reported
gap-few now stamp from next s b = saying-few 2 _ _ (go s.remote_flow)
  where
    go : (f : FlowType) → Few 2 (gap_on f now stamp from next s b)
    go flow.Recoverable =
        let k = record_gap s.config.max_pending_gaps from next s.gaps in
        let h = hold_refused_gap s.config.max_pending_gaps from next k.gaps in
        by-if 2 k.ok _ _ (more 1 2 _ (omega arith) (request-few now stamp (with_inbound (Some next) (with_gaps k.gaps s)) b))
        (by-if 2 h.ok _ _ (violation-few 2 18 (with_inbound (Some next) (with_gaps h.gaps s)) b) (violation-few 2 18 (with_gaps h.gaps s) b))
    go flow.Idempotent =
        by-if 2 (leb (2 ^ 32) (next.0 - from.0)) _ _ (violation-few 2 19 (with_inbound (Some next) s) b) (not-applied-few now _ (with_inbound (Some next) s) b)
    go flow.Unsequenced = record { few = λ e. omega arith }
    go flow.None = record { few = λ e. omega arith }

pub announced-few : (now : Instant) (stamp : Nanotime) (next : SeqNum) (s : Sess) (b : Binding) → Few 3 (announced now stamp next s b)
unfolding announced
announced-few now stamp next s b = by-if 3 s.start_pending _ _ (record { few = λ e. omega arith }) (go s.inbound_next)
  where
    go : (n : Option SeqNum) → Few 3 (announced_to n now stamp next s b)
    go None = record { few = λ e. omega arith }
    go (Some n) =
        by-if 3 (ltb next.0 n.0) _ _ (violation-few 3 17 s b)
        (by-if 3 (eqb next.0 n.0) _ _ (record { few = λ e. omega arith })
        (by-if 3 (ltb s.config.max_gap_len (next.0 - n.0)) _ _ (violation-few 3 16 s b) (gap-few now stamp n next s b)))

-- an announcement that leaves the binding standing adds at most three outputs
pub next-few : (now : Instant) (stamp : Nanotime) (next : SeqNum) (s : Sess) (b : Binding) → Few 3 (on_next_seq now stamp next s b)
unfolding on_next_seq
next-few now stamp next s b =
    by-if 3 (not (is_sequenced s.remote_flow)) _ _ (violation-few 3 13 s b)
    (by-if 3 (eqb next.0 0) _ _ (violation-few 3 14 s b)
    (by-if 3 (past_finished s.peer_finished next.0) _ _ (violation-few 3 15 s b) (announced-few now stamp next (stop_replay now s) b)))

-- ---- at most k outputs, whether the binding stands or not
pub record Most (k : ℕ) (d : Did) : Type 0 where
  pub most : length d.outs ≤ k

most-if : (k : ℕ) (t : Bool) (a b : Did) → Most k a → Most k b → Most k (if t then a else b)
most-if k true a b p q = p
most-if k false a b p q = q

fail-most : (c : TerminationCode) (n : ℕ) (s : Sess) (b : Binding) → Most 3 (fail c n s b)
unfolding fail
fail-most c n s b = record { most = go (is_established b.state) _ _ }
  where
    go : (t : Bool) (o p : Output) → length (if t then o ∷ p ∷ close_transport ∷ [] else close_transport ∷ []) ≤ 3
    go true o p = omega arith
    go false o p = omega arith

violation-most : (n : ℕ) (s : Sess) (b : Binding) → Most 4 (violation n s b)
unfolding violation saying
violation-most n s b = record { most = let h = (fail-most code.UnspecifiedError n s b).most in omega arith }

request-most : (now : Instant) (stamp : Nanotime) (s : Sess) (b : Binding) → Most 3 (request_missing now stamp s b)
unfolding request_missing ask
request-most now stamp s b =
    most-if 3 (is_established b.state && is_recoverable s.remote_flow && not (is_outstanding s.outstanding)) _ _ (go (front_of s.gaps.missing)) (record { most = omega arith })
  where
    go : (g : Option Gap) → Most 3 (ask_for g now stamp s b)
    go None = record { most = omega arith }
    go (Some g) =
        most-if 3 (leb g.end.0 g.from.0) _ _ (record { most = omega arith })
        (most-if 3 (eqb stamp.0 all_ones) _ _ (fail-most code.UnspecifiedError 20 s b) (record { most = omega arith }))

finish-most : (s : Sess) (b : Binding) → Most 1 (maybe_finish_receiving s b)
unfolding maybe_finish_receiving
finish-most s b = go s.peer_finished
  where
    go : (f : Option PeerFinished) → Most 1 (finish_at f s b)
    go None = record { most = omega arith }
    go (Some f) =
        most-if 1 (f.receiving_sent || not (is_established b.state) || not (is_nil s.gaps.missing) || is_outstanding s.outstanding) _ _ (record { most = omega arith }) (record { most = omega arith })

recovered-most : (now : Instant) (stamp : Nanotime) (s : Sess) (b : Binding) → Most 3 (recovered now stamp s b)
unfolding recovered saying
recovered-most now stamp s b =
    most-if 3 (is_nil s.gaps.missing) _ _ (record { most = let h = (finish-most s b).most in omega arith }) (request-most now stamp s b)

complete-most : (t : Bool) (now : Instant) (stamp : Nanotime) (s : Sess) (b : Binding) → Most 3 (complete_if t now stamp s b)
unfolding complete_if complete_outstanding
complete-most t now stamp s b = most-if 3 t _ _ (recovered-most now stamp _ b) (record { most = omega arith })

-- an application message adds at most four outputs
pub application-most : (now : Instant) (stamp : Nanotime) (s : Sess) (b : Binding) → Most 4 (on_application now stamp s b)
unfolding on_application on_live number_live on_replayed replayed_counted answering
application-most now stamp s b = most-if 4 (is_closing b.state) _ _ (record { most = omega arith }) (go s.replay)
  where
    c : Binding
    c = with_received now b

    discarded : (n : ℕ) (t : Sess) → Most 4 (answering discard (violation n t c))
    discarded n t = record { most = (violation-most n t c).most }

    numbered : (x : Option SeqNum) (t : Sess) → Most 4 (numbered_as x t c)
    numbered None t = discarded 11 t
    numbered (Some n) t = most-if 4 (eqb n.0 all_ones) _ _ (discarded 12 t) (record { most = omega arith })

    live : (f : FlowType) → Most 4 (live_on f s c)
    live flow.None = discarded 9 s
    live flow.Unsequenced = record { most = omega arith }
    live flow.Recoverable = most-if 4 s.awaiting_resume _ _ (discarded 10 s) (numbered s.inbound_next (with_start false s))
    live flow.Idempotent = most-if 4 s.awaiting_resume _ _ (discarded 10 s) (numbered s.inbound_next (with_start false s))

    counted : (k : Counted) (n : SeqNum) → Most 4 (replayed_counted now stamp n k c)
    counted k n =
        let seen = received_in_overflow n k.session.gaps in
        let h = (complete-most k.complete now stamp (with_gaps seen.gaps k.session) c).most in
        record { most = omega arith }

    go : (r : Option Replay) → Most 4 (arrived_in r now stamp s c)
    go None = most-if 4 (is_peer_finished s.peer_finished) _ _ (discarded 8 s) (live s.remote_flow)
    go (Some r) =
        most-if 4 (eqb r.next.0 all_ones) _ _ (discarded 7 s) (counted (count_delivered now (leb r.remaining 1) (with_replay (replay_after r) s)) r.next)

-- ---- a stall
re-request-few : (now : Instant) (stamp : Nanotime) (o : Outstanding) (s : Sess) (b : Binding) → Few 1 (re_request now stamp o s b)
unfolding re_request
re-request-few now stamp o s b = request-few now stamp _ b

wait-few : (o : Outstanding) (s : Sess) (b : Binding) → Few 1 (wait_out o s b)
unfolding wait_out
wait-few o s b = record { few = λ e. omega arith }

stall-by-few : (p : RetransmitStallPolicy) (now : Instant) (stamp : Nanotime) (o : Outstanding) (s : Sess) (b : Binding) → Few 1 (stall_by p now stamp o s b)
stall-by-few policy.Terminate now stamp o s b = fail-few 1 _ _ s b
stall-by-few policy.ReRequestAfterContextSwitch now stamp o s b = by-if 1 o.interrupted _ _ (re-request-few now stamp o s b) (wait-few o s b)
stall-by-few policy.ReRequestAfterBatch now stamp o s b = by-if 1 (o.interrupted || o.batch_complete) _ _ (re-request-few now stamp o s b) (wait-few o s b)
stall-by-few policy.EventOnly now stamp o s b = wait-few o s b

-- a stall that leaves the binding standing adds at most two outputs
pub stall-few : (now : Instant) (stamp : Nanotime) (s : Sess) (b : Binding) → Few 2 (stall_if_due now stamp s b)
unfolding stall_if_due on_stall
stall-few now stamp s b = by-if 2 (is_due (stall_deadline s) now) _ _ (go s.outstanding) (record { few = λ e. omega arith })
  where
    go : (m : Option Outstanding) → Few 2 (stall_of m now stamp s b)
    go None = record { few = λ e. omega arith }
    go (Some o) = saying-few 1 _ _ (stall-by-few s.config.retransmit_stall_policy now stamp o s b)
