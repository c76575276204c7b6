-- Every session reached from new is a sound record, and a sequenced peer always has an expected number: each step queues at most 6
-- outputs with reasons that fit, and no list outgrows its room. Any flows, any calls.
use Rattle.std.specs.Prelude.{◌≡◌, refl, List, [], ◌∷◌, ◌++◌, Bool, true, false, not, ◌&&◌, ◌||◌, ℕ, suc, ◌+◌, ◌-◌, ◌≤◌, ◌^◌, length, ltb, leb, eqb, if◌then◌else◌, Option, Some, None, Ok}
use Rattle.std.proofs.Common.{ap, arith, length-append, leb-true, leb-false, le-leb}
use Rattle.types.specs.Base.{all_ones, same_id, deadline_at}
use Rattle.types.specs.Flows.{is_sequenced, is_recoverable, is_idempotent, is_finished}
use Rattle.types.specs.States.{is_stay, is_established, is_closing, with_received, with_keepalive, leave_sequence}
use Rattle.types.specs.Reasons.{no_text, reason_fits}
use Rattle.rules.specs.Names.{SeqNum, SessionId, Nanotime, Instant, FlowType, TerminationCode, RetransmitRejectCode, RetransmitStallPolicy, FixpConfig, Reason, Context, RetransmitRequest, Retransmission, RetransmitReject, Terminate, FinishedSending, NotApplied, PeerMessage, Event, Output, Bound, BindState, Binding, Gap, Outstanding, PeerFinished, Replay, Provider, Answer}
use Rattle.rules.specs.Names.flow
use Rattle.rules.specs.Names.code
use Rattle.rules.specs.Names.policy
use Rattle.rules.specs.Names.event as ev
use Rattle.rules.specs.Names.peer
use Rattle.rules.specs.Names.bound
use Rattle.rules.specs.Names.state
use Rattle.rules.specs.Names.verdict
use Rattle.rules.specs.Lists.{is_nil, rest, front_of, back_of, set_back, drop_below}
use Rattle.rules.specs.State.{Lists, Sess, Queue, queued, Did, did, stays, saying, answering, and_then, with_outbound, with_inbound, with_start, with_gaps, with_outstanding, with_replay, with_awaiting, with_provider, with_peer_finished}
use Rattle.rules.specs.Outputs.{event, event_with, event_quoting}
use Rattle.rules.specs.Gaps.{max_gaps, max_runs, gap_of, lists, Kept, appended, append_gap, record_at, record_gap, later_of, widen, hold_at, hold_refused_gap, received_in_overflow, runs_with, drop_first, consume_at, consume_missing}
use Rattle.rules.specs.Ending.{consumed, released_at, release_binding_state, finished_receiving_sent, finalize_if_finished, ended_by, fail, violation, terminate_at, on_terminate}
use Rattle.rules.specs.Asking.{is_outstanding, asked, ask, ask_for, request_missing, finish_at, maybe_finish_receiving, recovered, completed_at, complete_outstanding, in_range, header_at, on_retransmission, unasked, rejected_at, on_retransmit_reject, re_request}
use Rattle.rules.specs.Numbering.{next, outbound_exhausted, allocate_outbound, not_applied_after, not_applied_numbered, not_applied_on, send_not_applied, gap_held, gap_recorded, gap_reported, gap_on, on_gap, past_finished, stop_at, stop_replay, announced_to, announced, on_next_seq, discard, replay_after, Counted, counted_at, count_delivered, complete_if, replayed_counted, on_replayed, numbered_as, number_live, live_on, is_peer_finished, on_live, arrived_in, on_application}
use Rattle.rules.specs.Serving.{is_serving, refuse_retransmit, is_sent, serve, on_retransmit_request}
use Rattle.rules.specs.Finishing.{finished_with, below, last_at, finished_sending, on_finished_sending}
use Rattle.rules.specs.Binding.{new_session, established, resume, established_at, on_established, bind}
use Rattle.rules.specs.Peer.{on_context, on_unsequenced_heartbeat, is_accept, reporting, on_applied, on_not_applied, on_message, on_peer}
use Rattle.rules.specs.Local as local
use Rattle.rules.specs.Local.{Refused, passes, refuses, unless}
use Rattle.rules.specs.Deadlines.{silence_deadline, stall_deadline, heartbeat_deadline, is_due, heartbeat, heartbeat_if_due, wait_out, stall_by, on_stall, stall_of, stall_if_due, established_timeout, timeout_in, on_timeout}
use Rattle.rules.specs.Calls as rules
use Rattle.rules.specs.Calls.{World, world, Call, bind_call, release_call, peer_call, application_call, send_call, terminate_call, retransmit_call, reject_call, end_call, timeout_call, config_fits, texts_fit, sound, max_outs, has_room, if_bound, wrong, link_after, ran_as, does, ran_if, call, opened, reading, polled, transport_closed}
use Rattle.loss.proofs.Count.{by-test}
use Rattle.loss.specs.Good.{IsNumber, OnStay}
use Rattle.loss.proofs.Good.{and_left, and_right}
use Rattle.loss.specs.Holding.{If}
use Rattle.loss.specs.Reached.{Use, uses, takes, reports, read_as, used, reach}
use Rattle.loss.specs.Tidy.{TidyS, Brief, Fewer, Few, HasLast, Snug, Passes}

-- ---- a session whose lists have room
stayed : (u : Bound) {m n : ℕ} → m ≤ n → OnStay u (m ≤ n)
stayed bound.Stay h = h
stayed bound.Unbind h = tt

on_stay-map : (u : Bound) {A B : Type 0} → (A → B) → OnStay u A → OnStay u B
on_stay-map bound.Stay f a = f a
on_stay-map bound.Unbind f a = tt

more : (k j k' j' : ℕ) (d : Did) → k ≤ k' → j ≤ j' → Brief k j d → Brief k' j' d
more k j k' j' d p q b = record { tidy = b.tidy; few = let f = b.few in omega arith; staying = on_stay-map d.bound (λ f. omega arith) b.staying; fit = b.fit }

fits-app : (l m : List Output) → texts_fit l ≡ true → texts_fit m ≡ true → texts_fit (l ++ m) ≡ true
fits-app [] m e u = u
fits-app (o ∷ l) m e u = and_both (reason_fits o.text) (texts_fit (l ++ m)) (and_left (reason_fits o.text) (texts_fit l) e) (fits-app l m (and_right (reason_fits o.text) (texts_fit l) e) u)
  where
    and_both : (a b : Bool) → a ≡ true → b ≡ true → a && b ≡ true
    and_both true b e u = u
    and_both false b e u = e

saying-brief : (i k j : ℕ) (l : List Output) (d : Did) → length l ≤ i → texts_fit l ≡ true → Brief k j d → Brief (i + k) (i + j) (saying l d)
unfolding saying
saying-brief i k j l d n e b =
    record {
      tidy = b.tidy;
      few = let s = length-append l d.outs in let f = b.few in omega arith;
      staying = on_stay-map d.bound (λ f. let s = length-append l d.outs in omega arith) b.staying;
      fit = fits-app l d.outs e b.fit;
    }

answering-brief : (k j : ℕ) (a : Answer) (d : Did) → Brief k j d → Brief k j (answering a d)
unfolding answering
answering-brief k j a d b = record { tidy = b.tidy; few = b.few; staying = b.staying; fit = b.fit }

-- one step after another: the first's k, or its j and the second's
and_then-brief : (k j k' j' m n : ℕ) (d : Did) (f : Sess → Binding → Did) → k ≤ m → j + k' ≤ m → j + j' ≤ n → Brief k j d → (TidyS d.session → Brief k' j' (f d.session d.binding)) → Brief m n (and_then d f)
unfolding and_then
and_then-brief k j k' j' m n d f p q r b g = go d.bound b.staying
  where
    go : (u : Bound) → OnStay u (length d.outs ≤ j) → Brief m n (if is_stay u then saying d.outs (f d.session d.binding) else did d.session d.binding d.outs u d.answer)
    go bound.Stay s = more (j + k') (j + j') m n (saying d.outs (f d.session d.binding)) q r (saying-brief j k' j' d.outs (f d.session d.binding) s b.fit (g b.tidy))
    go bound.Unbind s = record { tidy = b.tidy; few = let x = b.few in omega arith; staying = tt; fit = b.fit }

did-brief : (k j : ℕ) (s : Sess) (b : Binding) (l : List Output) (u : Bound) (a : Answer) → TidyS s → length l ≤ k → OnStay u (length l ≤ j) → texts_fit l ≡ true → Brief k j (did s b l u a)
did-brief k j s b l u a t n m e = record { tidy = t; few = n; staying = m; fit = e }

-- ---- lists
rest-few : {A : Type 0} (l : List A) → length (rest l) ≤ length l
rest-few [] = omega arith
rest-few (x ∷ l) = omega arith

runs-few : (ms rs : List Gap) → length (runs_with ms rs) ≤ length rs
runs-few [] rs = omega arith
runs-few (g ∷ ms) rs = omega arith

drop-few : (n : ℕ) (l : List Gap) → length (drop_below n l) ≤ length l
drop-few n [] = omega arith
drop-few n (g ∷ l) = by-test (λ (m : List Gap). length m ≤ length (g ∷ l)) (leb g.end.0 n) (λ t. let h = drop-few n l in omega arith) (λ t. omega arith)

back-same : (l : List Gap) (x : Gap) → 1 ≤ length l → length (set_back l x) ≡ length l
back-same [] x h = absurd (omega arith)
back-same (y ∷ []) x h = refl
back-same (y ∷ z ∷ l) x h = ap suc (back-same (z ∷ l) x (omega arith))

snoc-more : {A : Type 0} (l : List A) (x : A) → length (l ++ (x ∷ [])) ≡ length l + 1
snoc-more l x = length-append l (x ∷ [])

consume-few : (k : ℕ) (g : Lists) → Fewer (consume_missing k g) g
unfolding consume_missing drop_first
consume-few k g = by-test (λ (x : Lists). Fewer x g) (eqb k 0) (λ t. record { gaps = omega arith; runs = omega arith }) (λ t. at g.missing)
  where
    at : (ms : List Gap) → Fewer (consume_at (front_of ms) k (lists ms g.overflow_received)) (lists ms g.overflow_received)
    at [] = record { gaps = omega arith; runs = omega arith }
    at (h ∷ ms) =
        by-test (λ (x : Lists). Fewer x (lists (h ∷ ms) g.overflow_received)) (ltb (h.from.0 + k) h.end.0)
        (λ u. record { gaps = omega arith; runs = omega arith })
        (λ u. record { gaps = omega arith; runs = runs-few ms g.overflow_received })

fewer-tidy : (g : Lists) (s : Sess) → Fewer g s.gaps → TidyS s → TidyS (with_gaps g s)
fewer-tidy g s f t = record { config = t.config; few_gaps = let a = f.gaps in let b = t.few_gaps in omega arith; few_runs = let a = f.runs in let b = t.few_runs in omega arith; numbered = t.numbered }

consumed-tidy : (k : ℕ) (s : Sess) → TidyS s → TidyS (consumed k s)
consumed-tidy k s t = fewer-tidy (consume_missing k s.gaps) s (consume-few k s.gaps) t

-- ---- ending
released-tidy : (o : Option Outstanding) (s : Sess) → TidyS s → TidyS (released_at o s)
released-tidy None s t = t
released-tidy (Some o) s t = consumed-tidy o.delivered (with_outstanding None s) t

release-tidy : (s : Sess) → TidyS s → TidyS (release_binding_state s)
unfolding release_binding_state
release-tidy s t = released-tidy s.outstanding s t

finalize-tidy : (s : Sess) → TidyS s → TidyS (finalize_if_finished s)
unfolding finalize_if_finished
finalize-tidy s t = by-test TidyS (finished_receiving_sent s) (λ u. t) (λ u. t)

ended-tidy : (graceful : Bool) (s : Sess) → TidyS s → TidyS (ended_by graceful s)
ended-tidy true s t = finalize-tidy (release_binding_state s) (release-tidy s t)
ended-tidy false s t = release-tidy s t

fail-brief : (j : ℕ) (c : TerminationCode) (n : ℕ) (s : Sess) (b : Binding) → TidyS s → Brief 3 j (fail c n s b)
unfolding fail no_text
fail-brief j c n s b t =
    record {
      tidy = release-tidy s t;
      few = by-test (λ (l : List Output). length l ≤ 3) (is_established b.state) (λ u. omega arith) (λ u. omega arith);
      staying = tt;
      fit = by-test (λ (l : List Output). texts_fit l ≡ true) (is_established b.state) (λ u. refl) (λ u. refl);
    }

violation-brief : (j n : ℕ) (s : Sess) (b : Binding) → TidyS s → Brief 4 j (violation n s b)
unfolding violation saying fail no_text
violation-brief j n s b t =
    let d = saying-brief 1 3 j (event_with ev.ProtocolViolation n ∷ []) (fail code.UnspecifiedError n s b) (omega arith) refl (fail-brief j code.UnspecifiedError n s b t) in
    record { tidy = d.tidy; few = d.few; staying = tt; fit = d.fit }

-- a violation where up to k outputs are allowed; a step that stays with nothing to say
bad : (k j n : ℕ) (s : Sess) (b : Binding) → 4 ≤ k → TidyS s → Brief k j (violation n s b)
bad k j n s b h t = more 4 j k j (violation n s b) h (omega arith) (violation-brief j n s b t)

still : (k j : ℕ) (s : Sess) (b : Binding) → TidyS s → Brief k j (stays s b [])
still k j s b t = did-brief k j s b [] bound.Stay (Ok verdict.Done) t (omega arith) (omega arith) refl

-- ---- asking
ask_for-brief : (g : Option Gap) (now : Instant) (stamp : Nanotime) (s : Sess) (b : Binding) → TidyS s → Brief 3 1 (ask_for g now stamp s b)
unfolding ask no_text
ask_for-brief None now stamp s b t = still 3 1 s b t
ask_for-brief (Some g) now stamp s b t =
    by-test (Brief 3 1) (leb g.end.0 g.from.0) (λ u. still 3 1 s b t)
    (λ u. by-test (Brief 3 1) (eqb stamp.0 all_ones) (λ v. fail-brief 1 code.UnspecifiedError 20 s b t)
    (λ v. did-brief 3 1 (with_outstanding (Some (asked stamp g.from _ now)) s) (leave_sequence b) _ bound.Stay (Ok verdict.Done) t (omega arith) (omega arith) refl))

request-brief : (now : Instant) (stamp : Nanotime) (s : Sess) (b : Binding) → TidyS s → Brief 3 1 (request_missing now stamp s b)
unfolding request_missing
request-brief now stamp s b t =
    by-test (Brief 3 1) (is_established b.state && is_recoverable s.remote_flow && not (is_outstanding s.outstanding)) (λ u. ask_for-brief (front_of s.gaps.missing) now stamp s b t) (λ u. still 3 1 s b t)

finish_at-brief : (f : Option PeerFinished) (s : Sess) (b : Binding) → TidyS s → Brief 1 1 (finish_at f s b)
unfolding no_text
finish_at-brief None s b t = still 1 1 s b t
finish_at-brief (Some f) s b t =
    by-test (Brief 1 1) (f.receiving_sent || not (is_established b.state) || not (is_nil s.gaps.missing) || is_outstanding s.outstanding) (λ u. still 1 1 s b t)
    (λ u. did-brief 1 1 (with_peer_finished (Some (record { receiving_sent = true; end = f.end })) s) (leave_sequence b) _ bound.Stay (Ok verdict.Done) t (omega arith) (omega arith) refl)

finish-brief : (s : Sess) (b : Binding) → TidyS s → Brief 1 1 (maybe_finish_receiving s b)
unfolding maybe_finish_receiving
finish-brief s b t = finish_at-brief s.peer_finished s b t

recovered-brief : (now : Instant) (stamp : Nanotime) (s : Sess) (b : Binding) → TidyS s → Brief 3 2 (recovered now stamp s b)
unfolding recovered no_text
recovered-brief now stamp s b t =
    by-test (Brief 3 2) (is_nil s.gaps.missing)
    (λ u. let d : Did = saying (event ev.RecoveryComplete ∷ []) (maybe_finish_receiving s b) in more 2 2 3 2 d (omega arith) (omega arith) (saying-brief 1 1 1 (event ev.RecoveryComplete ∷ []) (maybe_finish_receiving s b) (omega arith) refl (finish-brief s b t)))
    (λ u. more 3 1 3 2 (request_missing now stamp s b) (omega arith) (omega arith) (request-brief now stamp s b t))

completed-tidy : (o : Option Outstanding) (s : Sess) → TidyS s → TidyS (completed_at o s)
completed-tidy None s t = t
completed-tidy (Some o) s t = consumed-tidy o.count (with_outstanding None s) t

complete-brief : (now : Instant) (stamp : Nanotime) (s : Sess) (b : Binding) → TidyS s → Brief 3 2 (complete_outstanding now stamp s b)
unfolding complete_outstanding
complete-brief now stamp s b t = recovered-brief now stamp (with_replay None (completed_at s.outstanding s)) b (completed-tidy s.outstanding s t)

header_at-brief : (o : Option Outstanding) (now : Instant) (m : Retransmission) (s : Sess) (b : Binding) → TidyS s → Brief 4 0 (header_at o now m s b)
header_at-brief None now m s b t = violation-brief 0 23 s b t
header_at-brief (Some o) now m s b t =
    by-test (Brief 4 0) (not (eqb m.request_timestamp.0 o.timestamp.0)) (λ u. violation-brief 0 24 s b t)
    (λ u. by-test (Brief 4 0) (not (in_range m o)) (λ v. violation-brief 0 25 s b t) (λ v. did-brief 4 0 _ b [] bound.Stay (Ok verdict.Done) t (omega arith) (omega arith) refl))

header-brief : (now : Instant) (m : Retransmission) (s : Sess) (b : Binding) → TidyS s → Brief 4 0 (on_retransmission now m s b)
unfolding on_retransmission
header-brief now m s b t =
    by-test (Brief 4 0) (not (is_recoverable s.remote_flow)) (λ u. violation-brief 0 21 s b t)
    (λ u. by-test (Brief 4 0) (not (same_id m.session_id s.id)) (λ v. violation-brief 0 22 s b t) (λ v. header_at-brief s.outstanding now m s b t))

one-fits : (x : Bool) → x ≡ true → x && true ≡ true
one-fits true e = refl
one-fits false e = e

unasked-brief : (s : Sess) (b : Binding) → TidyS s → Brief 4 3 (unasked s b)
unfolding no_text
unasked-brief s b t = did-brief 4 3 s b _ bound.Stay (Ok verdict.Done) t (omega arith) (omega arith) refl

rejected_at-brief : (o : Option Outstanding) (now : Instant) (stamp : Nanotime) (m : RetransmitReject) (text : Reason) (s : Sess) (b : Binding) → reason_fits text ≡ true → TidyS s → Brief 4 3 (rejected_at o now stamp m text s b)
rejected_at-brief None now stamp m text s b e t = unasked-brief s b t
rejected_at-brief (Some o) now stamp m text s b e t =
    by-test (Brief 4 3) (eqb o.timestamp.0 m.request_timestamp.0 && same_id m.session_id s.id)
    (λ u. saying-brief 1 3 2 (event_quoting (ev.RetransmitRejected o.from o.count m.code) text ∷ []) _ (omega arith) (one-fits (reason_fits text) e)
    (recovered-brief now stamp (consumed o.count (with_replay None (with_outstanding None s))) b (consumed-tidy o.count (with_replay None (with_outstanding None s)) t)))
    (λ u. unasked-brief s b t)

reject-brief : (now : Instant) (stamp : Nanotime) (m : RetransmitReject) (text : Reason) (s : Sess) (b : Binding) → reason_fits text ≡ true → TidyS s → Brief 4 3 (on_retransmit_reject now stamp m text s b)
unfolding on_retransmit_reject
reject-brief now stamp m text s b e t = rejected_at-brief s.outstanding now stamp m text s b e t

re_request-brief : (now : Instant) (stamp : Nanotime) (o : Outstanding) (s : Sess) (b : Binding) → TidyS s → Brief 3 1 (re_request now stamp o s b)
unfolding re_request
re_request-brief now stamp o s b t = request-brief now stamp (consumed o.delivered (with_replay None (with_outstanding None s))) b (consumed-tidy o.delivered (with_replay None (with_outstanding None s)) t)

-- ---- gaps
-- the gap list has room for one more where it may grow
room : (c : FixpConfig) → config_fits c ≡ true → c.max_pending_gaps ≤ 64
unfolding config_fits
room c e = leb-true c.max_pending_gaps 64 (and_right (leb 1 c.max_gap_len && leb 1 c.max_retransmit_count && leb 1 c.max_pending_gaps) (leb c.max_pending_gaps 64) e)

sequenced-number : (p : FlowType) (n : SeqNum) → If (is_sequenced p) (IsNumber (Some n))
sequenced-number flow.Recoverable n = tt
sequenced-number flow.Idempotent n = tt
sequenced-number flow.Unsequenced n = tt
sequenced-number flow.None n = tt

appended-few : (from to : SeqNum) (g : Lists) → length g.missing ≤ 64 → length g.overflow_received ≤ max_runs → Few (appended from to g)
appended-few from to g h r = (let s = snoc-more g.missing (gap_of from to) in omega arith, r)

widen-few : (last : Gap) (to : SeqNum) (g : Lists) → 1 ≤ length g.missing → Few g → Few (widen last to g)
unfolding widen
widen-few last to g h f = (let s = back-same g.missing (gap_of last.from (later_of last.end to)) h in let a = f.0 in omega arith, f.1)

-- what is kept of a gap has room
append_gap-few : (max : ℕ) (from to : SeqNum) (g : Lists) → max ≤ 64 → Few g → Few (append_gap max from to g).gaps
unfolding append_gap
append_gap-few max from to g h f =
    by-test (λ (k : Kept). Few k.gaps) (leb max (length g.missing)) (λ t. f)
    (λ t. appended-few from to g (let u = leb-false max (length g.missing) t in omega arith) f.1)

has_last : (m : Option Gap) (g h : Gap) (ms : List Gap) → HasLast m (h ∷ ms) → HasLast m (g ∷ h ∷ ms)
has_last None g h ms e = absurd (omega arith)
has_last (Some x) g h ms e = omega arith

back_last : (ms : List Gap) → HasLast (back_of ms) ms
back_last [] = refl
back_last (g ∷ []) = omega arith
back_last (g ∷ h ∷ ms) = has_last (back_of (h ∷ ms)) g h ms (back_last (h ∷ ms))

record_at-few : (m : Option Gap) (max : ℕ) (from to : SeqNum) (g : Lists) → HasLast m g.missing → max ≤ 64 → Few g → Few (record_at m max from to g).gaps
record_at-few None max from to g n h f = append_gap-few max from to g h f
record_at-few (Some last) max from to g n h f =
    by-test (λ (k : Kept). Few k.gaps) (eqb last.end.0 from.0)
    (λ t. (let s = back-same g.missing (gap_of last.from to) n in let a = f.0 in omega arith, f.1))
    (λ t. append_gap-few max from to g h f)

record-few : (max : ℕ) (from to : SeqNum) (g : Lists) → max ≤ 64 → Few g → Few (record_gap max from to g).gaps
unfolding record_gap
record-few max from to g h f = record_at-few (back_of g.missing) max from to g (back_last g.missing) h f

hold_at-few : (m : Option Gap) (from to : SeqNum) (g : Lists) → HasLast m g.missing → Few g → Few (hold_at m from to g).gaps
hold_at-few None from to g n f = appended-few from to g (omega arith) f.1
hold_at-few (Some last) from to g n f =
    by-test (λ (k : Kept). Few k.gaps) (leb from.0 last.end.0) (λ t. widen-few last to g n f)
    (λ t. by-test (λ (k : Kept). Few k.gaps) (leb max_runs (length g.overflow_received)) (λ u. f)
    (λ u. widen-few last to (lists g.missing (g.overflow_received ++ (gap_of last.end from ∷ []))) n (f.0, let s = snoc-more g.overflow_received (gap_of last.end from) in let v = leb-false max_runs (length g.overflow_received) u in omega arith)))

hold-few : (max : ℕ) (from to : SeqNum) (g : Lists) → max ≤ 64 → Few g → Few (hold_refused_gap max from to g).gaps
unfolding hold_refused_gap
hold-few max from to g h f =
    by-test (λ (k : Kept). Few k.gaps) (leb (length g.missing) max) (λ t. appended-few from to g (let u = leb-true (length g.missing) max t in omega arith) f.1)
    (λ t. hold_at-few (back_of g.missing) from to g (back_last g.missing) f)

few : (s : Sess) → TidyS s → Few s.gaps
few s t = (t.few_gaps, t.few_runs)

few-tidy : (g : Lists) (s : Sess) → Few g → TidyS s → TidyS (with_gaps g s)
few-tidy g s f t = record { config = t.config; few_gaps = f.0; few_runs = f.1; numbered = t.numbered }

-- the peer's next number is expected
number-tidy : (n : SeqNum) (s : Sess) → TidyS s → TidyS (with_inbound (Some n) s)
number-tidy n s t = record { config = t.config; few_gaps = t.few_gaps; few_runs = t.few_runs; numbered = sequenced-number s.remote_flow n }

gap_held-brief : (to : SeqNum) (k : Kept) (s : Sess) (b : Binding) → Few k.gaps → TidyS s → Brief 4 0 (gap_held to k s b)
unfolding gap_held
gap_held-brief to k s b f t =
    by-test (Brief 4 0) k.ok (λ u. violation-brief 0 18 (with_inbound (Some to) (with_gaps k.gaps s)) b (number-tidy to (with_gaps k.gaps s) (few-tidy k.gaps s f t)))
    (λ u. violation-brief 0 18 (with_gaps k.gaps s) b (few-tidy k.gaps s f t))

gap_recorded-brief : (now : Instant) (stamp : Nanotime) (from to : SeqNum) (k : Kept) (s : Sess) (b : Binding) → Few k.gaps → TidyS s → Brief 4 1 (gap_recorded now stamp from to k s b)
unfolding gap_recorded
gap_recorded-brief now stamp from to k s b f t =
    by-test (Brief 4 1) k.ok
    (λ u. let S : Sess = with_inbound (Some to) (with_gaps k.gaps s) in more 3 1 4 1 (request_missing now stamp S b) (omega arith) (omega arith) (request-brief now stamp S b (number-tidy to (with_gaps k.gaps s) (few-tidy k.gaps s f t))))
    (λ u. let h : Kept = hold_refused_gap s.config.max_pending_gaps from to k.gaps in more 4 0 4 1 (gap_held to h s b) (omega arith) (omega arith) (gap_held-brief to h s b (hold-few s.config.max_pending_gaps from to k.gaps (room s.config t.config) f) t))

-- ---- NotApplied to an Idempotent peer
allocate-brief : (s : Sess) (b : Binding) → TidyS s → Brief 1 1 (allocate_outbound s b)
unfolding allocate_outbound no_text
allocate-brief s b t =
    did-brief 1 1 (with_outbound (next s.outbound_next) s) _ _ bound.Stay (Ok verdict.Done) t
    (by-test (λ (l : List Output). length l ≤ 1) b.in_sequence (λ u. omega arith) (λ u. omega arith))
    (by-test (λ (l : List Output). length l ≤ 1) b.in_sequence (λ u. omega arith) (λ u. omega arith))
    (by-test (λ (l : List Output). texts_fit l ≡ true) b.in_sequence (λ u. refl) (λ u. refl))

numbered-brief : (now : Instant) (m : NotApplied) (s : Sess) (b : Binding) → TidyS s → Brief 3 2 (not_applied_numbered now m s b)
unfolding no_text
numbered-brief now m s b t =
    by-test (Brief 3 2) (outbound_exhausted s) (λ u. fail-brief 2 code.UnspecifiedError 39 s b t)
    (λ u. let a = allocate-brief s b t in let d : Did = allocate_outbound s b in more 2 2 3 2 (not_applied_after now s.outbound_next m d) (omega arith) (omega arith)
    (saying-brief 1 1 1 d.outs _ a.few a.fit (did-brief 1 1 d.session (with_keepalive now d.binding) _ bound.Stay (Ok verdict.Done) a.tidy (omega arith) (omega arith) refl)))

not_applied_on-brief : (p : FlowType) (now : Instant) (m : NotApplied) (s : Sess) (b : Binding) → TidyS s → Brief 3 2 (not_applied_on p now m s b)
unfolding no_text
not_applied_on-brief flow.None now m s b t = still 3 2 s b t
not_applied_on-brief flow.Unsequenced now m s b t = did-brief 3 2 s (with_keepalive now b) _ bound.Stay (Ok verdict.Done) t (omega arith) (omega arith) refl
not_applied_on-brief flow.Recoverable now m s b t = numbered-brief now m s b t
not_applied_on-brief flow.Idempotent now m s b t = numbered-brief now m s b t

gap_reported-brief : (now : Instant) (from to : SeqNum) (s : Sess) (b : Binding) → TidyS s → Brief 4 2 (gap_reported now from to s b)
unfolding gap_reported send_not_applied
gap_reported-brief now from to s b t =
    by-test (Brief 4 2) (leb (2 ^ 32) (to.0 - from.0)) (λ u. violation-brief 2 19 S b (number-tidy to s t))
    (λ u. by-test (Brief 4 2) (not (is_established b.state)) (λ v. still 4 2 S b (number-tidy to s t))
    (λ v. more 3 2 4 2 (not_applied_on s.local_flow now m S b) (omega arith) (omega arith) (not_applied_on-brief s.local_flow now m S b (number-tidy to s t))))
  where
    S : Sess
    S = with_inbound (Some to) s

    m : NotApplied
    m = record { from_seq_no = from; count = to.0 - from.0 }

gap_on-brief : (p : FlowType) (now : Instant) (stamp : Nanotime) (from to : SeqNum) (s : Sess) (b : Binding) → TidyS s → Brief 4 2 (gap_on p now stamp from to s b)
gap_on-brief flow.Recoverable now stamp from to s b t =
    let k : Kept = record_gap s.config.max_pending_gaps from to s.gaps in
    more 4 1 4 2 (gap_recorded now stamp from to k s b) (omega arith) (omega arith) (gap_recorded-brief now stamp from to k s b (record-few s.config.max_pending_gaps from to s.gaps (room s.config t.config) (few s t)) t)
gap_on-brief flow.Idempotent now stamp from to s b t = gap_reported-brief now from to s b t
gap_on-brief flow.Unsequenced now stamp from to s b t = still 4 2 (with_inbound (Some to) s) b (number-tidy to s t)
gap_on-brief flow.None now stamp from to s b t = still 4 2 (with_inbound (Some to) s) b (number-tidy to s t)

on_gap-brief : (now : Instant) (stamp : Nanotime) (from to : SeqNum) (s : Sess) (b : Binding) → TidyS s → Brief 5 3 (on_gap now stamp from to s b)
unfolding on_gap no_text
on_gap-brief now stamp from to s b t = saying-brief 1 4 2 (event (ev.SequenceGap from (to.0 - from.0)) ∷ []) _ (omega arith) refl (gap_on-brief s.remote_flow now stamp from to s b t)

-- ---- announced numbers
stop_at-tidy : (r : Option Replay) (now : Instant) (s : Sess) → TidyS s → TidyS (stop_at r now s)
stop_at-tidy None now s t = t
stop_at-tidy (Some r) now s t = t

announced_to-brief : (x : Option SeqNum) (now : Instant) (stamp : Nanotime) (to : SeqNum) (s : Sess) (b : Binding) → TidyS s → Brief 5 3 (announced_to x now stamp to s b)
announced_to-brief None now stamp to s b t = still 5 3 (with_inbound (Some to) s) b (number-tidy to s t)
announced_to-brief (Some e) now stamp to s b t =
    by-test (Brief 5 3) (ltb to.0 e.0) (λ u. bad 5 3 17 s b (omega arith) t)
    (λ u. by-test (Brief 5 3) (eqb to.0 e.0) (λ v. still 5 3 s b t)
    (λ v. by-test (Brief 5 3) (ltb s.config.max_gap_len (to.0 - e.0)) (λ w. bad 5 3 16 s b (omega arith) t) (λ w. on_gap-brief now stamp e to s b t)))

announced-brief : (now : Instant) (stamp : Nanotime) (to : SeqNum) (s : Sess) (b : Binding) → TidyS s → Brief 5 3 (announced now stamp to s b)
unfolding announced
announced-brief now stamp to s b t = by-test (Brief 5 3) s.start_pending (λ u. still 5 3 (with_inbound (Some to) (with_start false s)) b (number-tidy to s t)) (λ u. announced_to-brief s.inbound_next now stamp to s b t)

next-brief : (now : Instant) (stamp : Nanotime) (to : SeqNum) (s : Sess) (b : Binding) → TidyS s → Brief 5 3 (on_next_seq now stamp to s b)
unfolding on_next_seq stop_replay
next-brief now stamp to s b t =
    by-test (Brief 5 3) (not (is_sequenced s.remote_flow)) (λ u. bad 5 3 13 s b (omega arith) t)
    (λ u. by-test (Brief 5 3) (eqb to.0 0) (λ v. bad 5 3 14 s b (omega arith) t)
    (λ v. by-test (Brief 5 3) (past_finished s.peer_finished to.0) (λ w. bad 5 3 15 s b (omega arith) t)
    (λ w. announced-brief now stamp to (stop_at s.replay now (with_awaiting false s)) b (stop_at-tidy s.replay now (with_awaiting false s) t))))

-- ---- application messages
complete_if-brief : (c : Bool) (now : Instant) (stamp : Nanotime) (s : Sess) (b : Binding) → TidyS s → Brief 3 2 (complete_if c now stamp s b)
unfolding complete_if
complete_if-brief c now stamp s b t = by-test (Brief 3 2) c (λ u. complete-brief now stamp s b t) (λ u. still 3 2 s b t)

counted-tidy : (o : Option Outstanding) (now : Instant) (last : Bool) (s : Sess) → TidyS s → TidyS (counted_at o now last s).session
counted-tidy None now last s t = t
counted-tidy (Some o) now last s t = by-test (λ (k : Counted). TidyS k.session) (eqb o.delivered (2 ^ 32 - 1)) (λ u. t) (λ u. t)

replayed-brief : (now : Instant) (stamp : Nanotime) (r : Replay) (s : Sess) (b : Binding) → TidyS s → Brief 4 2 (on_replayed now stamp r s b)
unfolding on_replayed replayed_counted received_in_overflow count_delivered
replayed-brief now stamp r s b t =
    by-test (Brief 4 2) (eqb r.next.0 all_ones) (λ u. answering-brief 4 2 discard (violation 7 s b) (violation-brief 2 7 s b t))
    (λ u. let S : Sess = with_replay (replay_after r) s in
    let k : Counted = counted_at s.outstanding now (leb r.remaining 1) S in
    let g : Lists = lists k.session.gaps.missing (drop_below r.next.0 k.session.gaps.overflow_received) in
    let c = counted-tidy s.outstanding now (leb r.remaining 1) S t in
    let d : Did = complete_if k.complete now stamp (with_gaps g k.session) b in
    answering-brief 4 2 _ d (more 3 2 4 2 d (omega arith) (omega arith) (complete_if-brief k.complete now stamp (with_gaps g k.session) b
    (fewer-tidy g k.session (record { gaps = omega arith; runs = drop-few r.next.0 k.session.gaps.overflow_received }) c))))

numbered_as-brief : (x : Option SeqNum) (s : Sess) (b : Binding) → TidyS s → Brief 4 2 (numbered_as x s b)
numbered_as-brief None s b t = answering-brief 4 2 discard (violation 11 s b) (violation-brief 2 11 s b t)
numbered_as-brief (Some n) s b t =
    by-test (Brief 4 2) (eqb n.0 all_ones) (λ u. answering-brief 4 2 discard (violation 12 s b) (violation-brief 2 12 s b t))
    (λ u. did-brief 4 2 (with_inbound (Some (next n)) s) b [] bound.Stay _ (number-tidy (next n) s t) (omega arith) (omega arith) refl)

live-brief : (s : Sess) (b : Binding) → TidyS s → Brief 4 2 (number_live s b)
unfolding number_live
live-brief s b t = by-test (Brief 4 2) s.awaiting_resume (λ u. answering-brief 4 2 discard (violation 10 s b) (violation-brief 2 10 s b t)) (λ u. numbered_as-brief s.inbound_next (with_start false s) b t)

live_on-brief : (p : FlowType) (s : Sess) (b : Binding) → TidyS s → Brief 4 2 (live_on p s b)
live_on-brief flow.None s b t = answering-brief 4 2 discard (violation 9 s b) (violation-brief 2 9 s b t)
live_on-brief flow.Unsequenced s b t = did-brief 4 2 s b [] bound.Stay _ t (omega arith) (omega arith) refl
live_on-brief flow.Recoverable s b t = live-brief s b t
live_on-brief flow.Idempotent s b t = live-brief s b t

arrived_in-brief : (r : Option Replay) (now : Instant) (stamp : Nanotime) (s : Sess) (b : Binding) → TidyS s → Brief 4 2 (arrived_in r now stamp s b)
unfolding on_live
arrived_in-brief None now stamp s b t = by-test (Brief 4 2) (is_peer_finished s.peer_finished) (λ u. answering-brief 4 2 discard (violation 8 s b) (violation-brief 2 8 s b t)) (λ u. live_on-brief s.remote_flow s b t)
arrived_in-brief (Some r) now stamp s b t = replayed-brief now stamp r s b t

pub application-brief : (now : Instant) (stamp : Nanotime) (s : Sess) (b : Binding) → TidyS s → Brief 4 2 (on_application now stamp s b)
unfolding on_application no_text
application-brief now stamp s b t = by-test (Brief 4 2) (is_closing b.state) (λ u. did-brief 4 2 s b _ bound.Stay _ t (omega arith) (omega arith) refl) (λ u. arrived_in-brief s.replay now stamp s (with_received now b) t)

-- the event of an Applied or NotApplied follows
reporting-brief : (e : Event) (d : Did) → Brief 4 2 d → Brief 5 3 (reporting e d)
unfolding reporting no_text
reporting-brief e d b =
    by-test (Brief 5 3) (is_accept d.answer)
    (λ u. record {
      tidy = b.tidy;
      few = let s = snoc-more d.outs (event e) in let f = b.few in omega arith;
      staying = on_stay-map d.bound (λ f. let s = snoc-more d.outs (event e) in omega arith) b.staying;
      fit = fits-app d.outs (event e ∷ []) b.fit refl;
    })
    (λ u. more 4 2 5 3 d (omega arith) (omega arith) b)

applied-brief : (now : Instant) (stamp : Nanotime) (e : Event) (s : Sess) (b : Binding) → TidyS s → Brief 5 3 (on_applied now stamp e s b)
unfolding on_applied
applied-brief now stamp e s b t = reporting-brief e (on_application now stamp s b) (application-brief now stamp s b t)

not_applied-brief : (now : Instant) (stamp : Nanotime) (e : Event) (s : Sess) (b : Binding) → TidyS s → Brief 5 3 (on_not_applied now stamp e s b)
unfolding on_not_applied
not_applied-brief now stamp e s b t = by-test (Brief 5 3) (not (is_idempotent s.local_flow)) (λ u. answering-brief 5 3 discard (violation 4 s b) (bad 5 3 4 s b (omega arith) t)) (λ u. applied-brief now stamp e s b t)

-- ---- serving
refuse-brief : (m : RetransmitRequest) (c : RetransmitRejectCode) (n : ℕ) (s : Sess) (b : Binding) → TidyS s → Brief 4 2 (refuse_retransmit m c n s b)
unfolding refuse_retransmit no_text
refuse-brief m c n s b t = did-brief 4 2 s (leave_sequence b) _ bound.Stay (Ok verdict.Done) t (omega arith) (omega arith) refl

served-brief : (m : RetransmitRequest) (s : Sess) (b : Binding) → TidyS s → Brief 4 2 (on_retransmit_request m s b)
unfolding on_retransmit_request serve no_text
served-brief m s b t =
    by-test (Brief 4 2) (not (is_established b.state)) (λ u. did-brief 4 2 s b _ bound.Stay (Ok verdict.Done) t (omega arith) (omega arith) refl)
    (λ u. by-test (Brief 4 2) (not (is_recoverable s.local_flow)) (λ v. violation-brief 2 28 s b t)
    (λ v. by-test (Brief 4 2) (not (same_id m.session_id s.id)) (λ w. refuse-brief m _ 29 s b t)
    (λ w. by-test (Brief 4 2) (is_serving s.provider) (λ x. saying-brief 1 3 1 (event_with ev.ProtocolViolation 30 ∷ []) (fail code.ReRequestInProgress 30 s b) (omega arith) refl (fail-brief 1 code.ReRequestInProgress 30 s b t))
    (λ x. by-test (Brief 4 2) (eqb m.count 0) (λ y. refuse-brief m _ 31 s b t)
    (λ y. by-test (Brief 4 2) (ltb s.config.max_retransmit_count m.count) (λ z. refuse-brief m _ 32 s b t)
    (λ z. by-test (Brief 4 2) (not (is_sent m s)) (λ a. refuse-brief m _ 33 s b t) (λ a. did-brief 4 2 (with_provider _ s) b _ bound.Stay (Ok verdict.Done) t (omega arith) (omega arith) refl)))))))

-- ---- finishing
finished_with-brief : (e : Option SeqNum) (s : Sess) (b : Binding) → TidyS s → Brief 1 1 (finished_with e s b)
unfolding finished_with
finished_with-brief e s b t = finish-brief (with_peer_finished (Some (record { receiving_sent = false; end = e })) s) b t

last_at-brief : (x : Option SeqNum) (now : Instant) (stamp : Nanotime) (s : Sess) (b : Binding) → TidyS s → Brief 5 4 (last_at x now stamp s b)
last_at-brief None now stamp s b t = bad 5 4 36 s b (omega arith) t
last_at-brief (Some last) now stamp s b t =
    by-test (Brief 5 4) (eqb last.0 all_ones) (λ u. bad 5 4 37 s b (omega arith) t)
    (λ u. by-test (Brief 5 4) (below s.inbound_next (last.0 + 1)) (λ v. bad 5 4 38 s b (omega arith) t)
    (λ v. let d : Did = on_next_seq now stamp (next last) s b in and_then-brief 5 3 1 1 5 4 d (finished_with (Some (next last))) (omega arith) (omega arith) (omega arith) (next-brief now stamp (next last) s b t) (λ t'. finished_with-brief (Some (next last)) d.session d.binding t')))

finished-brief : (now : Instant) (stamp : Nanotime) (m : FinishedSending) (s : Sess) (b : Binding) → TidyS s → Brief 6 5 (on_finished_sending now stamp m s b)
unfolding on_finished_sending finished_sending no_text
finished-brief now stamp m s b t =
    by-test (Brief 6 5) (not (same_id m.session_id s.id)) (λ u. bad 6 5 35 s b (omega arith) t)
    (λ u. by-test (Brief 6 5) (is_peer_finished s.peer_finished) (λ v. still 6 5 s b t)
    (λ v. saying-brief 1 5 4 (event (ev.PeerFinishedSending m.last_seq_no) ∷ []) _ (omega arith) refl
    (by-test (Brief 5 4) (is_sequenced s.remote_flow) (λ w. last_at-brief m.last_seq_no now stamp s b t)
    (λ w. more 1 1 5 4 (finished_with None s b) (omega arith) (omega arith) (finished_with-brief None s b t)))))

-- ---- binding
resume-brief : (now : Instant) (stamp : Nanotime) (s : Sess) (b : Binding) → TidyS s → Brief 3 2 (resume now stamp s b)
unfolding resume
resume-brief now stamp s b t =
    let d : Did = request_missing now stamp s b in
    and_then-brief 3 1 1 1 3 2 d maybe_finish_receiving (omega arith) (omega arith) (omega arith) (request-brief now stamp s b t) (λ t'. finish-brief d.session d.binding t')

established_at-brief : (x : Option SeqNum) (now : Instant) (stamp : Nanotime) (s : Sess) (b : Binding) → TidyS s → Brief 6 5 (established_at x now stamp s b)
established_at-brief None now stamp s b t = more 3 2 6 5 (resume now stamp s b) (omega arith) (omega arith) (resume-brief now stamp s b t)
established_at-brief (Some n) now stamp s b t =
    let d : Did = on_next_seq now stamp n s b in
    and_then-brief 5 3 3 2 6 5 d (resume now stamp) (omega arith) (omega arith) (omega arith) (next-brief now stamp n s b t) (λ t'. resume-brief now stamp d.session d.binding t')

pub bind-brief : (now : Instant) (stamp : Nanotime) (l r : ℕ) (x : Option SeqNum) (s : Sess) → TidyS s → Brief 6 5 (bind now stamp l r x s)
unfolding bind on_established
bind-brief now stamp l r x s t =
    let R : Sess = release_binding_state s in
    let b : Binding = established now l r in
    by-test (Brief 6 5) (is_sequenced R.remote_flow) (λ u. established_at-brief x now stamp R b (release-tidy s t)) (λ u. more 3 2 6 5 (resume now stamp R b) (omega arith) (omega arith) (resume-brief now stamp R b (release-tidy s t)))

-- ---- messages of the peer
terminate_at-brief : (k : BindState) (now : Instant) (reason : Reason) (m : Terminate) (text : Reason) (s : Sess) (b : Binding) → reason_fits reason ≡ true → reason_fits text ≡ true → TidyS s → Brief 4 2 (terminate_at k now reason m text s b)
unfolding no_text
terminate_at-brief state.Established now reason m text s b f g t = did-brief 4 2 (ended_by (is_finished m.code) s) _ _ bound.Stay (Ok verdict.Done) (ended-tidy (is_finished m.code) s t) (omega arith) (omega arith) (one-fits (reason_fits text) g)
terminate_at-brief (state.Terminating u c) now reason m text s b f g t = did-brief 4 2 (ended_by (is_finished c && is_finished m.code) s) b _ bound.Unbind (Ok verdict.Done) (ended-tidy (is_finished c && is_finished m.code) s t) (omega arith) tt (one-fits (reason_fits reason) f)
terminate_at-brief (state.Closing d) now reason m text s b f g t = still 4 2 s b t

terminated-brief : (now : Instant) (reason : Reason) (m : Terminate) (text : Reason) (s : Sess) (b : Binding) → reason_fits reason ≡ true → reason_fits text ≡ true → TidyS s → Brief 4 2 (on_terminate now reason m text s b)
unfolding on_terminate
terminated-brief now reason m text s b f g t = by-test (Brief 4 2) (not (same_id m.session_id s.id)) (λ u. violation-brief 2 34 s b t) (λ u. terminate_at-brief b.state now reason m text s b f g t)

context-brief : (now : Instant) (stamp : Nanotime) (m : Context) (s : Sess) (b : Binding) → TidyS s → Brief 5 3 (on_context now stamp m s b)
unfolding on_context
context-brief now stamp m s b t =
    by-test (Brief 5 3) (not (same_id m.session_id s.id)) (λ u. bad 5 3 2 s b (omega arith) t)
    (λ u. by-test (Brief 5 3) (eqb m.next_seq_no.0 all_ones) (λ v. still 5 3 s b t) (λ v. next-brief now stamp m.next_seq_no s b t))

heartbeat-brief : (s : Sess) (b : Binding) → TidyS s → Brief 6 5 (on_unsequenced_heartbeat s b)
unfolding on_unsequenced_heartbeat
heartbeat-brief s b t = by-test (Brief 6 5) (is_sequenced s.remote_flow) (λ u. bad 6 5 3 s b (omega arith) t) (λ u. still 6 5 s b t)

message-brief : (m : PeerMessage) (now : Instant) (stamp : Nanotime) (reason text : Reason) (s : Sess) (b : Binding) → reason_fits reason ≡ true → reason_fits text ≡ true → TidyS s → Brief 6 5 (on_message m now stamp reason text s b)
message-brief peer.Topic now stamp reason text s b f g t = bad 6 5 5 s b (omega arith) t
message-brief (peer.Sequence m) now stamp reason text s b f g t = more 5 3 6 5 _ (omega arith) (omega arith) (next-brief now stamp m.next_seq_no s b t)
message-brief (peer.Context m) now stamp reason text s b f g t = more 5 3 6 5 _ (omega arith) (omega arith) (context-brief now stamp m s b t)
message-brief peer.UnsequencedHeartbeat now stamp reason text s b f g t = heartbeat-brief s b t
message-brief (peer.RetransmitRequest m) now stamp reason text s b f g t = more 4 2 6 5 _ (omega arith) (omega arith) (served-brief m s b t)
message-brief (peer.Retransmission m) now stamp reason text s b f g t = more 4 0 6 5 _ (omega arith) (omega arith) (header-brief now m s b t)
message-brief (peer.RetransmitReject m) now stamp reason text s b f g t = more 4 3 6 5 _ (omega arith) (omega arith) (reject-brief now stamp m text s b g t)
message-brief (peer.Terminate m) now stamp reason text s b f g t = more 4 2 6 5 _ (omega arith) (omega arith) (terminated-brief now reason m text s b f g t)
message-brief (peer.FinishedSending m) now stamp reason text s b f g t = finished-brief now stamp m s b t
message-brief peer.FinishedReceiving now stamp reason text s b f g t = bad 6 5 6 s b (omega arith) t
message-brief (peer.Applied m) now stamp reason text s b f g t = more 5 3 6 5 _ (omega arith) (omega arith) (applied-brief now stamp (ev.Applied m.from_seq_no m.count) s b t)
message-brief (peer.NotApplied m) now stamp reason text s b f g t = more 5 3 6 5 _ (omega arith) (omega arith) (not_applied-brief now stamp (ev.NotApplied m.from_seq_no m.count) s b t)
message-brief peer.MessageTemplate now stamp reason text s b f g t = still 6 5 s b t

pub peer-brief : (m : PeerMessage) (now : Instant) (stamp : Nanotime) (reason text : Reason) (s : Sess) (b : Binding) → reason_fits reason ≡ true → reason_fits text ≡ true → TidyS s → Brief 6 5 (on_peer m now stamp reason text s b)
unfolding on_peer no_text
peer-brief m now stamp reason text s b f g t =
    by-test (Brief 6 5) (is_closing b.state) (λ u. did-brief 6 5 s b _ bound.Stay _ t (omega arith) (omega arith) refl) (λ u. message-brief m now stamp reason text s (with_received now b) f g t)

-- ---- local calls
pub send-brief : (now : Instant) (s : Sess) (b : Binding) → TidyS s → Brief 6 5 (local.send_application now s b)
unfolding local.send_application
send-brief now s b t =
    by-test (Brief 6 5) (is_sequenced s.local_flow)
    (λ u. let a = allocate-brief s b t in let d : Did = allocate_outbound s b in answering-brief 6 5 _ (local.kept_alive now d) (record { tidy = a.tidy; few = let f = a.few in omega arith; staying = on_stay-map d.bound (λ f. omega arith) a.staying; fit = a.fit }))
    (λ u. did-brief 6 5 s _ [] bound.Stay _ t (omega arith) (omega arith) refl)

pub terminate-brief : (now : Instant) (c : TerminationCode) (text : Reason) (s : Sess) (b : Binding) → reason_fits text ≡ true → TidyS s → Brief 6 5 (local.terminate now c text s b)
unfolding local.terminate no_text
terminate-brief now c text s b e t =
    by-test (Brief 6 5) (is_finished c) (λ u. did-brief 6 5 (with_provider None s) _ _ bound.Stay (Ok verdict.Done) t (omega arith) (omega arith) (one-fits (reason_fits text) e))
    (λ u. did-brief 6 5 (release_binding_state s) b _ bound.Unbind (Ok verdict.Done) (release-tidy s t) (omega arith) tt (two-fit (reason_fits text) e))
  where
    two-fit : (x : Bool) → x ≡ true → x && (x && true) ≡ true
    two-fit true e = refl
    two-fit false e = e

pub batch_at-brief : (v : Option Provider) (now : Instant) (count : ℕ) (s : Sess) (b : Binding) → TidyS s → Brief 6 5 (local.batch_at v now count s b)
unfolding local.batch no_text
batch_at-brief None now count s b t = still 6 5 s b t
batch_at-brief (Some v) now count s b t = did-brief 6 5 (with_provider (local.provider_after count v) s) _ _ bound.Stay _ t (omega arith) (omega arith) refl

pub reject_at-brief : (v : Option Provider) (c : RetransmitRejectCode) (text : Reason) (s : Sess) (b : Binding) → reason_fits text ≡ true → TidyS s → Brief 6 5 (local.reject_at v c text s b)
reject_at-brief None c text s b e t = still 6 5 s b t
reject_at-brief (Some v) c text s b e t = did-brief 6 5 (with_provider None s) (leave_sequence b) _ bound.Stay (Ok verdict.Done) t (omega arith) (omega arith) (one-fits (reason_fits text) e)

-- ---- timers
stall_by-brief : (p : RetransmitStallPolicy) (now : Instant) (stamp : Nanotime) (o : Outstanding) (s : Sess) (b : Binding) → TidyS s → Brief 3 1 (stall_by p now stamp o s b)
unfolding wait_out
stall_by-brief policy.Terminate now stamp o s b t = fail-brief 1 code.UnspecifiedError 41 s b t
stall_by-brief policy.ReRequestAfterContextSwitch now stamp o s b t = by-test (Brief 3 1) o.interrupted (λ u. re_request-brief now stamp o s b t) (λ u. still 3 1 _ b t)
stall_by-brief policy.ReRequestAfterBatch now stamp o s b t = by-test (Brief 3 1) (o.interrupted || o.batch_complete) (λ u. re_request-brief now stamp o s b t) (λ u. still 3 1 _ b t)
stall_by-brief policy.EventOnly now stamp o s b t = still 3 1 _ b t

stall_of-brief : (o : Option Outstanding) (now : Instant) (stamp : Nanotime) (s : Sess) (b : Binding) → TidyS s → Brief 4 2 (stall_of o now stamp s b)
unfolding on_stall no_text
stall_of-brief None now stamp s b t = still 4 2 s b t
stall_of-brief (Some o) now stamp s b t = saying-brief 1 3 1 (event (ev.RetransmitTimedOut o.from o.count) ∷ []) _ (omega arith) refl (stall_by-brief s.config.retransmit_stall_policy now stamp o s b t)

stall-brief : (now : Instant) (stamp : Nanotime) (s : Sess) (b : Binding) → TidyS s → Brief 4 2 (stall_if_due now stamp s b)
unfolding stall_if_due
stall-brief now stamp s b t = by-test (Brief 4 2) (is_due (stall_deadline s) now) (λ u. stall_of-brief s.outstanding now stamp s b t) (λ u. still 4 2 s b t)

beat-brief : (now : Instant) (s : Sess) (b : Binding) → TidyS s → Brief 1 1 (heartbeat_if_due now s b)
unfolding heartbeat_if_due heartbeat no_text
beat-brief now s b t =
    by-test (Brief 1 1) (is_due (heartbeat_deadline b) now)
    (λ u. by-test (Brief 1 1) (is_sequenced s.local_flow) (λ v. did-brief 1 1 s _ _ bound.Stay (Ok verdict.Done) t (omega arith) (omega arith) refl) (λ v. did-brief 1 1 s _ _ bound.Stay (Ok verdict.Done) t (omega arith) (omega arith) refl))
    (λ u. still 1 1 s b t)

pub timeout_in-brief : (k : BindState) (now : Instant) (stamp : Nanotime) (reason : Reason) (s : Sess) (b : Binding) → reason_fits reason ≡ true → TidyS s → Brief 6 5 (timeout_in k now stamp reason s b)
unfolding established_timeout no_text
timeout_in-brief state.Established now stamp reason s b f t =
    by-test (Brief 6 5) (is_due (silence_deadline s b) now)
    (λ u. let d : Did = saying (event ev.KeepaliveLapsed ∷ []) (fail code.UnspecifiedError 40 s b) in more 4 5 6 5 d (omega arith) (omega arith) (saying-brief 1 3 4 (event ev.KeepaliveLapsed ∷ []) (fail code.UnspecifiedError 40 s b) (omega arith) refl (fail-brief 4 code.UnspecifiedError 40 s b t)))
    (λ u. let d : Did = stall_if_due now stamp s b in and_then-brief 4 2 1 1 6 5 d (heartbeat_if_due now) (omega arith) (omega arith) (omega arith) (stall-brief now stamp s b t) (λ t'. beat-brief now d.session d.binding t'))
timeout_in-brief (state.Terminating sent c) now stamp reason s b f t =
    by-test (Brief 6 5) (is_due (deadline_at (sent.0 + b.local_keepalive)) now) (λ u. did-brief 6 5 (release_binding_state s) b _ bound.Unbind (Ok verdict.Done) (release-tidy s t) (omega arith) tt (one-fits (reason_fits reason) f)) (λ u. still 6 5 s b t)
timeout_in-brief (state.Closing deadline) now stamp reason s b f t = by-test (Brief 6 5) (is_due deadline now) (λ u. did-brief 6 5 s b _ bound.Unbind (Ok verdict.Done) t (omega arith) tt refl) (λ u. still 6 5 s b t)

-- ---- every call
passed : (a : Bool) (x : _) (r : Refused) → Passes (unless a x r) → (a ≡ true) × Passes r
passed true x r h = (refl, h)
passed false x r h = absurd h

link_fits : (u : Bound) (b : Binding) (reason : Reason) → reason_fits reason ≡ true → reason_fits (link_after u b reason).reason ≡ true
unfolding no_text
link_fits bound.Stay b reason e = e
link_fits bound.Unbind b reason e = refl

ran-snug : (w : World) (reason : Reason) (k : ℕ) (d : Did) → Snug w → length w.queue.outs + k ≤ max_outs → reason_fits reason ≡ true → Brief k 5 d → Snug (ran_as w.queue reason d).world
unfolding queued
ran-snug w reason k d i r e b =
    record {
      session = b.tidy;
      reason = link_fits d.bound d.binding reason e;
      few = let s = length-append w.queue.outs d.outs in let f = b.few in omega arith;
      fit = fits-app w.queue.outs d.outs i.fit b.fit;
    }

in-link : (w : World) (f : Binding → Refused) (k : Binding → Did) (reason : Reason) (m : Option Binding) → Passes (if_bound m f) → ((b : Binding) → Passes (f b) → Snug (ran_as w.queue reason (k b)).world) → Snug (rules.within w m k reason).world
in-link w f k reason None h g = absurd h
in-link w f k reason (Some b) h g = g b h

room_fits : (q : Queue) → has_room q ≡ true → length q.outs + 6 ≤ max_outs
room_fits q e = leb-true (length q.outs + 6) max_outs e

done-snug : (c : Call) (w : World) → Snug w → Passes (wrong c w) → Snug (does c w).world
unfolding no_text local.terminate_refused local.reject_refused local.retransmit local.reject_retransmit_request local.end_retransmission on_timeout
done-snug (bind_call now stamp l r x) w i h =
    let a = passed (sound w) _ _ h in
    let b = passed (not (rules.is_bound w.link.binding)) _ _ a.1 in
    let c = passed (has_room w.queue) _ _ b.1 in
    ran-snug w no_text 6 (bind now stamp l r x w.session) i (room_fits w.queue c.0) refl (bind-brief now stamp l r x w.session i.session)
done-snug release_call w i h = record { session = release-tidy w.session i.session; reason = refl; few = i.few; fit = i.fit }
done-snug (peer_call now stamp m text) w i h =
    in-link w _ (on_peer m now stamp w.link.reason text w.session) w.link.reason w.link.binding (passed (sound w) _ _ h).1
    (λ b p. let a = passed (reason_fits text) _ _ p in let c = passed (has_room w.queue) _ _ a.1 in
    ran-snug w w.link.reason 6 (on_peer m now stamp w.link.reason text w.session b) i (room_fits w.queue c.0) i.reason (peer-brief m now stamp w.link.reason text w.session b i.reason a.0 i.session))
done-snug (application_call now stamp) w i h =
    in-link w _ (on_application now stamp w.session) w.link.reason w.link.binding (passed (sound w) _ _ h).1
    (λ b p. ran-snug w w.link.reason 6 (on_application now stamp w.session b) i (room_fits w.queue (passed (has_room w.queue) _ _ p).0) i.reason (more 4 2 6 5 _ (omega arith) (omega arith) (application-brief now stamp w.session b i.session)))
done-snug (send_call now) w i h =
    in-link w _ (local.send_application now w.session) w.link.reason w.link.binding (passed (sound w) _ _ h).1
    (λ b p. ran-snug w w.link.reason 6 (local.send_application now w.session b) i (room_fits w.queue (passed (has_room w.queue) _ _ p).0) i.reason (send-brief now w.session b i.session))
done-snug (terminate_call now c text) w i h =
    in-link w _ (local.terminate now c text w.session) text w.link.binding (passed (sound w) _ _ h).1
    (λ b p. let a = passed (has_room w.queue) _ _ p in let e = passed (is_established b.state) _ _ a.1 in let f = passed (reason_fits text) _ _ e.1 in
    ran-snug w text 6 (local.terminate now c text w.session b) i (room_fits w.queue a.0) f.0 (terminate-brief now c text w.session b f.0 i.session))
done-snug (retransmit_call now count) w i h =
    in-link w _ (local.retransmit now count w.session) w.link.reason w.link.binding (passed (sound w) _ _ h).1
    (λ b p. let a = passed (not (eqb count 0)) _ _ p in let c = passed (has_room w.queue) _ _ a.1 in
    ran-snug w w.link.reason 6 (local.retransmit now count w.session b) i (room_fits w.queue c.0) i.reason (batch_at-brief w.session.provider now count w.session b i.session))
done-snug (reject_call c text) w i h =
    in-link w _ (local.reject_retransmit_request c text w.session) w.link.reason w.link.binding (passed (sound w) _ _ h).1
    (λ b p. let a = passed (has_room w.queue) _ _ p in let e = passed (is_established b.state) _ _ a.1 in let f = passed (reason_fits text) _ _ e.1 in
    ran-snug w w.link.reason 6 (local.reject_retransmit_request c text w.session b) i (room_fits w.queue a.0) i.reason (reject_at-brief w.session.provider c text w.session b f.0 i.session))
done-snug end_call w i h =
    in-link w _ (local.end_retransmission w.session) w.link.reason w.link.binding (passed (sound w) _ _ h).1
    (λ b p. ran-snug w w.link.reason 0 (local.end_retransmission w.session b) i (let f = i.few in omega arith) i.reason (still 0 5 (with_provider None w.session) b i.session))
done-snug (timeout_call now stamp) w i h =
    in-link w _ (on_timeout now stamp w.link.reason w.session) w.link.reason w.link.binding (passed (sound w) _ _ h).1
    (λ b p. ran-snug w w.link.reason 6 (on_timeout now stamp w.link.reason w.session b) i (room_fits w.queue (passed (has_room w.queue) _ _ p).0) i.reason (timeout_in-brief b.state now stamp w.link.reason w.session b i.reason i.session))

call-snug : (c : Call) (w : World) → Snug w → Snug (call c w).world
unfolding call
call-snug c w i = go (wrong c w) (λ h. h)
  where
    go : (r : Refused) → (Passes r → Passes (wrong c w)) → Snug (ran_if r (does c w) w).world
    go passes h = done-snug c w i (h tt)
    go (refuses r) h = i

rest-fits : (l : List Output) → texts_fit l ≡ true → texts_fit (rest l) ≡ true
rest-fits [] e = refl
rest-fits (o ∷ l) e = and_right (reason_fits o.text) (texts_fit l) e

read-snug : (r : Refused) (q : Queue) (w : World) → length q.outs ≤ max_outs → texts_fit q.outs ≡ true → Snug w → Snug (read_as r q w)
read-snug passes q w f e i = record { session = i.session; reason = i.reason; few = f; fit = e }
read-snug (refuses r) q w f e i = i

used-snug : (w : World) (x : Use) → Snug w → Snug (used w x)
unfolding used
used-snug w (uses c) i = call-snug c w i
used-snug w takes i = read-snug (reading w) (polled w.queue) w (let a = rest-few w.queue.outs in let b = i.few in omega arith) (rest-fits w.queue.outs i.fit) i
used-snug w reports i = read-snug (reading w) (transport_closed w.queue) w i.few i.fit i

reach-snug : (xs : List Use) (w : World) → Snug w → Snug (reach w xs)
unfolding reach
reach-snug [] w i = i
reach-snug (x ∷ xs) w i = reach-snug xs (used w x) (used-snug w x i)

new-number : (remote : FlowType) → If (is_sequenced remote) (IsNumber (if is_sequenced remote then Some (record { 0 = 1 }) else None))
new-number flow.Recoverable = tt
new-number flow.Idempotent = tt
new-number flow.Unsequenced = tt
new-number flow.None = tt

new-snug : (id : SessionId) (local remote : FlowType) (config : FixpConfig) → config_fits config ≡ true → Snug (opened id local remote config)
unfolding new_session no_text
new-snug id local remote config e = record { session = record { config = e; few_gaps = omega arith; few_runs = omega arith; numbered = new-number remote }; reason = refl; few = omega arith; fit = refl }

and_both : (a b : Bool) → a ≡ true → b ≡ true → a && b ≡ true
and_both true b e u = u
and_both false b e u = e

snug-sound : (w : World) → Snug w → sound w ≡ true
unfolding sound
snug-sound w i =
    and_both _ (texts_fit w.queue.outs)
    (and_both _ (leb (length w.queue.outs) max_outs)
    (and_both _ (reason_fits w.link.reason)
    (and_both _ (leb (length w.session.gaps.overflow_received) max_runs)
    (and_both (config_fits w.session.config) (leb (length w.session.gaps.missing) max_gaps) i.session.config (le-leb (length w.session.gaps.missing) max_gaps i.session.few_gaps))
    (le-leb (length w.session.gaps.overflow_received) max_runs i.session.few_runs))
    i.reason)
    (le-leb (length w.queue.outs) max_outs i.few))
    i.fit

-- every session reached from new is a sound record: refusal 1 is never given to it
pub reached-sound : (id : SessionId) (local remote : FlowType) (config : FixpConfig) → config_fits config ≡ true → (xs : List Use) → sound (reach (opened id local remote config) xs) ≡ true
reached-sound id local remote config e xs = snug-sound (reach (opened id local remote config) xs) (reach-snug xs (opened id local remote config) (new-snug id local remote config e))

-- a sequenced peer always has an expected number
pub reached-numbered : (id : SessionId) (local remote : FlowType) (config : FixpConfig) → config_fits config ≡ true → (xs : List Use) → let s = (reach (opened id local remote config) xs).session in If (is_sequenced s.remote_flow) (IsNumber s.inbound_next)
reached-numbered id local remote config e xs = (reach-snug xs (opened id local remote config) (new-snug id local remote config e)).session.numbered
