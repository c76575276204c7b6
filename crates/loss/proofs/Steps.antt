-- Every other step keeps the invariant: serving, finishing, binding, the peer's Terminate, local calls and timers. They reach the numbers
-- only through a release, a request or an announcement.
use Rattle.std.specs.Prelude.{◌≡◌, Bool, true, false, not, ◌&&◌, ◌||◌, ltb, eqb, Option, Some, None}
use Rattle.std.proofs.Math.Path.{refl}
use Rattle.std.proofs.Common.{sym, ◌∙◌}
use mathlib.Core.List.{List, [], ◌∷◌}
use Prim.Native.Nat.{ℕ, ◌+◌}
use Rattle.types.specs.Base.{all_ones, same_id, deadline_at}
use Rattle.types.specs.Flows.{is_sequenced, is_recoverable, is_finished}
use Rattle.types.specs.States.{is_established, leave_sequence}
use Rattle.rules.specs.Names.{SeqNum, Nanotime, Instant, FlowType, TerminationCode, RetransmitRejectCode, RetransmitStallPolicy, Reason, RetransmitRequest, Terminate, FinishedSending, Output, BindState, Binding, Gap, Outstanding, Replay, Provider}
use Rattle.rules.specs.Names.flow
use Rattle.rules.specs.Names.code
use Rattle.rules.specs.Names.policy
use Rattle.rules.specs.Names.event as ev
use Rattle.rules.specs.Names.bound
use Rattle.rules.specs.Names.state
use Rattle.rules.specs.State.{Sess, Did, stays, answering, with_outbound, with_outstanding, with_replay, with_awaiting, with_provider, with_peer_finished}
use Rattle.rules.specs.Outputs.{event, event_with}
use Rattle.rules.specs.Ending.{consumed, released_at, release_binding_state, fail, violation, ended_by, terminate_at, on_terminate}
use Rattle.rules.specs.Asking.{request_missing, maybe_finish_receiving}
use Rattle.rules.specs.Numbering.{next, allocate_outbound, is_peer_finished, on_next_seq}
use Rattle.rules.specs.Serving.{is_serving, refuse_retransmit, is_sent, serve, on_retransmit_request}
use Rattle.rules.specs.Finishing.{finished_with, below, last_at, finished_sending, on_finished_sending}
use Rattle.rules.specs.Binding.{established, resume, established_at, on_established, bind}
use Rattle.rules.specs.Peer.{on_unsequenced_heartbeat}
use Rattle.rules.specs.Local as local
use Rattle.rules.specs.Deadlines.{silence_deadline, stall_deadline, heartbeat_deadline, is_due, heartbeat, heartbeat_if_due, reported, wait_out, stall_by, on_stall, stall_of, stall_if_due, established_timeout, timeout_in, on_timeout}
use Rattle.loss.specs.Seen as seen
use Rattle.loss.specs.Seen.{Taking}
use Rattle.loss.proofs.Count.{by-test, no}
use Rattle.loss.specs.Good.{IsRecoverable, NoReplay, Good, Keeps}
use Rattle.loss.proofs.Good.{saying-keeps, and_then-keeps}
use Rattle.loss.proofs.Asks.{did-keeps, stays-keeps, ends-keeps, release-good, ended-good, ended-holds, fail-keeps, violation-keeps, request-keeps, maybe_finish-keeps, re_request-keeps}
use Rattle.loss.proofs.Numbers.{first_by, good-first, next-keeps}

pub recoverable-sequenced : (p : FlowType) → IsRecoverable p → is_sequenced p ≡ true
recoverable-sequenced flow.Recoverable h = refl
recoverable-sequenced flow.Idempotent h = absurd h
recoverable-sequenced flow.Unsequenced h = absurd h
recoverable-sequenced flow.None h = absurd h

module _ (log : List Taking) (rej : List Gap) (first : Option SeqNum → ℕ) (Q : Option SeqNum → Option Replay → Bool → Type 0) where
  abbrev Keep : Did → Type 0
  Keep d = Keeps log rej first Q d

  abbrev Well : Sess → Type 0
  Well s = Good s (first s.inbound_next) log rej

  abbrev Now : Sess → Type 0
  Now s = Q s.inbound_next s.replay (is_peer_finished s.peer_finished)

  abbrev Still : Sess → Type 0
  Still s = Q s.inbound_next None (is_peer_finished s.peer_finished)

  stay : (s : Sess) (b : Binding) (l : List Output) → Well s → Now s → seen.reported l ≡ [] → Keep (stays s b l)
  stay s b l i q e = stays-keeps log rej first Q s b l i q e

  bad : (n : ℕ) (s : Sess) (b : Binding) → Well s → Keep (violation n s b)
  bad n s b i = violation-keeps log rej first Q n s b i

  -- ---- serving
  pub served-keeps : (m : RetransmitRequest) (s : Sess) (b : Binding) → Well s → Now s → Keep (on_retransmit_request m s b)
  unfolding on_retransmit_request refuse_retransmit serve
  served-keeps m s b i q =
      by-test Keep (not (is_established b.state)) (λ t. stay s b _ i q refl)
      (λ t. by-test Keep (not (is_recoverable s.local_flow)) (λ u. bad 28 s b i)
      (λ u. by-test Keep (not (same_id m.session_id s.id)) (λ v. stay s (leave_sequence b) _ i q refl)
      (λ v. by-test Keep (is_serving s.provider) (λ w. saying-keeps log rej first Q (event_with ev.ProtocolViolation 30 ∷ []) (fail code.ReRequestInProgress 30 s b) refl (fail-keeps log rej first Q code.ReRequestInProgress 30 s b i))
      (λ w. by-test Keep (eqb m.count 0) (λ x. stay s (leave_sequence b) _ i q refl)
      (λ x. by-test Keep (ltb s.config.max_retransmit_count m.count) (λ y. stay s (leave_sequence b) _ i q refl)
      (λ y. by-test Keep (not (is_sent m s)) (λ z. stay s (leave_sequence b) _ i q refl)
      (λ z. stay (with_provider _ s) b _ i q refl)))))))

  pub heartbeat-keeps : (s : Sess) (b : Binding) → Well s → Now s → Keep (on_unsequenced_heartbeat s b)
  unfolding on_unsequenced_heartbeat
  heartbeat-keeps s b i q = by-test Keep (is_sequenced s.remote_flow) (λ t. bad 3 s b i) (λ t. stay s b [] i q refl)

  -- ---- the peer's Terminate
  terminate_at-keeps : (k : BindState) (now : Instant) (reason : Reason) (m : Terminate) (text : Reason) (s : Sess) (b : Binding) → Well s → Now s → Still s → Keep (terminate_at k now reason m text s b)
  terminate_at-keeps state.Established now reason m text s b i q p = stay (ended_by (is_finished m.code) s) _ _ (ended-good log rej first Q (is_finished m.code) s i) (ended-holds log rej first Q (is_finished m.code) s p) refl
  terminate_at-keeps (state.Terminating t c) now reason m text s b i q p = ends-keeps log rej first Q (ended_by (is_finished c && is_finished m.code) s) b _ (ended-good log rej first Q (is_finished c && is_finished m.code) s i) refl
  terminate_at-keeps (state.Closing d) now reason m text s b i q p = stay s b [] i q refl

  pub terminated-keeps : (now : Instant) (reason : Reason) (m : Terminate) (text : Reason) (s : Sess) (b : Binding) → Well s → Now s → Still s → Keep (on_terminate now reason m text s b)
  unfolding on_terminate
  terminated-keeps now reason m text s b i q p = by-test Keep (not (same_id m.session_id s.id)) (λ t. bad 34 s b i) (λ t. terminate_at-keeps b.state now reason m text s b i q p)

  -- ---- local calls
  pub send-keeps : (now : Instant) (s : Sess) (b : Binding) → Well s → Now s → Keep (local.send_application now s b)
  unfolding local.send_application answering allocate_outbound
  send-keeps now s b i q =
      by-test Keep (is_sequenced s.local_flow)
      (λ t. did-keeps log rej first Q (with_outbound (next s.outbound_next) s) _ _ bound.Stay _ i q (by-test (λ (l : List Output). seen.reported l ≡ []) b.in_sequence (λ u. refl) (λ u. refl)) refl)
      (λ t. did-keeps log rej first Q s _ [] bound.Stay _ i q refl refl)

  pub terminate-keeps : (now : Instant) (c : TerminationCode) (text : Reason) (s : Sess) (b : Binding) → Well s → Now s → Keep (local.terminate now c text s b)
  unfolding local.terminate
  terminate-keeps now c text s b i q = by-test Keep (is_finished c) (λ t. stay (with_provider None s) _ _ i q refl) (λ t. ends-keeps log rej first Q (release_binding_state s) b _ (release-good log rej first Q s i) refl)

  batch_at-keeps : (v : Option Provider) (now : Instant) (count : ℕ) (s : Sess) (b : Binding) → Well s → Now s → Keep (local.batch_at v now count s b)
  unfolding local.batch
  batch_at-keeps None now count s b i q = stay s b [] i q refl
  batch_at-keeps (Some v) now count s b i q = did-keeps log rej first Q (with_provider (local.provider_after count v) s) _ _ bound.Stay _ i q refl refl

  pub retransmit-keeps : (now : Instant) (count : ℕ) (s : Sess) (b : Binding) → Well s → Now s → Keep (local.retransmit now count s b)
  unfolding local.retransmit
  retransmit-keeps now count s b i q = batch_at-keeps s.provider now count s b i q

  reject_at-keeps : (v : Option Provider) (c : RetransmitRejectCode) (text : Reason) (s : Sess) (b : Binding) → Well s → Now s → Keep (local.reject_at v c text s b)
  reject_at-keeps None c text s b i q = stay s b [] i q refl
  reject_at-keeps (Some v) c text s b i q = stay (with_provider None s) (leave_sequence b) _ i q refl

  pub reject_request-keeps : (c : RetransmitRejectCode) (text : Reason) (s : Sess) (b : Binding) → Well s → Now s → Keep (local.reject_retransmit_request c text s b)
  unfolding local.reject_retransmit_request
  reject_request-keeps c text s b i q = reject_at-keeps s.provider c text s b i q

  pub end-keeps : (s : Sess) (b : Binding) → Well s → Now s → Keep (local.end_retransmission s b)
  unfolding local.end_retransmission
  end-keeps s b i q = stay (with_provider None s) b [] i q refl

  -- ---- timers
  beat-keeps : (now : Instant) (s : Sess) (b : Binding) → Well s → Now s → Keep (heartbeat_if_due now s b)
  unfolding heartbeat_if_due heartbeat
  beat-keeps now s b i q =
      by-test Keep (is_due (heartbeat_deadline b) now)
      (λ t. by-test Keep (is_sequenced s.local_flow) (λ u. stay s _ _ i q refl) (λ u. stay s _ _ i q refl))
      (λ t. stay s b [] i q refl)

  -- the stall is waited out
  waited-good : (o : Outstanding) (r : Option Replay) (s : Sess) → Well (with_replay r (with_outstanding (Some o) s)) → Well (with_replay r (with_outstanding (Some (reported o)) s))
  waited-good o None s i = record { bounded = i.bounded; recoverable = i.recoverable; numbered = i.numbered; numbers = i.numbers; counts = i.counts; replays = i.replays; steady = tt; starts = i.starts }
  waited-good o (Some r) s i = record { bounded = i.bounded; recoverable = i.recoverable; numbered = i.numbered; numbers = i.numbers; counts = i.counts; replays = i.replays; steady = i.steady; starts = i.starts }

  waited : (o : Outstanding) (s : Sess) (b : Binding) → Well (with_outstanding (Some o) s) → Now s → Keep (wait_out o (with_outstanding (Some o) s) b)
  unfolding wait_out
  waited o s b i q = stay (with_outstanding (Some (reported o)) s) b [] (waited-good o s.replay s i) q refl

  -- a request that is asked for again has no batch under way
  idle-still : (o : Outstanding) (r : Option Replay) (s : Sess) → Well (with_replay r (with_outstanding (Some o) s)) → o.interrupted || o.batch_complete ≡ true → Q s.inbound_next r (is_peer_finished s.peer_finished) → Still s
  idle-still o None s i e q = q
  idle-still o (Some r) s i e q = no (sym e ∙ i.steady)

  or_left : (a b : Bool) → a ≡ true → a || b ≡ true
  or_left true b e = refl
  or_left false b e = no (sym e)

  stall_by-keeps : (p : RetransmitStallPolicy) (now : Instant) (stamp : Nanotime) (o : Outstanding) (s : Sess) (b : Binding) → let S = with_outstanding (Some o) s in Well S → Now s → Keep (stall_by p now stamp o S b)
  stall_by-keeps policy.Terminate now stamp o s b i q = fail-keeps log rej first Q code.UnspecifiedError 41 (with_outstanding (Some o) s) b i
  stall_by-keeps policy.ReRequestAfterContextSwitch now stamp o s b i q =
      by-test Keep o.interrupted (λ t. re_request-keeps log rej first Q now stamp o s b i (idle-still o s.replay s i (or_left o.interrupted o.batch_complete t) q)) (λ t. waited o s b i q)
  stall_by-keeps policy.ReRequestAfterBatch now stamp o s b i q =
      by-test Keep (o.interrupted || o.batch_complete) (λ t. re_request-keeps log rej first Q now stamp o s b i (idle-still o s.replay s i t q)) (λ t. waited o s b i q)
  stall_by-keeps policy.EventOnly now stamp o s b i q = waited o s b i q

  stall_of-keeps : (o : Option Outstanding) (now : Instant) (stamp : Nanotime) (s : Sess) (b : Binding) → let S = with_outstanding o s in Well S → Now s → Keep (stall_of o now stamp S b)
  unfolding on_stall
  stall_of-keeps None now stamp s b i q = stay (with_outstanding None s) b [] i q refl
  stall_of-keeps (Some o) now stamp s b i q =
      saying-keeps log rej first Q (event (ev.RetransmitTimedOut o.from o.count) ∷ []) _ refl (stall_by-keeps s.config.retransmit_stall_policy now stamp o s b i q)

  stall-keeps : (now : Instant) (stamp : Nanotime) (s : Sess) (b : Binding) → Well s → Now s → Keep (stall_if_due now stamp s b)
  unfolding stall_if_due
  stall-keeps now stamp s b i q = by-test Keep (is_due (stall_deadline s) now) (λ t. stall_of-keeps s.outstanding now stamp s b i q) (λ t. stay s b [] i q refl)

  established-keeps : (now : Instant) (stamp : Nanotime) (s : Sess) (b : Binding) → Well s → Now s → Keep (established_timeout now stamp s b)
  unfolding established_timeout
  established-keeps now stamp s b i q =
      by-test Keep (is_due (silence_deadline s b) now)
      (λ t. saying-keeps log rej first Q (event ev.KeepaliveLapsed ∷ []) _ refl (fail-keeps log rej first Q code.UnspecifiedError 40 s b i))
      (λ t. and_then-keeps log rej first Q Q (stall_if_due now stamp s b) (heartbeat_if_due now) (stall-keeps now stamp s b i q) (λ j k. beat-keeps now (stall_if_due now stamp s b).session (stall_if_due now stamp s b).binding j k))

  timeout_in-keeps : (k : BindState) (now : Instant) (stamp : Nanotime) (reason : Reason) (s : Sess) (b : Binding) → Well s → Now s → Keep (timeout_in k now stamp reason s b)
  timeout_in-keeps state.Established now stamp reason s b i q = established-keeps now stamp s b i q
  timeout_in-keeps (state.Terminating sent c) now stamp reason s b i q =
      by-test Keep (is_due (deadline_at (sent.0 + b.local_keepalive)) now) (λ t. ends-keeps log rej first Q (release_binding_state s) b _ (release-good log rej first Q s i) refl) (λ t. stay s b [] i q refl)
  timeout_in-keeps (state.Closing deadline) now stamp reason s b i q = by-test Keep (is_due deadline now) (λ t. ends-keeps log rej first Q s b _ i refl) (λ t. stay s b [] i q refl)

  pub timeout-keeps : (now : Instant) (stamp : Nanotime) (reason : Reason) (s : Sess) (b : Binding) → Well s → Now s → Keep (on_timeout now stamp reason s b)
  unfolding on_timeout
  timeout-keeps now stamp reason s b i q = timeout_in-keeps b.state now stamp reason s b i q

  -- ---- a binding opens: what is missing is asked for
  pub resume-keeps : (now : Instant) (stamp : Nanotime) (s : Sess) (b : Binding) → Well s → Now s → Keep (resume now stamp s b)
  unfolding resume
  resume-keeps now stamp s b i q =
      and_then-keeps log rej first Q Q (request_missing now stamp s b) maybe_finish_receiving (request-keeps log rej first Q now stamp s b i q)
      (λ j k. maybe_finish-keeps log rej first Q (request_missing now stamp s b).session (request_missing now stamp s b).binding j k)

  -- the peer has finished: Q holds whatever is expected
  finished_with-keeps : (e : Option SeqNum) (s : Sess) (b : Binding) → Well s → Q s.inbound_next s.replay true → Keep (finished_with e s b)
  unfolding finished_with
  finished_with-keeps e s b i q = maybe_finish-keeps log rej first Q (with_peer_finished (Some (record { receiving_sent = false; end = e })) s) b i q

-- ---- FinishedSending and bind announce: f is the session's first number before
module _ (log : List Taking) (rej : List Gap) (f : ℕ) (Q : Option SeqNum → Option Replay → Bool → Type 0) where
  abbrev By : Sess → Did → Type 0
  By s d = Keeps log rej (first_by log rej f Q s.start_pending) Q d

  -- FinishedSending may say anything: after it nothing live is accepted
  last_at-keeps : (x : Option SeqNum) (now : Instant) (stamp : Nanotime) (s : Sess) (b : Binding) → Good s f log rej → ((x : Option SeqNum) (r : Option Replay) → NoReplay r → Q x r true) → By s (last_at x now stamp s b)
  last_at-keeps None now stamp s b i q = violation-keeps log rej (first_by log rej f Q s.start_pending) Q 36 s b (good-first log rej f Q s i)
  last_at-keeps (Some last) now stamp s b i q =
      by-test (By s) (eqb last.0 all_ones) (λ t. violation-keeps log rej (first_by log rej f Q s.start_pending) Q 37 s b (good-first log rej f Q s i))
      (λ t. by-test (By s) (below s.inbound_next (last.0 + 1)) (λ u. violation-keeps log rej (first_by log rej f Q s.start_pending) Q 38 s b (good-first log rej f Q s i))
      (λ u.
      let d : Did = on_next_seq now stamp (next last) s b in
      and_then-keeps log rej (first_by log rej f Q s.start_pending) Q (λ x r z. NoReplay r) d (finished_with (Some (next last)))
      (next-keeps log rej f (λ x r z. NoReplay r) now stamp (next last) s b (λ y e. tt) i)
      (λ j k. finished_with-keeps log rej (first_by log rej f Q s.start_pending) Q (Some (next last)) d.session d.binding j (q d.session.inbound_next d.session.replay k))))

  pub finished-keeps : (now : Instant) (stamp : Nanotime) (m : FinishedSending) (s : Sess) (b : Binding) → Good s f log rej → Q s.inbound_next s.replay (is_peer_finished s.peer_finished) → ((x : Option SeqNum) (r : Option Replay) → NoReplay r → Q x r true) → By s (on_finished_sending now stamp m s b)
  unfolding on_finished_sending finished_sending
  finished-keeps now stamp m s b i p q =
      by-test (By s) (not (same_id m.session_id s.id)) (λ t. violation-keeps log rej F Q 35 s b (good-first log rej f Q s i))
      (λ t. by-test (By s) (is_peer_finished s.peer_finished) (λ u. stays-keeps log rej F Q s b [] (good-first log rej f Q s i) p refl)
      (λ u. saying-keeps log rej F Q (event (ev.PeerFinishedSending m.last_seq_no) ∷ []) _ refl
      (by-test (By s) (is_sequenced s.remote_flow) (λ v. last_at-keeps m.last_seq_no now stamp s b i q) (λ v. no (sym (recoverable-sequenced s.remote_flow i.recoverable) ∙ v)))))
    where
      F : Option SeqNum → ℕ
      F = first_by log rej f Q s.start_pending

  -- ---- bind
  -- what a bind brings: the peer's number, or none
  abbrev pub Opens : Option SeqNum → Option SeqNum → Bool → Type 0
  Opens None e z = Q e None z
  Opens (Some n) e z = (y : SeqNum) → y.0 ≡ n.0 → Q (Some y) None z

  established_at-keeps : (x : Option SeqNum) (now : Instant) (stamp : Nanotime) (s : Sess) (b : Binding) → let S = with_replay None s in Good S f log rej → Opens x s.inbound_next (is_peer_finished s.peer_finished) → By s (established_at x now stamp S b)
  established_at-keeps None now stamp s b i q = resume-keeps log rej (first_by log rej f Q s.start_pending) Q now stamp (with_replay None s) b (good-first log rej f Q (with_replay None s) i) q
  established_at-keeps (Some n) now stamp s b i q =
      let d : Did = on_next_seq now stamp n (with_replay None s) b in
      and_then-keeps log rej (first_by log rej f Q s.start_pending) Q Q d (resume now stamp) (next-keeps log rej f Q now stamp n (with_replay None s) b q i)
      (λ j k. resume-keeps log rej (first_by log rej f Q s.start_pending) Q now stamp d.session d.binding j k)

  on_established-keeps : (x : Option SeqNum) (now : Instant) (stamp : Nanotime) (s : Sess) (b : Binding) → let S = with_replay None s in Good S f log rej → Opens x s.inbound_next (is_peer_finished s.peer_finished) → By s (on_established x now stamp S b)
  unfolding on_established
  on_established-keeps x now stamp s b i q =
      by-test (By s) (is_sequenced s.remote_flow) (λ t. established_at-keeps x now stamp s b i q)
      (λ t. no (sym (recoverable-sequenced s.remote_flow i.recoverable) ∙ t))

  -- a release changes neither the start nor what is expected
  release-start : (o : Option Outstanding) (x : Option SeqNum) (now : Instant) (stamp : Nanotime) (s : Sess) (b : Binding) → let R = with_provider None (with_awaiting false (with_replay None (released_at o (with_outstanding o s)))) in
      Good R f log rej → Opens x s.inbound_next (is_peer_finished s.peer_finished) → By s (on_established x now stamp R b)
  release-start None x now stamp s b i q = on_established-keeps x now stamp (with_provider None (with_awaiting false (with_outstanding None s))) b i q
  release-start (Some o) x now stamp s b i q = on_established-keeps x now stamp (with_provider None (with_awaiting false (consumed o.delivered (with_outstanding None s)))) b i q

  pub bind-keeps : (now : Instant) (stamp : Nanotime) (l r : ℕ) (x : Option SeqNum) (s : Sess) → Good s f log rej → Opens x s.inbound_next (is_peer_finished s.peer_finished) → By s (bind now stamp l r x s)
  unfolding bind release_binding_state
  bind-keeps now stamp l r x s i q = release-start s.outstanding x now stamp s (established now l r) (release-good log rej (λ y. f) Q s i) q
