-- Ending, asking and recovery keep the invariant: what leaves a gap was delivered, or is reported as rejected.
use Rattle.std.specs.Prelude.{◌≡◌, Bool, true, false, ◌&&◌, ◌||◌, ℕ, ◌+◌, ◌-◌, ◌<◌, ◌≤◌, eqb, Option, Some, None, Ok}
use Rattle.std.proofs.Math.Path.{refl, subst}
use Rattle.std.proofs.Common.{sym}
use mathlib.Core.List.{List, [], ◌∷◌, ◌++◌}
use Rattle.std.proofs.Math.Bool.{not}
use native.Mathlib.Omega.{arith}
use Rattle.std.proofs.Math.Dec.{leb}
use borrow.Author.Tests.{leb-true, leb-false, eqb-true, not-true, not-false}
use Rattle.types.specs.Base.{all_ones, same_id}
use Rattle.types.specs.Flows.{is_recoverable}
use Rattle.types.specs.States.{is_established, leave_sequence}
use Rattle.rules.specs.Names.{SeqNum, Nanotime, Instant, TerminationCode, Reason, Retransmission, RetransmitReject, Output, Answer, Bound, Binding, Gap, Outstanding, PeerFinished, Replay}
use Rattle.rules.specs.Names.code
use Rattle.rules.specs.Names.event as ev
use Rattle.rules.specs.Names.bound
use Rattle.rules.specs.Names.verdict
use Rattle.rules.specs.Lists.{is_nil, front_of}
use Rattle.rules.specs.State.{Lists, Sess, Did, did, stays, ends, saying, with_gaps, with_outstanding, with_replay, with_awaiting, with_peer_finished}
use Rattle.rules.specs.Outputs.{event, event_with, event_quoting}
use Rattle.rules.specs.Gaps.{lists, consume_missing}
use Rattle.rules.specs.Ending.{consumed, released_at, release_binding_state, finished_receiving_sent, finalize_if_finished, ended_by, fail, violation}
use Rattle.rules.specs.Asking.{is_outstanding, fewer, asked, ask, ask_for, request_missing, finish_at, maybe_finish_receiving, recovered, completed_at, complete_outstanding, in_range, begun, header_at, on_retransmission, unasked, rejected_at, on_retransmit_reject, re_request}
use Rattle.rules.specs.Numbering.{is_peer_finished}
use Rattle.rules.specs.Peer.{is_accept}
use Rattle.loss.specs.Seen.{Taking, reported, number}
use Rattle.loss.proofs.Count.{by-test, no}
use Rattle.loss.specs.Chain.{Chain}
use Rattle.loss.specs.Core.{Asked, idle, asking, asked_of, AtFront, Core, refused_range}
use Rattle.loss.proofs.Core.{core-release, core-reject, core-ask}
use Rattle.loss.specs.Good.{ReplayFits, StartFits, Steady, Good, OnStay, Keeps}
use Rattle.loss.proofs.Good.{and_left, and_right, saying-keeps}
use Rattle.loss.specs.Asks.{Full, Leaves}

-- ---- small facts
start-consume : (t : Bool) (first e k : ℕ) (ms rs : List Gap) → StartFits t first e ms → StartFits t first e (consume_missing k (lists ms rs)).missing
unfolding consume_missing
start-consume false first e k ms rs h = tt
start-consume true first e k [] rs h = by-test (λ (l : Lists). StartFits true first e l.missing) (eqb k 0) (λ t. h) (λ t. h)
start-consume true first e k (g ∷ ms) rs h = absurd h

fewer-fits : (f e max : ℕ) → f < e → f + fewer (e - f) max ≤ e
unfolding fewer
fewer-fits f e max h = by-test (λ (k : ℕ). f + k ≤ e) (leb (e - f) max) (λ t. omega arith) (λ t. let u = leb-false (e - f) max t in omega arith)

fewer-max : (len max : ℕ) → fewer len max ≤ max
unfolding fewer
fewer-max len max = by-test (λ (k : ℕ). k ≤ max) (leb len max) (λ t. leb-true len max t) (λ t. omega arith)

-- a session with nothing asked for replays nothing
re-asked : (r : Option Replay) (o : Asked) → ReplayFits r idle → ReplayFits r o
re-asked None o h = tt
re-asked (Some r) o h = absurd h

steady-asked : (r : Option Replay) (stamp : Nanotime) (from : SeqNum) (count : ℕ) (now : Instant) → Steady r (Some (asked stamp from count now))
steady-asked None stamp from count now = tt
steady-asked (Some r) stamp from count now = refl

within_count : (f c d : ℕ) (ms : List Gap) → AtFront (asking f c d) ms → d ≤ c
unfolding AtFront
within_count f c d [] h = absurd h
within_count f c d (g ∷ ms) h = h.1

module _ (log : List Taking) (rej : List Gap) (first : Option SeqNum → ℕ) (Q : Option SeqNum → Option Replay → Bool → Type 0) where
  abbrev Keep : Did → Type 0
  Keep d = Keeps log rej first Q d

  abbrev Well : Sess → Type 0
  Well s = Good s (first s.inbound_next) log rej

  -- what is to hold holds; it holds with the replay stopped
  abbrev Now : Sess → Type 0
  Now s = Q s.inbound_next s.replay (is_peer_finished s.peer_finished)

  abbrev Still : Sess → Type 0
  Still s = Q s.inbound_next None (is_peer_finished s.peer_finished)

  pub did-keeps : (s : Sess) (b : Binding) (l : List Output) (u : Bound) (a : Answer) → Well s → OnStay u (Now s) → reported l ≡ [] → is_accept a ≡ false → Keep (did s b l u a)
  did-keeps s b l u a i q e t = record { good = i; silent = e; plain = t; holds = q }

  pub stays-keeps : (s : Sess) (b : Binding) (l : List Output) → Well s → Now s → reported l ≡ [] → Keep (stays s b l)
  stays-keeps s b l i q e = did-keeps s b l bound.Stay (Ok verdict.Done) i q e refl

  pub ends-keeps : (s : Sess) (b : Binding) (l : List Output) → Well s → reported l ≡ [] → Keep (ends s b l)
  ends-keeps s b l i e = did-keeps s b l bound.Unbind (Ok verdict.Done) i tt e refl

  -- ---- ending
  -- what was delivered leaves the gap
  consumed-good : (o : Outstanding) (s : Sess) → Well (with_outstanding (Some o) s) → Well (consumed o.delivered (with_replay None (with_outstanding None s)))
  consumed-good o s i =
      record {
        bounded = i.bounded;
        recoverable = i.recoverable;
        numbered = i.numbered;
        numbers = core-release (first s.inbound_next) (number s.inbound_next) o.from.0 o.count o.delivered s.gaps.missing s.gaps.overflow_received log rej i.numbers;
        counts = tt;
        replays = tt;
        steady = tt;
        starts = start-consume s.start_pending (first s.inbound_next) (number s.inbound_next) o.delivered s.gaps.missing s.gaps.overflow_received i.starts;
      }

  released : (o : Option Outstanding) (s : Sess) → Well (with_outstanding o s) → Well (with_replay None (released_at o (with_outstanding o s)))
  released None s i = record { bounded = i.bounded; recoverable = i.recoverable; numbered = i.numbered; numbers = i.numbers; counts = i.counts; replays = tt; steady = tt; starts = i.starts }
  released (Some o) s i = consumed-good o s i

  pub release-good : (s : Sess) → Well s → Well (release_binding_state s)
  unfolding release_binding_state
  release-good s i = released s.outstanding s i

  released-holds : (o : Option Outstanding) (s : Sess) → Still s → Now (with_replay None (released_at o (with_outstanding o s)))
  released-holds None s q = q
  released-holds (Some o) s q = q

  pub release-holds : (s : Sess) → Still s → Now (release_binding_state s)
  unfolding release_binding_state
  release-holds s q = released-holds s.outstanding s q

  finalize-good : (s : Sess) → Well s → Well (finalize_if_finished s)
  unfolding finalize_if_finished
  finalize-good s i = by-test Well (finished_receiving_sent s) (λ t. i) (λ t. i)

  finalize-holds : (s : Sess) → Now s → Now (finalize_if_finished s)
  unfolding finalize_if_finished
  finalize-holds s q = by-test Now (finished_receiving_sent s) (λ t. q) (λ t. q)

  pub ended-good : (graceful : Bool) (s : Sess) → Well s → Well (ended_by graceful s)
  ended-good true s i = finalize-good (release_binding_state s) (release-good s i)
  ended-good false s i = release-good s i

  pub ended-holds : (graceful : Bool) (s : Sess) → Still s → Now (ended_by graceful s)
  ended-holds true s q = finalize-holds (release_binding_state s) (release-holds s q)
  ended-holds false s q = release-holds s q

  pub fail-keeps : (c : TerminationCode) (n : ℕ) (s : Sess) (b : Binding) → Well s → Keep (fail c n s b)
  unfolding fail
  fail-keeps c n s b i = ends-keeps (release_binding_state s) b _ (release-good s i) (by-test (λ (l : List Output). reported l ≡ []) (is_established b.state) (λ t. refl) (λ t. refl))

  pub violation-keeps : (n : ℕ) (s : Sess) (b : Binding) → Well s → Keep (violation n s b)
  unfolding violation
  violation-keeps n s b i = saying-keeps log rej first Q (event_with ev.ProtocolViolation n ∷ []) (fail code.UnspecifiedError n s b) refl (fail-keeps code.UnspecifiedError n s b i)

  -- ---- asking
  first-gap : (e : ℕ) (g : Gap) (ms rs : List Gap) (o : Asked) (f : ℕ) → Core f e (g ∷ ms) rs o log rej → g.from.0 < g.end.0
  unfolding Chain
  first-gap e g ms rs o f i = i.gaps.1

  ask_for-keeps : (o : Option Outstanding) (ms : List Gap) (now : Instant) (stamp : Nanotime) (s : Sess) (b : Binding) → is_outstanding o ≡ false →
      let S = with_outstanding o (with_gaps (lists ms s.gaps.overflow_received) s) in Well S → Now s → Keep (ask_for (front_of ms) now stamp S b)
  unfolding ask
  ask_for-keeps (Some o) ms now stamp s b e i q = no e
  ask_for-keeps None [] now stamp s b e i q = stays-keeps (with_outstanding None (with_gaps (lists [] s.gaps.overflow_received) s)) b [] i q refl
  ask_for-keeps None (g ∷ ms) now stamp s b e i q =
      by-test Keep (leb g.end.0 g.from.0) (λ t. stays-keeps S b [] i q refl)
      (λ t. by-test Keep (eqb stamp.0 all_ones) (λ u. fail-keeps code.UnspecifiedError 20 S b i)
      (λ u. stays-keeps (with_outstanding (Some (asked stamp g.from count now)) S) (leave_sequence b) _ (record {
        bounded = i.bounded;
        recoverable = i.recoverable;
        numbered = i.numbered;
        numbers = core-ask (first s.inbound_next) (number s.inbound_next) count g ms s.gaps.overflow_received log rej
            (fewer-fits g.from.0 g.end.0 s.config.max_retransmit_count (first-gap (number s.inbound_next) g ms s.gaps.overflow_received idle (first s.inbound_next) i.numbers)) i.numbers;
        counts = let m = fewer-max (g.end.0 - g.from.0) s.config.max_retransmit_count in let l = i.bounded in omega arith;
        replays = re-asked s.replay _ i.replays;
        steady = steady-asked s.replay stamp g.from count now;
        starts = i.starts;
      }) q refl))
    where
      S : Sess
      S = with_outstanding None (with_gaps (lists (g ∷ ms) s.gaps.overflow_received) s)

      count : ℕ
      count = fewer (g.end.0 - g.from.0) s.config.max_retransmit_count

  pub request-keeps : (now : Instant) (stamp : Nanotime) (s : Sess) (b : Binding) → Well s → Now s → Keep (request_missing now stamp s b)
  unfolding request_missing
  request-keeps now stamp s b i q =
      by-test Keep (is_established b.state && is_recoverable s.remote_flow && not (is_outstanding s.outstanding))
      (λ t. ask_for-keeps s.outstanding s.gaps.missing now stamp s b (not-true _ (and_right (is_established b.state && is_recoverable s.remote_flow) _ t)) i q)
      (λ t. stays-keeps s b [] i q refl)

  finish_at-keeps : (f : Option PeerFinished) (s : Sess) (b : Binding) → let S = with_peer_finished f s in Well S → Now S → Keep (finish_at f S b)
  finish_at-keeps None s b i q = stays-keeps (with_peer_finished None s) b [] i q refl
  finish_at-keeps (Some f) s b i q =
      let S : Sess = with_peer_finished (Some f) s in
      by-test Keep (f.receiving_sent || not (is_established b.state) || not (is_nil s.gaps.missing) || is_outstanding s.outstanding) (λ t. stays-keeps S b [] i q refl)
      (λ t. stays-keeps (with_peer_finished (Some (record { receiving_sent = true; end = f.end })) S) (leave_sequence b) _ i q refl)

  pub maybe_finish-keeps : (s : Sess) (b : Binding) → Well s → Now s → Keep (maybe_finish_receiving s b)
  unfolding maybe_finish_receiving
  maybe_finish-keeps s b i q = finish_at-keeps s.peer_finished s b i q

  pub recovered-keeps : (now : Instant) (stamp : Nanotime) (s : Sess) (b : Binding) → Well s → Now s → Keep (recovered now stamp s b)
  unfolding recovered
  recovered-keeps now stamp s b i q =
      by-test Keep (is_nil s.gaps.missing)
      (λ t. saying-keeps log rej first Q (event ev.RecoveryComplete ∷ []) (maybe_finish_receiving s b) refl (maybe_finish-keeps s b i q))
      (λ t. request-keeps now stamp s b i q)

  completed-good : (o : Option Outstanding) (s : Sess) → Full (asked_of o) → Well (with_outstanding o s) → Well (with_replay None (completed_at o (with_outstanding o s)))
  completed-good None s u i = released None s i
  completed-good (Some o) s u i =
      let d = within_count o.from.0 o.count o.delivered s.gaps.missing i.numbers.asked in
      let e : o.delivered ≡ o.count = omega arith in
      subst (λ (k : ℕ). Well (consumed k (with_replay None (with_outstanding None s)))) e (consumed-good o s i)

  completed-holds : (o : Option Outstanding) (s : Sess) → Still s → Now (with_replay None (completed_at o (with_outstanding o s)))
  completed-holds None s q = q
  completed-holds (Some o) s q = q

  pub complete-keeps : (now : Instant) (stamp : Nanotime) (s : Sess) (b : Binding) → Full (asked_of s.outstanding) → Well s → Still s → Keep (complete_outstanding now stamp s b)
  unfolding complete_outstanding
  complete-keeps now stamp s b u i q = recovered-keeps now stamp (with_replay None (completed_at s.outstanding s)) b (completed-good s.outstanding s u i) (completed-holds s.outstanding s q)

  -- asking again consumes what was delivered
  pub re_request-keeps : (now : Instant) (stamp : Nanotime) (o : Outstanding) (s : Sess) (b : Binding) → let S = with_outstanding (Some o) s in Well S → Still s → Keep (re_request now stamp o S b)
  unfolding re_request
  re_request-keeps now stamp o s b i q = request-keeps now stamp (consumed o.delivered (with_replay None (with_outstanding None s))) b (consumed-good o s i) q

  -- ---- the header of a batch
  in-range : (m : Retransmission) (o : Outstanding) → in_range m o ≡ true → (m.next_seq_no.0 ≡ o.from.0 + o.delivered) × (0 < m.count) × (o.delivered + m.count ≤ o.count)
  unfolding in_range
  in-range m o t =
      let l = and_left (leb 1 m.count && leb (m.count + o.delivered) o.count) (eqb m.next_seq_no.0 (o.from.0 + o.delivered)) t in
      let a = leb-true 1 m.count (and_left (leb 1 m.count) (leb (m.count + o.delivered) o.count) l) in
      let b = leb-true (m.count + o.delivered) o.count (and_right (leb 1 m.count) (leb (m.count + o.delivered) o.count) l) in
      (eqb-true m.next_seq_no.0 (o.from.0 + o.delivered) (and_right (leb 1 m.count && leb (m.count + o.delivered) o.count) _ t), omega arith, omega arith)

  header_at-keeps : (o : Option Outstanding) (now : Instant) (m : Retransmission) (s : Sess) (b : Binding) → let S = with_outstanding o s in Well S →
      Q s.inbound_next (Some (record { next = m.next_seq_no; remaining = m.count })) (is_peer_finished s.peer_finished) → Keep (header_at o now m S b)
  header_at-keeps None now m s b i q = violation-keeps 23 (with_outstanding None s) b i
  header_at-keeps (Some o) now m s b i q =
      let S : Sess = with_outstanding (Some o) s in
      by-test Keep (not (eqb m.request_timestamp.0 o.timestamp.0)) (λ t. violation-keeps 24 S b i)
      (λ t. by-test Keep (not (in_range m o)) (λ u. violation-keeps 25 S b i)
      (λ u. stays-keeps (with_outstanding (Some (begun now o)) (with_awaiting true (with_replay (Some (record { next = m.next_seq_no; remaining = m.count })) S))) b []
      (record { bounded = i.bounded; recoverable = i.recoverable; numbered = i.numbered; numbers = i.numbers; counts = i.counts; replays = in-range m o (not-false (in_range m o) u); steady = refl; starts = i.starts }) q refl))

  pub header-keeps : (now : Instant) (m : Retransmission) (s : Sess) (b : Binding) → Well s →
      Q s.inbound_next (Some (record { next = m.next_seq_no; remaining = m.count })) (is_peer_finished s.peer_finished) → Keep (on_retransmission now m s b)
  unfolding on_retransmission
  header-keeps now m s b i q =
      by-test Keep (not (is_recoverable s.remote_flow)) (λ t. violation-keeps 21 s b i)
      (λ t. by-test Keep (not (same_id m.session_id s.id)) (λ u. violation-keeps 22 s b i) (λ u. header_at-keeps s.outstanding now m s b i q))

-- ---- what a step leaves, where it may report a rejection
module _ (log : List Taking) (rej : List Gap) (first : Option SeqNum → ℕ) (Q : Option SeqNum → Option Replay → Bool → Type 0) where
  pub keeps-leaves : (d : Did) → Keeps log rej first Q d → Leaves log rej first Q d
  keeps-leaves d k = record { good = subst (λ (l : List Gap). Good d.session (first d.session.inbound_next) log (l ++ rej)) (sym k.silent) k.good; plain = k.plain; holds = k.holds }

  rejected-good : (o : Outstanding) (s : Sess) → Good (with_outstanding (Some o) s) (first s.inbound_next) log rej →
      Good (consumed o.count (with_replay None (with_outstanding None s))) (first s.inbound_next) log (refused_range o.from o.count ∷ rej)
  rejected-good o s i =
      record {
        bounded = i.bounded;
        recoverable = i.recoverable;
        numbered = i.numbered;
        numbers = core-reject (first s.inbound_next) (number s.inbound_next) o.from o.count o.delivered s.gaps.missing s.gaps.overflow_received log rej i.numbers;
        counts = tt;
        replays = tt;
        steady = tt;
        starts = start-consume s.start_pending (first s.inbound_next) (number s.inbound_next) o.count s.gaps.missing s.gaps.overflow_received i.starts;
      }

  -- the one step that reports a rejection
  named-leaves : (o : Outstanding) (m : RetransmitReject) (text : Reason) (d : Did) → Keeps log (refused_range o.from o.count ∷ rej) first Q d → Leaves log rej first Q (saying (event_quoting (ev.RetransmitRejected o.from o.count m.code) text ∷ []) d)
  unfolding saying
  named-leaves o m text d k =
      record {
        good = subst (λ (l : List Gap). Good d.session (first d.session.inbound_next) log (refused_range o.from o.count ∷ (l ++ rej))) (sym k.silent) k.good;
        plain = k.plain;
        holds = k.holds;
      }

  unasked-leaves : (s : Sess) (b : Binding) → Well log rej first Q s → Now log rej first Q s → Leaves log rej first Q (unasked s b)
  unasked-leaves s b i q = record { good = i; plain = refl; holds = q }

  rejected_at-leaves : (o : Option Outstanding) (now : Instant) (stamp : Nanotime) (m : RetransmitReject) (text : Reason) (s : Sess) (b : Binding) → let S = with_outstanding o s in Well log rej first Q S → Now log rej first Q s → Still log rej first Q s → Leaves log rej first Q (rejected_at o now stamp m text S b)
  rejected_at-leaves None now stamp m text s b i q p = unasked-leaves (with_outstanding None s) b i q
  rejected_at-leaves (Some o) now stamp m text s b i q p =
      let S : Sess = with_outstanding (Some o) s in
      by-test (Leaves log rej first Q) (eqb o.timestamp.0 m.request_timestamp.0 && same_id m.session_id s.id)
      (λ t. named-leaves o m text _ (recovered-keeps log (refused_range o.from o.count ∷ rej) first Q now stamp (consumed o.count (with_replay None (with_outstanding None S))) b (rejected-good o s i) p))
      (λ t. unasked-leaves S b i q)

  pub reject-leaves : (now : Instant) (stamp : Nanotime) (m : RetransmitReject) (text : Reason) (s : Sess) (b : Binding) → Well log rej first Q s → Now log rej first Q s → Still log rej first Q s → Leaves log rej first Q (on_retransmit_reject now stamp m text s b)
  unfolding on_retransmit_reject
  reject-leaves now stamp m text s b i q p = rejected_at-leaves s.outstanding now stamp m text s b i q p
