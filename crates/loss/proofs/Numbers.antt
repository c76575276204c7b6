-- Announced numbers and gaps keep the invariant: a gap is kept whole, and what was received inside a widened one is kept as a run.
use Rattle.std.specs.Prelude.{◌≡◌, Bool, not, length, ltb, leb, eqb, Option, Some, None}
use Rattle.std.proofs.Math.Path.{refl, subst}
use Rattle.std.proofs.Common.{sym, arith}
use mathlib.Core.List.{List, [], ◌∷◌, ◌++◌}
use Rattle.std.proofs.Math.Bool.{true, false}
use Prim.Native.Nat.{ℕ, ◌-◌, ◌<◌, ◌≤◌}
use borrow.Author.Tests.{leb-true, ltb-false, eqb-true, eqb-false, lt-ltb}
use Rattle.types.specs.Flows.{is_sequenced}
use Rattle.rules.specs.Names.{SeqNum, Nanotime, Instant, FlowType, Binding, Gap, Outstanding, Replay}
use Rattle.rules.specs.Names.flow
use Rattle.rules.specs.Names.event as ev
use Rattle.rules.specs.Lists.{back_of}
use Rattle.rules.specs.State.{Sess, Did, with_gaps, with_inbound, with_start, with_outstanding, with_replay, with_awaiting}
use Rattle.rules.specs.Outputs.{event}
use Rattle.rules.specs.Gaps.{max_runs, gap_of, lists, Kept, kept, append_gap, record_at, record_gap, later_of, widen, hold_at, hold_refused_gap}
use Rattle.rules.specs.Numbering.{gap_held, gap_recorded, gap_on, on_gap, past_finished, cut_off, stop_at, stop_replay, announced_to, announced, on_next_seq, is_peer_finished}
use Rattle.loss.specs.Seen.{Taking, number, first_after}
use Rattle.loss.proofs.Count.{by-test}
use Rattle.loss.specs.Chain.{last_of, last_end, reaching}
use Rattle.loss.proofs.Chain.{back_is}
use Rattle.loss.specs.Core.{asked_of, AtFront, Core}
use Rattle.loss.proofs.Core.{core-append, core-extend, core-widen, core-start, apart}
use Rattle.loss.specs.Good.{IsRecoverable, StartFits, Good, Keeps}
use Rattle.loss.proofs.Good.{saying-keeps}
use Rattle.loss.proofs.Asks.{stays-keeps, violation-keeps, request-keeps}

-- ---- a gap, once the start is settled
later : (a b : SeqNum) → a.0 < b.0 → later_of a b ≡ b
unfolding later_of
later a b h = rw (lt-ltb a.0 b.0 h) refl

module _ (log : List Taking) (rej : List Gap) (f : ℕ) (Q : Option SeqNum → Option Replay → Bool → Type 0) where
  abbrev Keep : Did → Type 0
  Keep d = Keeps log rej (λ x. f) Q d

  -- the session, its expected number, gaps and runs put in
  abbrev numbering : SeqNum → List Gap → List Gap → Sess → Sess
  numbering e ms rs s = with_inbound (Some e) (with_start false (with_gaps (lists ms rs) s))

  module _ (now : Instant) (stamp : Nanotime) (from to : SeqNum) (rs : List Gap) (s : Sess) (b : Binding) (l : from.0 < to.0) (q : Q (Some to) s.replay (is_peer_finished s.peer_finished)) where
    -- the gap is kept
    grown : (ms rs' : List Gap) (i : Good (numbering from ms rs s) f log rej) (ms' : List Gap) → Core f to.0 ms' rs' (asked_of s.outstanding) log rej → Good (numbering to ms' rs' s) f log rej
    grown ms rs' i ms' c = record { bounded = i.bounded; recoverable = i.recoverable; numbered = tt; numbers = c; counts = i.counts; replays = i.replays; steady = i.steady; starts = tt }

    appends : (ms : List Gap) → last_end ms < from.0 → Good (numbering from ms rs s) f log rej → Good (numbering to (ms ++ (gap_of from to ∷ [])) rs s) f log rej
    appends ms t i = grown ms rs i (ms ++ (gap_of from to ∷ [])) (core-append f from to ms rs (asked_of s.outstanding) log rej l t i.numbers)

    -- a gap that is refused and held
    hold_at-keeps : (g : Gap) (gs : List Gap) → last_end (g ∷ gs) < from.0 → Good (numbering from (g ∷ gs) rs s) f log rej → Keep (gap_held to (hold_at (Some (last_of g gs)) from to (lists (g ∷ gs) rs)) (numbering from (g ∷ gs) rs s) b)
    unfolding gap_held widen last_end
    hold_at-keeps g gs t i =
        by-test P (leb from.0 (last_of g gs).end.0) (λ u. absurd (let v = leb-true from.0 (last_of g gs).end.0 u in omega arith))
        (λ u. by-test P (leb max_runs (length rs)) (λ v. violation-keeps log rej (λ x. f) Q 18 (numbering from (g ∷ gs) rs s) b i)
        (λ v.
        subst (λ (e : SeqNum). P (kept (lists (reaching e g gs) run) true)) (sym (later (last_of g gs).end to (omega arith)))
        (violation-keeps log rej (λ x. f) Q 18 (numbering to (reaching to g gs) run s) b (grown (g ∷ gs) run i (reaching to g gs) (core-widen f from to g gs rs (asked_of s.outstanding) log rej l t i.numbers)))))
      where
        P : Kept → Type 0
        P k = Keep (gap_held to k (numbering from (g ∷ gs) rs s) b)

        run : List Gap
        run = rs ++ (gap_of (last_of g gs).end from ∷ [])

    hold-keeps : (ms : List Gap) → last_end ms < from.0 → Good (numbering from ms rs s) f log rej → Keep (gap_held to (hold_refused_gap s.config.max_pending_gaps from to (lists ms rs)) (numbering from ms rs s) b)
    unfolding gap_held hold_refused_gap
    hold-keeps ms t i =
        by-test (λ (k : Kept). Keep (gap_held to k (numbering from ms rs s) b)) (leb (length ms) s.config.max_pending_gaps)
        (λ u. violation-keeps log rej (λ x. f) Q 18 (numbering to (ms ++ (gap_of from to ∷ [])) rs s) b (appends ms t i))
        (λ u. at ms t i)
      where
        at : (ms : List Gap) → last_end ms < from.0 → Good (numbering from ms rs s) f log rej → Keep (gap_held to (hold_at (back_of ms) from to (lists ms rs)) (numbering from ms rs s) b)
        at [] t i = violation-keeps log rej (λ x. f) Q 18 (numbering to (gap_of from to ∷ []) rs s) b (appends [] t i)
        at (g ∷ gs) t i = subst (λ (m : Option Gap). Keep (gap_held to (hold_at m from to (lists (g ∷ gs) rs)) (numbering from (g ∷ gs) rs s) b)) (sym (back_is g gs)) (hold_at-keeps g gs t i)

    append-keeps : (ms : List Gap) → last_end ms < from.0 → Good (numbering from ms rs s) f log rej → Keep (gap_recorded now stamp from to (append_gap s.config.max_pending_gaps from to (lists ms rs)) (numbering from ms rs s) b)
    unfolding gap_recorded append_gap
    append-keeps ms t i =
        by-test (λ (k : Kept). Keep (gap_recorded now stamp from to k (numbering from ms rs s) b)) (leb s.config.max_pending_gaps (length ms))
        (λ u. hold-keeps ms t i)
        (λ u. request-keeps log rej (λ x. f) Q now stamp (numbering to (ms ++ (gap_of from to ∷ [])) rs s) b (appends ms t i) q)

    record-keeps : (ms : List Gap) → Good (numbering from ms rs s) f log rej → Keep (gap_recorded now stamp from to (record_gap s.config.max_pending_gaps from to (lists ms rs)) (numbering from ms rs s) b)
    unfolding gap_recorded record_gap last_end
    record-keeps [] i = append-keeps [] (let a = i.numbers.low in let c = i.numbers.ordered in omega arith) i
    record-keeps (g ∷ gs) i =
        subst (λ (m : Option Gap). P (record_at m s.config.max_pending_gaps from to (lists (g ∷ gs) rs))) (sym (back_is g gs))
        (by-test P (eqb (last_of g gs).end.0 from.0)
        (λ t. request-keeps log rej (λ x. f) Q now stamp (numbering to (reaching to g gs) rs s) b (grown (g ∷ gs) rs i (reaching to g gs) (core-extend f from to g gs rs (asked_of s.outstanding) log rej l (eqb-true (last_of g gs).end.0 from.0 t) i.numbers)) q)
        (λ t. append-keeps (g ∷ gs) (apart f from.0 g gs rs (asked_of s.outstanding) log rej (eqb-false (last_of g gs).end.0 from.0 t) i.numbers) i))
      where
        P : Kept → Type 0
        P k = Keep (gap_recorded now stamp from to k (numbering from (g ∷ gs) rs s) b)

  gap_on-keeps : (p : FlowType) (now : Instant) (stamp : Nanotime) (from to : SeqNum) (s : Sess) (b : Binding) → IsRecoverable p → from.0 < to.0 → Q (Some to) s.replay (is_peer_finished s.peer_finished) →
      let S = with_inbound (Some from) (with_start false s) in Good S f log rej → Keep (gap_on p now stamp from to S b)
  gap_on-keeps flow.Recoverable now stamp from to s b r l q i = record-keeps now stamp from to s.gaps.overflow_received s b l q s.gaps.missing i
  gap_on-keeps flow.Idempotent now stamp from to s b r l q i = absurd r
  gap_on-keeps flow.Unsequenced now stamp from to s b r l q i = absurd r
  gap_on-keeps flow.None now stamp from to s b r l q i = absurd r

  on_gap-keeps : (now : Instant) (stamp : Nanotime) (from to : SeqNum) (s : Sess) (b : Binding) → from.0 < to.0 → Q (Some to) s.replay (is_peer_finished s.peer_finished) →
      let S = with_inbound (Some from) (with_start false s) in Good S f log rej → Keep (on_gap now stamp from to S b)
  unfolding on_gap
  on_gap-keeps now stamp from to s b l q i = saying-keeps log rej (λ x. f) Q (event (ev.SequenceGap from (to.0 - from.0)) ∷ []) _ refl (gap_on-keeps s.remote_flow now stamp from to s b i.recoverable l q i)

  -- ---- an announced number; Q holds of any expected number that equals it
  announced_to-keeps : (x : Option SeqNum) (now : Instant) (stamp : Nanotime) (to : SeqNum) (s : Sess) (b : Binding) → ((y : SeqNum) → y.0 ≡ to.0 → Q (Some y) s.replay (is_peer_finished s.peer_finished)) →
      let S = with_inbound x (with_start false s) in Good S f log rej → Keep (announced_to x now stamp to S b)
  announced_to-keeps None now stamp to s b q i = absurd i.numbered
  announced_to-keeps (Some e) now stamp to s b q i =
      let S : Sess = with_inbound (Some e) (with_start false s) in
      by-test Keep (ltb to.0 e.0) (λ t. violation-keeps log rej (λ x. f) Q 17 S b i)
      (λ t. by-test Keep (eqb to.0 e.0) (λ u. stays-keeps log rej (λ x. f) Q S b [] i (q e (sym (eqb-true to.0 e.0 u))) refl)
      (λ u. by-test Keep (ltb s.config.max_gap_len (to.0 - e.0)) (λ v. violation-keeps log rej (λ x. f) Q 16 S b i)
      (λ v. on_gap-keeps now stamp e to s b (let h : (to.0 ≡ e.0 → ⊥) = eqb-false to.0 e.0 u in let k = ltb-false to.0 e.0 t in omega arith) (q to refl) i)))

  -- the session's first number by the expected one: t, the start was pending
  abbrev pub first_by : Bool → Option SeqNum → ℕ
  first_by t x = first_after false t (number x) f

  settled : (to : SeqNum) (o : Option Outstanding) (ms : List Gap) (s : Sess) → 1 ≤ to.0 → Good (with_start true (with_outstanding o (with_gaps (lists ms s.gaps.overflow_received) s))) f log rej →
      Good (with_inbound (Some to) (with_start false (with_outstanding o (with_gaps (lists ms s.gaps.overflow_received) s)))) to.0 log rej
  unfolding AtFront
  settled to o (g ∷ ms) s p i = absurd i.starts
  settled to (Some o) [] s p i = absurd i.numbers.asked
  settled to None [] s p i =
      record {
        bounded = i.bounded;
        recoverable = i.recoverable;
        numbered = tt;
        numbers = core-start f (number s.inbound_next) to.0 s.gaps.overflow_received log rej i.starts.0 (let h = i.starts.1 in omega arith) i.numbers;
        counts = tt;
        replays = i.replays;
        steady = i.steady;
        starts = tt;
      }

  announced-keeps : (t : Bool) (now : Instant) (stamp : Nanotime) (to : SeqNum) (s : Sess) (b : Binding) → 1 ≤ to.0 → ((y : SeqNum) → y.0 ≡ to.0 → Q (Some y) s.replay (is_peer_finished s.peer_finished)) →
      Good (with_start t s) f log rej → Keeps log rej (first_by t) Q (announced now stamp to (with_start t s) b)
  unfolding announced
  announced-keeps true now stamp to s b p q i = stays-keeps log rej (first_by true) Q (with_inbound (Some to) (with_start false s)) b [] (settled to s.outstanding s.gaps.missing s p i) (q to refl) refl
  announced-keeps false now stamp to s b p q i = announced_to-keeps s.inbound_next now stamp to s b q i

  -- a pending start has the first number that is expected
  pub first-kept : (t : Bool) (e : ℕ) (ms : List Gap) → StartFits t f e ms → first_after false t e f ≡ f
  first-kept true e [] h = sym h.0
  first-kept true e (g ∷ ms) h = absurd h
  first-kept false e ms h = refl

  pub good-first : (s : Sess) → Good s f log rej → Good s (first_by s.start_pending s.inbound_next) log rej
  good-first s i = subst (λ (n : ℕ). Good s n log rej) (sym (first-kept s.start_pending (number s.inbound_next) s.gaps.missing i.starts)) i

  -- the replay stops
  stopped : (now : Instant) (o : Option Outstanding) (s : Sess) → Good (with_outstanding o s) f log rej → Good (with_replay None (with_outstanding (cut_off o now) s)) f log rej
  stopped now None s i = record { bounded = i.bounded; recoverable = i.recoverable; numbered = i.numbered; numbers = i.numbers; counts = i.counts; replays = tt; steady = tt; starts = i.starts }
  stopped now (Some o) s i = record { bounded = i.bounded; recoverable = i.recoverable; numbered = i.numbered; numbers = i.numbers; counts = i.counts; replays = tt; steady = tt; starts = i.starts }

  stop_at-keeps : (r : Option Replay) (now : Instant) (stamp : Nanotime) (to : SeqNum) (s : Sess) (b : Binding) → 1 ≤ to.0 → ((y : SeqNum) → y.0 ≡ to.0 → Q (Some y) None (is_peer_finished s.peer_finished)) →
      Good (with_replay r s) f log rej → Keeps log rej (first_by s.start_pending) Q (announced now stamp to (stop_at r now (with_awaiting false (with_replay r s))) b)
  stop_at-keeps None now stamp to s b p q i = announced-keeps s.start_pending now stamp to (with_awaiting false (with_replay None s)) b p q i
  stop_at-keeps (Some r) now stamp to s b p q i =
      announced-keeps s.start_pending now stamp to (with_replay None (with_outstanding (cut_off s.outstanding now) (with_awaiting false (with_replay (Some r) s)))) b p q (stopped now s.outstanding (with_replay (Some r) s) i)

  pub next-keeps : (now : Instant) (stamp : Nanotime) (to : SeqNum) (s : Sess) (b : Binding) → ((y : SeqNum) → y.0 ≡ to.0 → Q (Some y) None (is_peer_finished s.peer_finished)) →
      Good s f log rej → Keeps log rej (first_by s.start_pending) Q (on_next_seq now stamp to s b)
  unfolding on_next_seq stop_replay
  next-keeps now stamp to s b q i =
      by-test K (not (is_sequenced s.remote_flow)) (λ t. violation-keeps log rej F Q 13 s b (good-first s i))
      (λ t. by-test K (eqb to.0 0) (λ u. violation-keeps log rej F Q 14 s b (good-first s i))
      (λ u. by-test K (past_finished s.peer_finished to.0) (λ v. violation-keeps log rej F Q 15 s b (good-first s i))
      (λ v. stop_at-keeps s.replay now stamp to s b (let h : (to.0 ≡ 0 → ⊥) = eqb-false to.0 0 u in omega arith) q i)))
    where
      F : Option SeqNum → ℕ
      F = first_by s.start_pending

      K : Did → Type 0
      K d = Keeps log rej F Q d
