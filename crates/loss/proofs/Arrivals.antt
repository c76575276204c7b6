-- An application message, live or of a batch, keeps the invariant; what is accepted is noted once, as the peer gave it.
use Rattle.std.specs.Prelude.{◌≡◌, refl, Bool, true, ◌||◌, ℕ, ◌+◌, ◌-◌, ◌<◌, ◌≤◌, ◌^◌, leb, eqb, if◌then◌else◌, Option, Some, None, Ok, Err}
use Rattle.std.proofs.Common.{sym, ap, arith}
use Rattle.std.proofs.Math.Path.{subst}
use mathlib.Core.List.{List, [], ◌∷◌, ◌++◌}
use Rattle.std.proofs.Math.Bool.{false}
use borrow.Author.Tests.{leb-true, leb-false, eqb-true, le-leb}
use Rattle.types.specs.Base.{all_ones}
use Rattle.rules.specs.Names.{SeqNum, Nanotime, Instant, FlowType, Answer, Binding, Gap, Outstanding, Replay}
use Rattle.rules.specs.Names.flow
use Rattle.rules.specs.Names.verdict
use Rattle.rules.specs.Names.delivery
use Rattle.rules.specs.Lists.{drop_below}
use Rattle.rules.specs.State.{Sess, Did, stays, answering, with_gaps, with_inbound, with_start, with_outstanding, with_replay}
use Rattle.rules.specs.Gaps.{lists, received_in_overflow}
use Rattle.rules.specs.Ending.{violation}
use Rattle.rules.specs.Numbering.{next, discard, replay_after, progressed, Counted, count_delivered, complete_if, replayed_seen, replayed_counted, on_replayed, numbered_as, number_live, live_on, is_peer_finished, on_live}
use Rattle.rules.specs.Peer.{is_accept}
use Rattle.loss.specs.Seen.{Taking, reported, number, noted, first_after}
use Rattle.loss.specs.Claim.{AsGiven}
use Rattle.loss.proofs.Count.{by-test, no}
use Rattle.loss.specs.Chain.{in_run}
use Rattle.loss.specs.Core.{asking, asked_of, Core}
use Rattle.loss.proofs.Core.{core-live, core-deliver}
use Rattle.loss.specs.Good.{IsRecoverable, ReplayFits, Steady, Good, Keeps}
use Rattle.loss.specs.Asks.{Full, Leaves}
use Rattle.loss.proofs.Asks.{stays-keeps, violation-keeps, complete-keeps}
use Rattle.loss.proofs.Numbers.{first_by, good-first}
use Rattle.loss.specs.Arrivals.{Runs}

module _ (start : Bool) (f gave : ℕ) (log : List Taking) (rej : List Gap) (Q : Option SeqNum → Option Replay → Bool → Type 0) (a : AsGiven log) where
  abbrev R : Did → Type 0
  R d = Runs start f gave log rej Q d

  abbrev F : Option SeqNum → ℕ
  F = first_by log rej f Q start

  -- a call that accepts nothing
  pub leaves-runs : (d : Did) → Leaves log rej F Q d → R d
  leaves-runs d l = let p = plainly d.answer l.plain in record { good = p.0 l.good; given = p.1; holds = l.holds }
    where
      plainly : (x : Answer) → is_accept x ≡ false →
          (Good d.session (first_after false start (number d.session.inbound_next) f) log (reported d.outs ++ rej) → Good d.session (first_after (is_accept x) start (number d.session.inbound_next) f) (noted x gave log) (reported d.outs ++ rej))
          × AsGiven (noted x gave log)
      plainly (Ok verdict.Done) e = (λ i. i, a)
      plainly (Ok (verdict.Delivered delivery.Discard)) e = (λ i. i, a)
      plainly (Ok (verdict.Delivered (delivery.Accept n again))) e = no e
      plainly (Ok (verdict.Sent n)) e = (λ i. i, a)
      plainly (Ok (verdict.Batch b)) e = (λ i. i, a)
      plainly (Err r) e = (λ i. i, a)

  -- a message that is discarded; one that is accepted
  pub discarded : (d : Did) → Keeps log rej F Q d → R (answering discard d)
  unfolding answering
  discarded d k = record { good = subst (λ (l : List Gap). Good d.session (F d.session.inbound_next) log (l ++ rej)) (sym k.silent) k.good; given = a; holds = k.holds }

  accepted : (n : SeqNum) (again : Bool) (d : Did) → n.0 ≡ gave → Keeps (record { gave = gave; took = n.0 } ∷ log) rej (λ x. f) Q d → R (answering (Ok (verdict.Delivered (delivery.Accept (Some n) again))) d)
  unfolding answering
  accepted n again d e k =
      record {
        good = subst (λ (l : List Gap). Good d.session f (record { gave = gave; took = n.0 } ∷ log) (l ++ rej)) (sym k.silent) k.good;
        given = (e, a);
        holds = k.holds;
      }

  -- ---- live
  module _ (q : (y : SeqNum) → y.0 ≡ gave + 1 → Q (Some y) None false) where
    numbered_as-runs : (x : Option SeqNum) (s : Sess) (b : Binding) → let S = with_replay None (with_inbound x (with_start start s)) in Good S f log rej → number x ≡ gave → is_peer_finished s.peer_finished ≡ false → R (numbered_as x (with_start false S) b)
    unfolding answering
    numbered_as-runs None s b i e u = absurd i.numbered
    numbered_as-runs (Some n) s b i e u =
        by-test R (eqb n.0 all_ones)
        (λ t. let j = good-first log rej f Q S i in discarded (violation 12 (with_start false S) b) (violation-keeps log rej F Q 12 (with_start false S) b
        (record { bounded = j.bounded; recoverable = j.recoverable; numbered = j.numbered; numbers = j.numbers; counts = j.counts; replays = j.replays; steady = j.steady; starts = tt })))
        (λ t. accepted n false (stays (with_inbound (Some (next n)) (with_start false S)) b []) e (stays-keeps _ rej (λ x. f) Q (with_inbound (Some (next n)) (with_start false S)) b [] (record {
          bounded = i.bounded;
          recoverable = i.recoverable;
          numbered = tt;
          numbers = core-live f n.0 s.gaps.missing s.gaps.overflow_received (asked_of s.outstanding) log rej gave i.numbers;
          counts = i.counts;
          replays = tt;
          steady = tt;
          starts = tt;
        }) (subst (λ (z : Bool). Q (Some (next n)) None z) (sym u) (q (next n) (ap (λ (k : ℕ). k + 1) e))) refl))
      where
        S : Sess
        S = with_replay None (with_inbound (Some n) (with_start start s))

    live_on-runs : (p : FlowType) (s : Sess) (b : Binding) → let S = with_replay None (with_start start s) in IsRecoverable p → Good S f log rej → number s.inbound_next ≡ gave → is_peer_finished s.peer_finished ≡ false → R (live_on p S b)
    unfolding number_live
    live_on-runs flow.Recoverable s b r i e u =
        by-test R s.awaiting_resume
        (λ t. let S : Sess = with_replay None (with_start start s) in discarded (violation 10 S b) (violation-keeps log rej F Q 10 S b (good-first log rej f Q S i)))
        (λ t. numbered_as-runs s.inbound_next s b i e u)
    live_on-runs flow.Idempotent s b r i e u = absurd r
    live_on-runs flow.Unsequenced s b r i e u = absurd r
    live_on-runs flow.None s b r i e u = absurd r

    -- a live message: the expected number is the one that the peer gave it, unless the peer has finished
    pub live-runs : (s : Sess) (b : Binding) → let S = with_replay None (with_start start s) in Good S f log rej → (is_peer_finished s.peer_finished ≡ false → number s.inbound_next ≡ gave) → R (on_live S b)
    unfolding on_live
    live-runs s b i e =
        let S : Sess = with_replay None (with_start start s) in
        by-test R (is_peer_finished s.peer_finished)
        (λ t. discarded (violation 8 S b) (violation-keeps log rej F Q 8 S b (good-first log rej f Q S i)))
        (λ t. live_on-runs s.remote_flow s b i.recoverable i (e t) t)

-- ---- of a batch
left-fits : (r : Replay) (f c d : ℕ) → r.next.0 ≡ f + d → 0 < r.remaining → d + r.remaining ≤ c → ReplayFits (replay_after r) (asking f c (d + 1))
unfolding replay_after
left-fits r f c d p q h = by-test (λ (x : Option Replay). ReplayFits x (asking f c (d + 1))) (leb r.remaining 1) (λ t. tt) (λ t. let u = leb-false r.remaining 1 t in (omega arith, omega arith, omega arith))

steady-left : (now : Instant) (r : Replay) (o : Outstanding) → o.interrupted || o.batch_complete ≡ false → Steady (replay_after r) (Some (progressed now (leb r.remaining 1) o))
unfolding replay_after
steady-left now r o e = go (leb r.remaining 1)
  where
    whole : (a b : Bool) → a || b ≡ false → a || false ≡ false
    whole true b e = no e
    whole false b e = refl

    go : (t : Bool) → Steady (if t then None else Some (record { next = next r.next; remaining = r.remaining - 1 })) (Some (progressed now t o))
    go true = tt
    go false = whole o.interrupted o.batch_complete e

last-left : (r : Replay) → r.remaining ≤ 1 → replay_after r ≡ None
unfolding replay_after
last-left r h = rw (le-leb r.remaining 1 h) refl

-- the request counts one more, and is complete or not
module _ (log' : List Taking) (rej : List Gap) (first : Option SeqNum → ℕ) (Q : Option SeqNum → Option Replay → Bool → Type 0) (now : Instant) (stamp : Nanotime) where
  counted-keeps : (r : Replay) (o : Outstanding) (rs : List Gap) (s : Sess) (b : Binding) → Good s (first s.inbound_next) log' rej → asked_of s.outstanding ≡ asking o.from.0 o.count (o.delivered + 1) → o.delivered + r.remaining ≤ o.count →
      s.replay ≡ replay_after r → Q s.inbound_next (replay_after r) (is_peer_finished s.peer_finished) → Keeps log' rej first Q (complete_if (leb o.count (o.delivered + 1)) now stamp s b)
  unfolding complete_if
  counted-keeps r o rs s b i e h w q =
      by-test (Keeps log' rej first Q) (leb o.count (o.delivered + 1))
      (λ t. let u = leb-true o.count (o.delivered + 1) t in
      complete-keeps log' rej first Q now stamp s b (subst Full (sym e) u) i (subst (λ (x : Option Replay). Q s.inbound_next x (is_peer_finished s.peer_finished)) (last-left r (omega arith)) q))
      (λ t. stays-keeps log' rej first Q s b [] i (subst (λ (x : Option Replay). Q s.inbound_next x (is_peer_finished s.peer_finished)) (sym w) q) refl)

module _ (now : Instant) (stamp : Nanotime) (start : Bool) (f gave : ℕ) (log : List Taking) (rej : List Gap) (Q : Option SeqNum → Option Replay → Bool → Type 0) (a : AsGiven log) where
  -- the session after one more of the request: its gaps and request
  delivered-good : (x : Bool) (r : Replay) (o : Outstanding) (h : ℕ) (s : Sess) → let S = with_replay (Some r) (with_outstanding (Some o) s) in r.next.0 ≡ gave → in_run r.next.0 s.gaps.overflow_received ≡ x → Good S h log rej →
      Good (with_gaps (lists s.gaps.missing (drop_below r.next.0 s.gaps.overflow_received)) (with_outstanding (Some (progressed now (leb r.remaining 1) o)) (with_replay (replay_after r) S))) h (if x then log else record { gave = gave; took = r.next.0 } ∷ log) rej
  delivered-good x r o h s g e i =
      record {
        bounded = i.bounded;
        recoverable = i.recoverable;
        numbered = i.numbered;
        numbers =
            subst (λ (n : ℕ). in_run n s.gaps.overflow_received ≡ x → Core h (number s.inbound_next) s.gaps.missing (drop_below n s.gaps.overflow_received) (asking o.from.0 o.count (o.delivered + 1)) (if x then log else record { gave = gave; took = n } ∷ log) rej) (sym i.replays.0)
            (core-deliver h (number s.inbound_next) o.from.0 o.count o.delivered gave s.gaps.missing s.gaps.overflow_received log rej (let k = i.replays.1 in let j = i.replays.2 in omega arith) i.numbers x) e;
        counts = i.counts;
        steady = steady-left now r o i.steady;
        replays = left-fits r o.from.0 o.count o.delivered i.replays.0 i.replays.1 i.replays.2;
        starts = i.starts;
      }

  pub replayed-runs : (o : Option Outstanding) (r : Replay) (s : Sess) (b : Binding) → let S = with_start start (with_replay (Some r) (with_outstanding o s)) in Good S f log rej → r.next.0 ≡ gave → Q s.inbound_next (replay_after r) (is_peer_finished s.peer_finished) → Runs start f gave log rej Q (on_replayed now stamp r S b)
  unfolding on_replayed replayed_counted count_delivered received_in_overflow
  replayed-runs None r s b i g q = absurd i.replays
  replayed-runs (Some o) r s b i g q =
      by-test (R start f gave log rej Q a) (eqb r.next.0 all_ones)
      (λ t. discarded start f gave log rej Q a (violation 7 S b) (violation-keeps log rej (F start f gave log rej Q a) Q 7 S b (good-first log rej f Q S i)))
      (λ t. by-test (λ (k : Counted). R start f gave log rej Q a (replayed_counted now stamp r.next k b)) (eqb o.delivered (2 ^ 32 - 1))
      (λ u. absurd (let v = eqb-true o.delivered (2 ^ 32 - 1) u in let c = i.counts in let j = i.replays.1 in let k = i.replays.2 in omega arith))
      (λ u. go (in_run r.next.0 s.gaps.overflow_received) refl))
    where
      S : Sess
      S = with_start start (with_replay (Some r) (with_outstanding (Some o) s))

      S' : Sess
      S' = with_gaps (lists s.gaps.missing (drop_below r.next.0 s.gaps.overflow_received)) (with_outstanding (Some (progressed now (leb r.remaining 1) o)) (with_replay (replay_after r) S))

      go : (x : Bool) → in_run r.next.0 s.gaps.overflow_received ≡ x → R start f gave log rej Q a (answering (replayed_seen x r.next) (complete_if (leb o.count (o.delivered + 1)) now stamp S' b))
      go true e =
          discarded start f gave log rej Q a (complete_if (leb o.count (o.delivered + 1)) now stamp S' b)
          (counted-keeps log rej (F start f gave log rej Q a) Q now stamp r o [] S' b (delivered-good true r o (F start f gave log rej Q a s.inbound_next) (with_start start s) g e (good-first log rej f Q S i)) refl i.replays.2 refl q)
      go false e =
          accepted start f gave log rej Q a r.next true (complete_if (leb o.count (o.delivered + 1)) now stamp S' b) g
          (counted-keeps (record { gave = gave; took = r.next.0 } ∷ log) rej (λ x. f) Q now stamp r o [] S' b (delivered-good false r o f (with_start start s) g e i) refl i.replays.2 refl q)
