-- What holds of every session reached from new by any calls at all, with a Recoverable peer that need not be truthful: a single call is
-- always one that some truthful peer could have made.
use Rattle.std.specs.Prelude.{◌≡◌, refl, List, [], ◌∷◌, Bool, true, false, ℕ, zero, suc, ◌+◌, ◌-◌, ◌<◌, ◌≤◌, ◌^◌, eqb, Option, Some, None}
use Rattle.std.proofs.Common.{arith, leb-true, eqb-true}
use Rattle.rules.specs.Names.{SessionId, Instant, FlowType, FixpConfig, Gap, Outstanding, Replay, SeqNum}
use Rattle.rules.specs.Names.flow
use Rattle.rules.specs.State.{Sess, Queue, with_outstanding, with_replay}
use Rattle.rules.specs.Gaps.{lists, consume_missing}
use Rattle.rules.specs.Numbering.{Counted, counted_at, is_peer_finished}
use Rattle.rules.specs.Local.{Refused, passes, refuses}
use Rattle.rules.specs.Calls.{World, Call, call, opened, reading, polled, transport_closed}
use Rattle.loss.specs.Seen.{Taking, number}
use Rattle.loss.specs.History.{truth, History, calls, Kind, message, announces, heads, other, opens, ours, kind_of, ran, step, MayArrive, OpensTrue, Truthful, Allowed}
use Rattle.loss.specs.Claim.{Holds, Took, Delivered}
use Rattle.loss.specs.Count.{hit, hits, Place, below, inside, above}
use Rattle.loss.proofs.Count.{by-test, place}
use Rattle.loss.specs.Chain.{Chain}
use Rattle.loss.proofs.Chain.{eat}
use Rattle.loss.specs.Core.{Asked, idle, asking, asked_of, AtFront, Each, outside, accepted, abandoned, pending}
use Rattle.loss.proofs.Core.{out-in}
use Rattle.loss.specs.Good.{ReplayFits, Good}
use Rattle.loss.specs.Holding.{Flies, Knows}
use Rattle.loss.proofs.Holding.{step-holds}
use Rattle.loss.proofs.Theorem.{fresh_holds, hits-holds, holds-hits, times-took, delivered-counts}
use Rattle.loss.specs.Reached.{Use, uses, takes, reports, read_as, used, reach, Accounted, batch_of, is_live, peer_for}

-- ---- any calls
flies-all : (n k : ℕ) (r : Replay) → r.next.0 ≡ n → r.remaining ≡ k → Flies k n (Some r)
flies-all n zero r e u = tt
flies-all n (suc k) r e u = (e, u)

knows-live : (x : Option SeqNum) (r : Option Replay) (z : Bool) → Knows (truth (number x) (is_live r) (batch_of r)) x r z
knows-live x None true = ((tt, tt), tt)
knows-live x None false = ((tt, refl), tt)
knows-live x (Some r) z = (tt, flies-all r.next.0 r.remaining r refl refl)

pub peer-knows : (kind : Kind) (s : Sess) → Knows (peer_for kind s) s.inbound_next s.replay (is_peer_finished s.peer_finished)
peer-knows message s = knows-live s.inbound_next s.replay (is_peer_finished s.peer_finished)
peer-knows (announces n) s = (tt, tt)
peer-knows (heads n k) s = (tt, tt)
peer-knows other s = (tt, tt)
peer-knows (opens n) s = (tt, tt)
peer-knows ours s = (tt, tt)

may-arrive : (r : Option Replay) (o : Asked) → ReplayFits r o → MayArrive (batch_of r).left (is_live r)
may-arrive None o h = refl
may-arrive (Some r) idle h = absurd h
may-arrive (Some r) (asking f c d) h = go r.remaining h.1
  where
    go : (k : ℕ) → 0 < k → MayArrive k false
    go zero p = absurd (omega arith)
    go (suc k) p = tt

opens-true : (n : Option SeqNum) → OpensTrue n (number n)
opens-true None = tt
opens-true (Some n) = refl

pub peer-truthful : (kind : Kind) (s : Sess) → ReplayFits s.replay (asked_of s.outstanding) → Truthful kind (peer_for kind s)
peer-truthful message s h = may-arrive s.replay (asked_of s.outstanding) h
peer-truthful (announces n) s h = refl
peer-truthful (heads n k) s h = tt
peer-truthful other s h = tt
peer-truthful (opens n) s h = opens-true n
peer-truthful ours s h = tt

call-accounted : (c : Call) (w : World) → Accounted w → Accounted (call c w).world
unfolding step ran Allowed
call-accounted c w k =
    let j = step-holds h (record { sound = k.sound; knows = peer-knows kind w.session; given = k.given }) (calls c) (λ e. peer-truthful kind w.session k.sound.replays) in
    record { first = (step h (calls c)).first; log = (step h (calls c)).accepted; rejected = (step h (calls c)).rejected; sound = j.sound; given = j.given }
  where
    kind : Kind
    kind = kind_of w.session.id c

    h : History
    h = record { world = w; first = k.first; accepted = k.log; rejected = k.rejected; peer = peer_for kind w.session }

read-accounted : (r : Refused) (q : Queue) (w : World) → Accounted w → Accounted (read_as r q w)
read-accounted passes q w k = record { first = k.first; log = k.log; rejected = k.rejected; sound = k.sound; given = k.given }
read-accounted (refuses x) q w k = k

used-accounted : (w : World) (x : Use) → Accounted w → Accounted (used w x)
unfolding used
used-accounted w (uses c) k = call-accounted c w k
used-accounted w takes k = read-accounted (reading w) (polled w.queue) w k
used-accounted w reports k = read-accounted (reading w) (transport_closed w.queue) w k

reach-accounted : (xs : List Use) (w : World) → Accounted w → Accounted (reach w xs)
unfolding reach
reach-accounted [] w k = k
reach-accounted (x ∷ xs) w k = reach-accounted xs (used w x) (used-accounted w x k)

-- every session reached from a new one with a Recoverable peer
pub reached-accounted : (id : SessionId) (local : FlowType) (config : FixpConfig) → config.max_retransmit_count < 2 ^ 32 → (xs : List Use) → Accounted (reach (opened id local flow.Recoverable config) xs)
reached-accounted id local config l xs =
    let i = fresh_holds id local config l in
    reach-accounted xs (opened id local flow.Recoverable config) (record { first = 1; log = []; rejected = []; sound = i.sound; given = i.given })

-- ---- what follows from it
-- an outstanding request lies at the front of the first gap
pub request-at-front : (w : World) → Accounted w → AtFront (asked_of w.session.outstanding) w.session.gaps.missing
request-at-front w k = k.sound.numbers.asked

each-accepted : {a x g r d w : ℕ} → Each a x g r d w → 1 ≤ g → 1 ≤ r + d → 1 ≤ a
each-accepted (outside z) p q = omega arith
each-accepted (accepted z) p q = omega arith
each-accepted (abandoned z) p q = omega arith
each-accepted (pending z) p q = omega arith

each-run : {a x g r d w : ℕ} → Each a x g r d w → 1 ≤ r → 1 ≤ a
each-run (outside z) q = omega arith
each-run (accepted z) q = omega arith
each-run (abandoned z) q = omega arith
each-run (pending z) q = omega arith

-- what release and asking again consume, the delivered of the request, was accepted
pub delivered-was-accepted : (w : World) (k : Accounted w) (n : ℕ) → Delivered n w.session.outstanding → Took n k.log
delivered-was-accepted w k n d =
    let c = delivered-counts n w.session.outstanding d in
    let g = out-in n (asked_of w.session.outstanding) w.session.gaps.missing k.sound.numbers.asked in
    times-took n k.log (each-accepted (k.sound.numbers.each n) (omega arith) (omega arith))

-- so was every number of an overflow run
pub run-was-accepted : (w : World) (k : Accounted w) (n : ℕ) → Holds n w.session.gaps.overflow_received → Took n k.log
run-was-accepted w k n r = let c = holds-hits n w.session.gaps.overflow_received r in times-took n k.log (each-run (k.sound.numbers.each n) c)

ranges_at_front : (f c d : ℕ) (g : Gap) (gs : List Gap) → AtFront (asking f c d) (g ∷ gs) → (f ≡ g.from.0) × (d ≤ c) × (f + c ≤ g.end.0)
unfolding AtFront
ranges_at_front f c d g gs h = h

consumed-in : (first e f c d k : ℕ) (ms rs : List Gap) (n : ℕ) → AtFront (asking f c d) ms → Chain first (e + 1) ms → k ≤ d → Holds n ms → (Holds n (consume_missing k (lists ms rs)).missing → ⊥) → (f ≤ n) × (n < f + d)
consumed-in first e f c d k [] rs n a ch l h w = absurd h
consumed-in first e f c d k (g ∷ gs) rs n a ch l h w = go (ranges_at_front f c d g gs a) (place n g.from.0 (g.from.0 + k))
  where
    go : (f ≡ g.from.0) × (d ≤ c) × (f + c ≤ g.end.0) → Place n g.from.0 (g.from.0 + k) (hit n g.from.0 (g.from.0 + k)) → (f ≤ n) × (n < f + d)
    go x p =
        let e' = (eat first e k g gs rs (omega arith) ch).count n in
        let y = holds-hits n (g ∷ gs) h in
        let z : (1 ≤ hits n (consume_missing k (lists (g ∷ gs) rs)).missing → ⊥) = λ t. w (hits-holds n (consume_missing k (lists (g ∷ gs) rs)).missing t) in
        at p (omega arith)
      where
        at : Place n g.from.0 (g.from.0 + k) (hit n g.from.0 (g.from.0 + k)) → 1 ≤ hit n g.from.0 (g.from.0 + k) → (f ≤ n) × (n < f + d)
        at (below u v) q = absurd (omega arith)
        at (inside u v t) q = (omega arith, omega arith)
        at (above u v) q = absurd (omega arith)

-- what leaves the gaps when a request is over was delivered: k is the delivered count on release and on asking again, and the whole
-- count on completion, where it is no more than was delivered
pub consumed-was-delivered : (o : Outstanding) (s : Sess) (first : ℕ) (log : List Taking) (rej : List Gap) → Good (with_outstanding (Some o) s) first log rej → (k : ℕ) → k ≤ o.delivered →
    (n : ℕ) → Holds n s.gaps.missing → (Holds n (consume_missing k s.gaps).missing → ⊥) → Delivered n (Some o)
consumed-was-delivered o s first log rej i k l n a b =
    consumed-in first (number s.inbound_next) o.from.0 o.count o.delivered k s.gaps.missing s.gaps.overflow_received n i.numbers.asked i.numbers.gaps l a b

-- a request that a replayed message completes was delivered in full: its count is what was delivered, with that message
pub complete-is-delivered : (o : Outstanding) (r : Replay) (now : Instant) (last : Bool) (s : Sess) (first : ℕ) (log : List Taking) (rej : List Gap) → let S = with_replay (Some r) (with_outstanding (Some o) s) in
    Good S first log rej → (counted_at (Some o) now last S).complete ≡ true → o.count ≡ o.delivered + 1
complete-is-delivered o r now last s first log rej i =
    by-test (λ (k : Counted). k.complete ≡ true → o.count ≡ o.delivered + 1) (eqb o.delivered (2 ^ 32 - 1))
    (λ t e. absurd (let v = eqb-true o.delivered (2 ^ 32 - 1) t in let c = i.counts in let a = i.replays.1 in let b = i.replays.2 in omega arith))
    (λ t e. let v = leb-true o.count (o.delivered + 1) e in let a = i.replays.1 in let b = i.replays.2 in omega arith)
