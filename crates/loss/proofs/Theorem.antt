-- Loss can't renumber: the invariant holds at the start and after everything that is allowed, and counts are read back as membership.
use Rattle.std.specs.Prelude.{◌≡◌, refl, List, [], ◌∷◌, ℕ, ◌+◌, ◌<◌, ◌≤◌, ◌^◌, Option, Some, None}
use Rattle.std.proofs.Common.{inl, inr, arith}
use Rattle.rules.specs.Names.{SessionId, SeqNum, FlowType, FixpConfig, Gap, Outstanding}
use Rattle.rules.specs.Binding.{new_session}
use Rattle.loss.specs.Seen.{Taking, number}
use Rattle.loss.specs.History.{History, fresh, Happening, run, Obeys}
use Rattle.loss.specs.Claim.{Holds, Took, Delivered, Before, AsGiven, NoneTwice, Accepted, Abandoned, Pending, ExactlyOne, one, two, three, Claim}
use Rattle.loss.specs.Count.{hit, hits, Place, below, inside, above}
use Rattle.loss.proofs.Count.{hit-in, hit-none, place}
use Rattle.loss.specs.Chain.{Chain, last_end}
use Rattle.loss.specs.Core.{asked_of, times, delivered, AtFront, AllBelow, Each, outside, accepted, abandoned, pending}
use Rattle.loss.specs.Holding.{Invariant}
use Rattle.loss.proofs.Holding.{run_holds}

-- ---- counts and membership
pub hits-holds : (n : ℕ) (gs : List Gap) → 1 ≤ hits n gs → Holds n gs
unfolding hits
hits-holds n [] h = absurd (omega arith)
hits-holds n (g ∷ gs) h = go (place n g.from.0 g.end.0) (hits-holds n gs)
  where
    go : Place n g.from.0 g.end.0 (hit n g.from.0 g.end.0) → (1 ≤ hits n gs → Holds n gs) → Holds n (g ∷ gs)
    go (below a e) r = inr (r (omega arith))
    go (inside a b e) r = inl (a, b)
    go (above a e) r = inr (r (omega arith))

pub holds-hits : (n : ℕ) (gs : List Gap) → Holds n gs → 1 ≤ hits n gs
unfolding hits
holds-hits n [] h = absurd h
holds-hits n (g ∷ gs) (inl p) = let e = hit-in n g.from.0 g.end.0 p.0 p.1 in omega arith
holds-hits n (g ∷ gs) (inr r) = let e = holds-hits n gs r in omega arith

pub times-took : (n : ℕ) (log : List Taking) → 1 ≤ times n log → Took n log
unfolding times
times-took n [] h = absurd (omega arith)
times-took n (p ∷ log) h = go (place n p.took (p.took + 1)) (times-took n log)
  where
    go : Place n p.took (p.took + 1) (hit n p.took (p.took + 1)) → (1 ≤ times n log → Took n log) → Took n (p ∷ log)
    go (below a e) r = inr (r (omega arith))
    go (inside a b e) r = inl (omega arith)
    go (above a e) r = inr (r (omega arith))

pub took-times : (n : ℕ) (log : List Taking) → Took n log → 1 ≤ times n log
unfolding times
took-times n [] h = absurd h
took-times n (p ∷ log) (inl q) = let e = hit-in n p.took (p.took + 1) (omega arith) (omega arith) in omega arith
took-times n (p ∷ log) (inr r) = let e = took-times n log r in omega arith

pub delivered-counts : (n : ℕ) (o : Option Outstanding) → Delivered n o → 1 ≤ delivered n (asked_of o)
unfolding delivered
delivered-counts n None h = absurd h
delivered-counts n (Some o) h = let e = hit-in n o.from.0 (o.from.0 + o.delivered) h.0 h.1 in omega arith

pub counts-delivered : (n : ℕ) (o : Option Outstanding) → 1 ≤ delivered n (asked_of o) → Delivered n o
unfolding delivered
counts-delivered n None h = absurd (omega arith)
counts-delivered n (Some o) h = go (place n o.from.0 (o.from.0 + o.delivered))
  where
    go : Place n o.from.0 (o.from.0 + o.delivered) (hit n o.from.0 (o.from.0 + o.delivered)) → Delivered n (Some o)
    go (below a e) = absurd (omega arith)
    go (inside a b e) = (a, b)
    go (above a e) = absurd (omega arith)

-- ---- none is accepted twice
pub none-twice : (log : List Taking) → ((n : ℕ) → times n log ≤ 1) → NoneTwice log
unfolding times
none-twice [] f = tt
none-twice (p ∷ log) f = (
  λ t. let e = took-times p.took log t in let g = f p.took in let k = hit-in p.took p.took (p.took + 1) (omega arith) (omega arith) in omega arith,
  none-twice log (λ n. let g = f n in omega arith),
)

pub each-once : {a x g r d w : ℕ} → Each a x g r d w → a ≤ 1
each-once (outside z) = omega arith
each-once (accepted z) = omega arith
each-once (abandoned z) = omega arith
each-once (pending z) = omega arith

-- ---- each number is exactly one of three
module _ (h : History) (n : ℕ) where
  pub part : (w : ℕ) → w ≡ 1 → Each (times n h.accepted) (hits n h.rejected) (hits n h.world.session.gaps.missing) (hits n h.world.session.gaps.overflow_received) (delivered n (asked_of h.world.session.outstanding)) w → ExactlyOne (Accepted h n) (Abandoned h n) (Pending h n)
  part w e (outside z) = absurd (omega arith)
  part w e (accepted z) =
      one (record { taken = times-took n h.accepted (omega arith) })
      (λ q. q.never (times-took n h.accepted (omega arith)))
      (λ q.
      let a = holds-hits n h.world.session.gaps.missing q.missing in
      let b : (1 ≤ hits n h.world.session.gaps.overflow_received → ⊥) = λ y. q.no_run (hits-holds n h.world.session.gaps.overflow_received y) in
      let d : (1 ≤ delivered n (asked_of h.world.session.outstanding) → ⊥) = λ y. q.not_yet (counts-delivered n h.world.session.outstanding y) in
      omega arith)
  part w e (abandoned z) =
      two (λ q. let t = took-times n h.accepted q.taken in omega arith)
      (record { named = hits-holds n h.rejected (omega arith); never = λ t. let k = took-times n h.accepted t in omega arith })
      (λ q. let k = holds-hits n h.world.session.gaps.missing q.missing in omega arith)
  part w e (pending z) =
      three (λ q. let t = took-times n h.accepted q.taken in omega arith)
      (λ q. let t = holds-hits n h.rejected q.named in omega arith)
      (record {
        missing = hits-holds n h.world.session.gaps.missing (omega arith);
        no_run = λ t. let k = holds-hits n h.world.session.gaps.overflow_received t in omega arith;
        not_yet = λ t. let k = delivered-counts n h.world.session.outstanding t in omega arith;
      })

pub before-number : (n : ℕ) (x : Option SeqNum) → Before n x → n < number x
before-number n None b = absurd b
before-number n (Some e) b = b

-- ---- the three claims, of any history that has the invariant
pub accepted-as-given : (h : History) → Invariant h → AsGiven h.accepted
accepted-as-given h i = i.given

pub none-accepted-twice : (h : History) → Invariant h → NoneTwice h.accepted
none-accepted-twice h i = none-twice h.accepted (λ n. each-once (i.sound.numbers.each n))

pub each-exactly-one : (h : History) → Invariant h → (n : ℕ) → h.first ≤ n → Before n h.world.session.inbound_next → ExactlyOne (Accepted h n) (Abandoned h n) (Pending h n)
each-exactly-one h i n a b =
    part h n (hit n h.first (number h.world.session.inbound_next)) (hit-in n h.first (number h.world.session.inbound_next) a (before-number n h.world.session.inbound_next b)) (i.sound.numbers.each n)

-- a new session has the invariant
pub fresh_holds : (id : SessionId) (local : FlowType) (config : FixpConfig) → config.max_retransmit_count < 2 ^ 32 → Invariant (fresh id local config)
unfolding new_session Chain last_end AtFront AllBelow times hits delivered
fresh_holds id local config l =
    record {
      sound =
          record {
            bounded = l;
            recoverable = tt;
            numbered = tt;
            numbers =
                record {
                  low = omega arith;
                  ordered = omega arith;
                  gaps = omega arith;
                  runs = omega arith;
                  asked = tt;
                  rejected = tt;
                  each = λ n. let k = hit-none n 1 1 (omega arith) in outside (omega arith);
                };
            counts = tt;
            replays = tt;
            steady = tt;
            starts = (refl, refl);
          };
      knows = (tt, tt);
      given = tt;
    }

-- every history that peer and link allow has the invariant
pub allowed-holds : (id : SessionId) (local : FlowType) (config : FixpConfig) → config.max_retransmit_count < 2 ^ 32 → (xs : List Happening) → Obeys (fresh id local config) xs → Invariant (run (fresh id local config) xs)
allowed-holds id local config l xs o = run_holds xs (fresh id local config) (fresh_holds id local config l) o

pub loss-cannot-renumber : Claim
loss-cannot-renumber id local config l xs o =
    let i = allowed-holds id local config l xs o in
    let h : History = run (fresh id local config) xs in
    record { given = accepted-as-given h i; once = none-accepted-twice h i; parted = each-exactly-one h i }
