-- Claims 2 and 3 hold whatever peer and link do: they speak of the numbers that were taken, and any one call is one that some truthful
-- peer could have made, if the messages before it were given as they were taken.
use Rattle.std.specs.Prelude.{◌≡◌, refl, List, [], ◌∷◌, ℕ, ◌+◌, ◌<◌, ◌≤◌, ◌^◌, Ok, Err}
use Rattle.std.proofs.Common.{sym, ap, subst, arith}
use Rattle.rules.specs.Names.{SessionId, FlowType, FixpConfig, Answer}
use Rattle.rules.specs.Names.verdict
use Rattle.rules.specs.Names.delivery
use Rattle.rules.specs.State.{Queue}
use Rattle.rules.specs.Local.{Refused, passes, refuses}
use Rattle.rules.specs.Calls.{Call, call, reading, polled, transport_closed}
use Rattle.loss.specs.Seen.{Taking, number, noted}
use Rattle.loss.specs.History.{History, fresh, Happening, calls, polls, closes, drops_live, drops_tail, Kind, kind_of, given_as, ran, with_queue, step, run, Allowed}
use Rattle.loss.specs.Claim.{Before, AsGiven, NoneTwice, Accepted, Abandoned, Pending, ExactlyOne}
use Rattle.loss.specs.Count.{hit, hits}
use Rattle.loss.proofs.Count.{hit-in}
use Rattle.loss.specs.Core.{asked_of, times, delivered, Each}
use Rattle.loss.specs.Good.{Good}
use Rattle.loss.proofs.Holding.{step-holds}
use Rattle.loss.proofs.Theorem.{none-twice, each-once, part, before-number, fresh_holds}
use Rattle.loss.specs.Reached.{peer_for}
use Rattle.loss.proofs.Reached.{peer-knows, peer-truthful}
use Rattle.loss.specs.Anyhow.{as_taken, Fine}

taken-given : (l : List Taking) → AsGiven (as_taken l)
unfolding as_taken
taken-given [] = tt
taken-given (t ∷ l) = (refl, taken-given l)

taken-times : (n : ℕ) (l : List Taking) → times n (as_taken l) ≡ times n l
unfolding as_taken times
taken-times n [] = refl
taken-times n (t ∷ l) = ap (λ (k : ℕ). hit n t.took (t.took + 1) + k) (taken-times n l)

noted-taken : (a : Answer) (g g' : ℕ) (l : List Taking) → AsGiven (noted a g (as_taken l)) → noted a g (as_taken l) ≡ as_taken (noted a g' l)
unfolding as_taken
noted-taken (Ok verdict.Done) g g' l e = refl
noted-taken (Ok (verdict.Delivered delivery.Discard)) g g' l e = refl
noted-taken (Ok (verdict.Delivered (delivery.Accept n again))) g g' l e = ap (λ (k : ℕ). record { gave = k; took = number n } ∷ as_taken l) (sym e.0)
noted-taken (Ok (verdict.Sent n)) g g' l e = refl
noted-taken (Ok (verdict.Batch b)) g g' l e = refl
noted-taken (Err r) g g' l e = refl

call-fine : (c : Call) (h : History) → Fine h → Fine (step h (calls c))
unfolding step ran Allowed
call-fine c h i =
    let j = step-holds h' (record { sound = i; knows = peer-knows kind h.world.session; given = taken-given h.accepted }) (calls c) (λ e. peer-truthful kind h.world.session i.replays) in
    subst (λ (l : List Taking). Good (step h (calls c)).world.session (step h (calls c)).first l (step h (calls c)).rejected) (noted-taken (call c h.world).answer _ (given_as h.peer.batch.left h.peer) h.accepted j.given) j.sound
  where
    kind : Kind
    kind = kind_of h.world.session.id c

    h' : History
    h' = record { world = h.world; first = h.first; accepted = as_taken h.accepted; rejected = h.rejected; peer = peer_for kind h.world.session }

queue-fine : (r : Refused) (q : Queue) (h : History) → Fine h → Fine (with_queue r q h)
queue-fine passes q h i = i
queue-fine (refuses r) q h i = i

step-fine : (x : Happening) (h : History) → Fine h → Fine (step h x)
unfolding step
step-fine (calls c) h i = call-fine c h i
step-fine polls h i = queue-fine (reading h.world) (polled h.world.queue) h i
step-fine closes h i = queue-fine (reading h.world) (transport_closed h.world.queue) h i
step-fine drops_live h i = i
step-fine drops_tail h i = i

run-fine : (xs : List Happening) (h : History) → Fine h → Fine (run h xs)
unfolding run
run-fine [] h i = i
run-fine (x ∷ xs) h i = run-fine xs (step h x) (step-fine x h i)

fresh-fine : (id : SessionId) (local : FlowType) (config : FixpConfig) → config.max_retransmit_count < 2 ^ 32 → (xs : List Happening) → Fine (run (fresh id local config) xs)
unfolding as_taken
fresh-fine id local config l xs = run-fine xs (fresh id local config) (fresh_holds id local config l).sound

-- none is accepted twice, and every number is exactly one of the three, of any peer and over any link
pub none-twice-anyhow : (id : SessionId) (local : FlowType) (config : FixpConfig) → config.max_retransmit_count < 2 ^ 32 → (xs : List Happening) → NoneTwice (run (fresh id local config) xs).accepted
none-twice-anyhow id local config l xs =
    let h : History = run (fresh id local config) xs in
    none-twice h.accepted (λ n. let e = taken-times n h.accepted in let a = each-once ((fresh-fine id local config l xs).numbers.each n) in omega arith)

pub exactly-one-anyhow : (id : SessionId) (local : FlowType) (config : FixpConfig) → config.max_retransmit_count < 2 ^ 32 → (xs : List Happening) → let h = run (fresh id local config) xs in
    (n : ℕ) → h.first ≤ n → Before n h.world.session.inbound_next → ExactlyOne (Accepted h n) (Abandoned h n) (Pending h n)
exactly-one-anyhow id local config l xs n a b =
    let h : History = run (fresh id local config) xs in
    let e : ℕ = number h.world.session.inbound_next in
    part h n (hit n h.first e) (hit-in n h.first e a (before-number n h.world.session.inbound_next b))
    (subst (λ (k : ℕ). Each k (hits n h.rejected) (hits n h.world.session.gaps.missing) (hits n h.world.session.gaps.overflow_received) (delivered n (asked_of h.world.session.outstanding)) (hit n h.first e)) (taken-times n h.accepted) ((fresh-fine id local config l xs).numbers.each n))
