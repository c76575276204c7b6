-- What holds of the numbers, over the parts of a session and its history, and each way in which it changes.
use Rattle.std.specs.Prelude.{◌≡◌, refl, List, [], ◌∷◌, ◌++◌, Bool, true, false, ℕ, ◌+◌, ◌<◌, ◌≤◌, if◌then◌else◌}
use Rattle.std.proofs.Common.{sym, arith}
use Rattle.rules.specs.Names.{SeqNum, Gap}
use Rattle.rules.specs.Lists.{drop_below}
use Rattle.rules.specs.Gaps.{gap_of, lists, consume_missing}
use Rattle.loss.specs.Seen.{Taking}
use Rattle.loss.specs.Count.{hit, hits, Side, less, more, Place, below, inside, above}
use Rattle.loss.proofs.Count.{hit-in, hit-below, hit-above, hit-join, hit-none, hit_few, side, place, hits-snoc}
use Rattle.loss.specs.Chain.{Chain, front_or, last_of, last_end, reaching, in_run, Cleared, kept, gone, Eaten}
use Rattle.loss.proofs.Chain.{chain_more, chain-le, chain_snoc, chain-below, chain-above, chain-last, last-below, front-last, tight, last_snoc, last-reach, chain-reach, hits-reach, chain-drop, hits-drop-le, hits-drop, chain-few, run-false, run-true, eat}
use Rattle.loss.specs.Core.{Asked, idle, asking, times, delivered, AtFront, AllBelow, Each, outside, accepted, abandoned, pending, Core, refused_range}

-- ---- small facts
below_more : (b b' : ℕ) (gs : List Gap) → b ≤ b' → AllBelow b gs → AllBelow b' gs
unfolding AllBelow
below_more b b' [] p a = tt
below_more b b' (g ∷ gs) p a = (omega arith, below_more b b' gs p a.1)

below_none : (n b : ℕ) (gs : List Gap) → b ≤ n → AllBelow b gs → hits n gs ≡ 0
unfolding AllBelow hits
below_none n b [] p a = refl
below_none n b (g ∷ gs) p a =
    let h = hit-above n g.from.0 g.end.0 (omega arith) in
    let ih = below_none n b gs p a.1 in
    omega arith

-- what is delivered lies in a gap
pub out-in : (n : ℕ) (o : Asked) (ms : List Gap) → AtFront o ms → delivered n o ≤ hits n ms
unfolding AtFront delivered hits
out-in n idle ms k = omega arith
out-in n (asking f c d) [] k = absurd k
out-in n (asking f c d) (g ∷ gs) k =
    let p : f ≡ g.from.0 = k.0 in
    let j = hit-join n g.from.0 (g.from.0 + d) g.end.0 (omega arith) (omega arith) in
    rw p (omega arith)

front_low : (lo hi e : ℕ) (ms : List Gap) → lo ≤ e → Chain lo hi ms → lo ≤ front_or e ms
unfolding Chain
front_low lo hi e [] p c = p
front_low lo hi e (g ∷ gs) p c = c.0

front-le-last : (lo hi : ℕ) (g : Gap) (gs : List Gap) → Chain lo hi (g ∷ gs) → g.from.0 < last_end (g ∷ gs)
unfolding Chain
front-le-last lo hi g gs c = let h = front-last lo hi g gs c in let k = c.1 in omega arith

front-top : (lo e : ℕ) (ms : List Gap) → Chain lo (e + 1) ms → (n : ℕ) → e ≤ n → front_or e ms ≤ n
unfolding Chain
front-top lo e [] c n h = h
front-top lo e (g ∷ gs) c n h = let k = chain-le (g.end.0 + 1) (e + 1) gs c.2 in let m = c.1 in omega arith

pub each-eq : {a x g r d w a' x' g' r' d' w' : ℕ} → Each a x g r d w → a' ≡ a → x' ≡ x → g' ≡ g → r' ≡ r → d' ≡ d → w' ≡ w → Each a' x' g' r' d' w'
each-eq (outside z) p q s t u v = outside (omega arith)
each-eq (accepted z) p q s t u v = accepted (omega arith)
each-eq (abandoned z) p q s t u v = abandoned (omega arith)
each-eq (pending z) p q s t u v = pending (omega arith)

-- a number at or past the expected one is outside
each-out : {a x g r d w : ℕ} → Each a x g r d w → w ≡ 0 → (a ≡ 0) × (g ≡ 0) × (r ≡ 0)
each-out (outside z) p = omega arith
each-out (accepted z) p = omega arith
each-out (abandoned z) p = omega arith
each-out (pending z) p = omega arith

-- a number in no gap and no rejection was accepted
each_in : {a x g r d w : ℕ} → Each a x g r d w → w ≡ 1 → g ≡ 0 → x ≡ 0 → a ≡ 1
each_in (outside z) p q s = omega arith
each_in (accepted z) p q s = omega arith
each_in (abandoned z) p q s = omega arith
each_in (pending z) p q s = omega arith

-- a message is taken live
pub core-live : (first e : ℕ) (ms rs : List Gap) (o : Asked) (log : List Taking) (rej : List Gap) (t : ℕ) → Core first e ms rs o log rej → Core first (e + 1) ms rs o (record { gave = t; took = e } ∷ log) rej
unfolding times
core-live first e ms rs o log rej t i =
    record {
      low = i.low;
      ordered = omega arith;
      gaps = chain_more first (e + 1) (e + 1 + 1) ms (omega arith) i.gaps;
      runs = i.runs;
      asked = i.asked;
      rejected = below_more (front_or e ms) (front_or (e + 1) ms) rej (front-mono ms) i.rejected;
      each = λ n. go n (place n e (e + 1)) (i.each n);
    }
  where
    front-mono : (ms : List Gap) → front_or e ms ≤ front_or (e + 1) ms
    front-mono [] = omega arith
    front-mono (g ∷ gs) = omega arith

    go : (n : ℕ) → Place n e (e + 1) (hit n e (e + 1)) → Each (times n log) (hits n rej) (hits n ms) (hits n rs) (delivered n o) (hit n first e) → Each (hit n e (e + 1) + times n log) (hits n rej) (hits n ms) (hits n rs) (delivered n o) (hit n first (e + 1))
    go n (below a p) z = let j = hit-join n first e (e + 1) i.ordered (omega arith) in each-eq z (omega arith) refl refl refl refl (omega arith)
    go n (above a p) z = let j = hit-join n first e (e + 1) i.ordered (omega arith) in each-eq z (omega arith) refl refl refl refl (omega arith)
    go n (inside a b p) z =
        let j = hit-join n first e (e + 1) i.ordered (omega arith) in
        let w = hit-above n first e a in
        let q = each-out z w in
        accepted (omega arith)

-- a gap from e to next is noted, in whatever way
core-grow : (first e next : ℕ) (ms ms' rs : List Gap) (o : Asked) (log : List Taking) (rej : List Gap) → e < next → Core first e ms rs o log rej →
    Chain first (next + 1) ms' → Chain 0 (last_end ms') rs → AtFront o ms' → front_or next ms' ≡ front_or e ms → ((n : ℕ) → hits n ms' ≡ hits n ms + hit n e next) →
    Core first next ms' rs o log rej
core-grow first e next ms ms' rs o log rej l i c₁ c₂ ok fr cnt =
    record {
      low = i.low;
      ordered = let k = i.ordered in omega arith;
      gaps = c₁;
      runs = c₂;
      asked = ok;
      rejected = rw fr i.rejected;
      each = λ n. go n (place n e next) (i.each n);
    }
  where
    go : (n : ℕ) → Place n e next (hit n e next) → Each (times n log) (hits n rej) (hits n ms) (hits n rs) (delivered n o) (hit n first e) → Each (times n log) (hits n rej) (hits n ms') (hits n rs) (delivered n o) (hit n first next)
    go n (below a p) z = let j = hit-join n first e next i.ordered (omega arith) in let k = cnt n in each-eq z refl refl (omega arith) refl refl (omega arith)
    go n (above a p) z = let j = hit-join n first e next i.ordered (omega arith) in let k = cnt n in each-eq z refl refl (omega arith) refl refl (omega arith)
    go n (inside a b p) z =
        let j = hit-join n first e next i.ordered (omega arith) in
        let k = cnt n in
        let w = hit-above n first e a in
        let q = each-out z w in
        let d = out-in n o ms i.asked in
        let x = below_none n (front_or e ms) rej (front-top first e ms i.gaps n a) i.rejected in
        pending (omega arith)

out-snoc : (o : Asked) (ms : List Gap) (g : Gap) → AtFront o ms → AtFront o (ms ++ (g ∷ []))
unfolding AtFront
out-snoc idle ms g k = tt
out-snoc (asking f c d) [] g k = absurd k
out-snoc (asking f c d) (h ∷ ms) g k = k

front-snoc : (from next : SeqNum) (ms : List Gap) → front_or next.0 (ms ++ (gap_of from next ∷ [])) ≡ front_or from.0 ms
front-snoc from next [] = refl
front-snoc from next (g ∷ gs) = refl

pub last-le : (lo e : ℕ) (ms : List Gap) → Chain lo (e + 1) ms → last_end ms ≤ e
unfolding last_end
last-le lo e [] c = omega arith
last-le lo e (g ∷ gs) c = let h = last-below lo (e + 1) g gs c in omega arith

-- a gap is appended
pub core-append : (first : ℕ) (from next : SeqNum) (ms rs : List Gap) (o : Asked) (log : List Taking) (rej : List Gap) → from.0 < next.0 → last_end ms < from.0 → Core first from.0 ms rs o log rej → Core first next.0 (ms ++ (gap_of from next ∷ [])) rs o log rej
core-append first from next ms rs o log rej l t i =
    core-grow first from.0 next.0 ms (ms ++ (gap_of from next ∷ [])) rs o log rej l i
    (chain_snoc first from next ms l (tight first from.0 ms i.ordered t i.gaps))
    (rw (last_snoc ms (gap_of from next)) (chain_more 0 (last_end ms) next.0 rs (omega arith) i.runs))
    (out-snoc o ms (gap_of from next) i.asked)
    (front-snoc from next ms)
    (λ n. hits-snoc n ms (gap_of from next))

out-reach : (o : Asked) (e : SeqNum) (lo hi : ℕ) (g : Gap) (gs : List Gap) → last_end (g ∷ gs) ≤ e.0 → Chain lo hi (g ∷ gs) → AtFront o (g ∷ gs) → AtFront o (reaching e g gs)
unfolding AtFront last_end
out-reach idle e lo hi g gs p c k = tt
out-reach (asking f m d) e lo hi g [] p c k = (k.0, k.1, omega arith)
out-reach (asking f m d) e lo hi g (h ∷ gs) p c k = k

front-reach : (next : ℕ) (e : SeqNum) (g : Gap) (gs : List Gap) → front_or next (reaching e g gs) ≡ g.from.0
front-reach next e g [] = refl
front-reach next e g (h ∷ gs) = refl

-- the last gap is extended
pub core-extend : (first : ℕ) (from next : SeqNum) (g : Gap) (gs rs : List Gap) (o : Asked) (log : List Taking) (rej : List Gap) → from.0 < next.0 → last_end (g ∷ gs) ≡ from.0 → Core first from.0 (g ∷ gs) rs o log rej → Core first next.0 (reaching next g gs) rs o log rej
core-extend first from next g gs rs o log rej l q i =
    core-grow first from.0 next.0 (g ∷ gs) (reaching next g gs) rs o log rej l i
    (chain-reach first (from.0 + 1) next g gs (omega arith) i.gaps)
    (rw (last-reach next g gs) (chain_more 0 (last_end (g ∷ gs)) next.0 rs (omega arith) i.runs))
    (out-reach o next first (from.0 + 1) g gs (omega arith) i.gaps i.asked)
    (front-reach next.0 next g gs)
    (λ n. rw (← q) (hits-reach n first (from.0 + 1) next g gs (omega arith) i.gaps))

-- the held gap is widened over numbers that were received, which become a run
pub core-widen : (first : ℕ) (from next : SeqNum) (g : Gap) (gs rs : List Gap) (o : Asked) (log : List Taking) (rej : List Gap) → from.0 < next.0 → last_end (g ∷ gs) < from.0 → Core first from.0 (g ∷ gs) rs o log rej →
    Core first next.0 (reaching next g gs) (rs ++ (gap_of (last_of g gs).end from ∷ [])) o log rej
unfolding last_end
core-widen first from next g gs rs o log rej l b i =
    record {
      low = i.low;
      ordered = let k = i.ordered in omega arith;
      gaps = chain-reach first (e + 1) next g gs (omega arith) i.gaps;
      runs = rw (last-reach next g gs) (chain_more 0 (e + 1) next.0 (rs ++ (run ∷ [])) (omega arith) (chain_snoc 0 (last_of g gs).end from rs b i.runs));
      asked = out-reach o next first (e + 1) g gs (omega arith) i.gaps i.asked;
      rejected = rw (front-reach next.0 next g gs) i.rejected;
      each = λ n. rw (hits-snoc n rs run, hits-reach n first (e + 1) next g gs (omega arith) i.gaps) (go n (place n v e) (place n e next.0) (i.each n));
    }
  where
    e : ℕ
    e = from.0

    v : ℕ
    v = (last_of g gs).end.0

    run : Gap
    run = gap_of (last_of g gs).end from

    low-last : first ≤ v
    low-last = let h = front-le-last first (e + 1) g gs i.gaps in let k = front_low first (e + 1) e (g ∷ gs) i.ordered i.gaps in omega arith

    go : (n : ℕ) → Place n v e (hit n v e) → Place n e next.0 (hit n e next.0) → Each (times n log) (hits n rej) (hits n (g ∷ gs)) (hits n rs) (delivered n o) (hit n first e) → Each (times n log) (hits n rej) (hits n (g ∷ gs) + hit n v next.0) (hits n rs + hit n v e) (delivered n o) (hit n first next.0)
    go n (inside a h p) y z =
        let j = hit-join n v e next.0 (omega arith) (omega arith) in
        let y₀ = hit-below n e next.0 h in
        let j₂ = hit-join n first e next.0 i.ordered (omega arith) in
        let w = hit-in n first e (let t = low-last in omega arith) h in
        let f = front-le-last first (e + 1) g gs i.gaps in
        let x = below_none n g.from.0 rej (omega arith) i.rejected in
        let s = chain-above n first (v + 1) (g ∷ gs) (omega arith) (chain-last first (e + 1) g gs i.gaps) in
        let t = each_in z w s x in
        accepted (omega arith)
    go n (below a p) (below a' q) z = let j = hit-join n v e next.0 (omega arith) (omega arith) in let j₂ = hit-join n first e next.0 i.ordered (omega arith) in each-eq z refl refl (omega arith) (omega arith) refl (omega arith)
    go n (below a p) (inside a' h q) z = absurd (omega arith)
    go n (below a p) (above a' q) z = absurd (omega arith)
    go n (above a p) (below a' q) z = absurd (omega arith)
    go n (above a p) (above a' q) z = let j = hit-join n v e next.0 (omega arith) (omega arith) in let j₂ = hit-join n first e next.0 i.ordered (omega arith) in each-eq z refl refl (omega arith) (omega arith) refl (omega arith)
    go n (above a p) (inside a' h q) z =
        let j = hit-join n v e next.0 (omega arith) (omega arith) in
        let j₂ = hit-join n first e next.0 i.ordered (omega arith) in
        let w = hit-above n first e a' in
        let k = each-out z w in
        let d = out-in n o (g ∷ gs) i.asked in
        let x = below_none n g.from.0 rej (front-top first e (g ∷ gs) i.gaps n a') i.rejected in
        pending (omega arith)

-- A numbers leave the gap, D of them delivered and N not
each-eat : {a x g r D w x' g' r' : ℕ} (A N : ℕ) → A ≡ D + N → N ≤ 1 → g ≡ A + g' → x ≤ x' → (N ≡ 1 → 1 ≤ x') → (A ≡ 0 → x' ≡ x) → Cleared r' r g' → Side N 1 → Each a x g r D w → Each a x' g' r' 0 w
each-eat A N p l q u m s (kept e) t (outside z) = outside (omega arith)
each-eat A N p l q u m s (gone e) t (outside z) = outside (omega arith)
each-eat A N p l q u m s (kept e) t (accepted z) = accepted (omega arith)
each-eat A N p l q u m s (gone e) t (accepted z) = accepted (omega arith)
each-eat A N p l q u m s (kept e) t (abandoned z) = abandoned (omega arith)
each-eat A N p l q u m s (gone e) t (abandoned z) = abandoned (omega arith)
each-eat A N p l q u m s (kept e) (less t) (pending z) = let v = s (omega arith) in pending (omega arith)
each-eat A N p l q u m s (gone e) (less t) (pending z) = absurd (omega arith)
each-eat A N p l q u m s (kept e) (more t) (pending z) = let v = m (omega arith) in abandoned (omega arith)
each-eat A N p l q u m s (gone e) (more t) (pending z) = let v = m (omega arith) in abandoned (omega arith)

-- the request is over; k of its numbers leave the gap, of which the delivered ones are accepted
core-eat : (first e f c d k : ℕ) (g : Gap) (gs rs : List Gap) (log : List Taking) (rej rej' : List Gap) → let l = consume_missing k (lists (g ∷ gs) rs) in Core first e (g ∷ gs) rs (asking f c d) log rej → d ≤ k → k ≤ c →
    (f + k ≤ front_or e l.missing → AllBelow (front_or e l.missing) rej') →
    ((n : ℕ) → hits n rej ≤ hits n rej') → ((n : ℕ) → hit n (f + d) (f + k) ≡ 1 → 1 ≤ hits n rej') → ((n : ℕ) → hit n f (f + k) ≡ 0 → hits n rej' ≡ hits n rej) →
    Core first e l.missing l.overflow_received idle log rej'
unfolding AtFront delivered
core-eat first e f c d k g gs rs log rej rej' i dk kc rb gr in-new not_new =
    record {
      low = i.low;
      ordered = i.ordered;
      gaps = eaten.chain;
      runs = eaten.runs i.runs;
      asked = tt;
      rejected = rb (let h = ok.0 in let v = eaten.front in omega arith);
      each = λ n.
          each-eat (hit n f (f + k)) (hit n (f + d) (f + k)) (hit-join n f (f + d) (f + k) (omega arith) (omega arith)) (hit_few n (f + d) (f + k))
          (rw ok.0 (eaten.count n)) (gr n) (in-new n) (not_new n) (eaten.clears n) (side (hit n (f + d) (f + k)) 1) (i.each n);
    }
  where
    ok : (f ≡ g.from.0) × (d ≤ c) × (f + c ≤ g.end.0)
    ok = i.asked

    eaten : Eaten first (e + 1) e g.from.0 k (g ∷ gs) rs (consume_missing k (lists (g ∷ gs) rs))
    eaten = eat first e k g gs rs (let h = ok in omega arith) i.gaps

-- what was delivered leaves the gap: a release, asking again, a complete request
pub core-release : (first e f c d : ℕ) (ms rs : List Gap) (log : List Taking) (rej : List Gap) → Core first e ms rs (asking f c d) log rej →
    let l = consume_missing d (lists ms rs) in Core first e l.missing l.overflow_received idle log rej
unfolding AtFront
core-release first e f c d [] rs log rej i = absurd i.asked
core-release first e f c d (g ∷ gs) rs log rej i =
    core-eat first e f c d d g gs rs log rej rej i (omega arith) (let k = i.asked.1 in omega arith)
    (λ h. below_more g.from.0 (front_or e (consume_missing d (lists (g ∷ gs) rs)).missing) rej (let k = i.asked.0 in omega arith) i.rejected)
    (λ n. omega arith)
    (λ n h. let z = hit-none n (f + d) (f + d) (omega arith) in omega arith)
    (λ n h. refl)

-- the whole request is given up
pub core-reject : (first e : ℕ) (from : SeqNum) (c d : ℕ) (ms rs : List Gap) (log : List Taking) (rej : List Gap) → Core first e ms rs (asking from.0 c d) log rej →
    let l = consume_missing c (lists ms rs) in Core first e l.missing l.overflow_received idle log (refused_range from c ∷ rej)
unfolding AtFront hits AllBelow
core-reject first e from c d [] rs log rej i = absurd i.asked
core-reject first e from c d (g ∷ gs) rs log rej i =
    core-eat first e f c d c g gs rs log rej (r ∷ rej) i (let k = i.asked.1 in omega arith) (omega arith)
    (λ h. all_cons (let k = i.asked.0 in below_more g.from.0 (front_or e (consume_missing c (lists (g ∷ gs) rs)).missing) rej (omega arith) i.rejected) h)
    (λ n. hits-cons n)
    (λ n h. hits-new n h)
    (λ n h. hits-old n h)
  where
    f : ℕ
    f = from.0

    r : Gap
    r = refused_range from c

    dc : d ≤ c
    dc = i.asked.1

    all_cons : {b : ℕ} → AllBelow b rej → f + c ≤ b → AllBelow b (r ∷ rej)
    all_cons a h = (h, a)

    hits-cons : (n : ℕ) → hits n rej ≤ hits n (r ∷ rej)
    hits-cons n = omega arith

    hits-new : (n : ℕ) → hit n (f + d) (f + c) ≡ 1 → 1 ≤ hits n (r ∷ rej)
    hits-new n h = let j = hit-join n f (f + d) (f + c) (omega arith) (let k = dc in omega arith) in omega arith

    hits-old : (n : ℕ) → hit n f (f + c) ≡ 0 → hits n (r ∷ rej) ≡ hits n rej
    hits-old n h = omega arith

-- the front of the first gap is asked for
pub core-ask : (first e k : ℕ) (g : Gap) (gs rs : List Gap) (log : List Taking) (rej : List Gap) → g.from.0 + k ≤ g.end.0 → Core first e (g ∷ gs) rs idle log rej → Core first e (g ∷ gs) rs (asking g.from.0 k 0) log rej
unfolding AtFront delivered
core-ask first e k g gs rs log rej p i =
    record {
      low = i.low;
      ordered = i.ordered;
      gaps = i.gaps;
      runs = i.runs;
      asked = (refl, omega arith, p);
      rejected = i.rejected;
      each = λ n. each-eq (i.each n) refl refl refl refl (hit-none n g.from.0 (g.from.0 + 0) (omega arith)) refl;
    }

-- the first announcement settles the start
pub core-start : (first e next : ℕ) (rs : List Gap) (log : List Taking) (rej : List Gap) → first ≡ e → e ≤ next → Core first e [] rs idle log rej → Core next next [] rs idle log rej
unfolding Chain
core-start first e next rs log rej p q i =
    record {
      low = let k = i.low in omega arith;
      ordered = omega arith;
      gaps = omega arith;
      runs = i.runs;
      asked = i.asked;
      rejected = below_more e next rej q i.rejected;
      each = λ n. each-eq (i.each n) refl refl refl refl refl (let h = hit-none n next next (omega arith) in let h₂ = hit-none n first e (omega arith) in omega arith);
    }

-- the next number of the request is delivered: anew, or discarded since a run holds it
each-new : {a x g r r' w : ℕ} → Each a x g r 0 w → r ≡ 0 → g ≡ 1 → Each (1 + a) x g r' 1 w
each-new (outside z) p q = absurd (omega arith)
each-new (accepted z) p q = absurd (omega arith)
each-new (abandoned z) p q = absurd (omega arith)
each-new (pending z) p q = accepted (omega arith)

each_again : {a x g r r' w : ℕ} → Each a x g r 0 w → 1 ≤ r → g ≡ 1 → Each a x g r' 1 w
each_again (outside z) p q = absurd (omega arith)
each_again (accepted z) p q = accepted (omega arith)
each_again (abandoned z) p q = absurd (omega arith)
each_again (pending z) p q = absurd (omega arith)

-- a number that the replay has passed: no run is needed to say so
each-passed : {a x g r r' d w : ℕ} → Each a x g r d w → r' ≤ r → g ≤ d → Each a x g r' d w
each-passed (outside z) p q = outside (omega arith)
each-passed (accepted z) p q = accepted (omega arith)
each-passed (abandoned z) p q = abandoned (omega arith)
each-passed (pending z) p q = absurd (omega arith)

log-same : (n k t : ℕ) (b : Bool) (log : List Taking) → hit n k (k + 1) ≡ 0 → times n (if b then log else record { gave = t; took = k } ∷ log) ≡ times n log
unfolding times
log-same n k t true log h = refl
log-same n k t false log h = omega arith

gap-front : (n lo hi : ℕ) (g : Gap) (gs : List Gap) → Chain lo hi (g ∷ gs) → g.from.0 ≤ n → n < g.end.0 → hits n (g ∷ gs) ≡ 1
unfolding Chain hits
gap-front n lo hi g gs c a b = let h = hit-in n g.from.0 g.end.0 a b in let r = chain-below n (g.end.0 + 1) hi gs (omega arith) c.2 in omega arith

gap_below : (n lo hi : ℕ) (g : Gap) (gs : List Gap) → Chain lo hi (g ∷ gs) → n < g.from.0 → hits n (g ∷ gs) ≡ 0
unfolding Chain
gap_below n lo hi g gs c a = chain-below n g.from.0 hi (g ∷ gs) a (omega arith, c.1, c.2)

pub core-deliver : (first e f c d t : ℕ) (ms rs : List Gap) (log : List Taking) (rej : List Gap) → d < c → Core first e ms rs (asking f c d) log rej →
    (b : Bool) → in_run (f + d) rs ≡ b →
    Core first e ms (drop_below (f + d) rs) (asking f c (d + 1)) (if b then log else record { gave = t; took = f + d } ∷ log) rej
unfolding AtFront delivered times
core-deliver first e f c d t [] rs log rej l i b s = absurd i.asked
core-deliver first e f c d t (g ∷ gs) rs log rej l i b s =
    record {
      low = i.low;
      ordered = i.ordered;
      gaps = i.gaps;
      runs = chain-drop (f + d) 0 (last_end (g ∷ gs)) rs i.runs;
      asked = (i.asked.0, omega arith, i.asked.2);
      rejected = i.rejected;
      each = λ n. rw more-one (go n (place n (f + d) (f + d + 1)) (i.each n));
    }
  where
    ok : (f ≡ g.from.0) × (d ≤ c) × (f + c ≤ g.end.0)
    ok = i.asked

    more-one : f + (d + 1) ≡ f + d + 1
    more-one = omega arith

    log' : List Taking
    log' = if b then log else record { gave = t; took = f + d } ∷ log

    passed : (n : ℕ) → n < f + d → Place n f (f + d) (hit n f (f + d)) → hits n (g ∷ gs) ≤ hit n f (f + d)
    passed n a (below h q) = let k = ok.0 in let z = gap_below n first (e + 1) g gs i.gaps (omega arith) in omega arith
    passed n a (inside h h₂ q) = let z = chain-few n first (e + 1) (g ∷ gs) i.gaps in omega arith
    passed n a (above h q) = absurd (omega arith)

    dup : (n : ℕ) (b : Bool) → in_run n rs ≡ b → hit n n (n + 1) ≡ 1 → hits n (g ∷ gs) ≡ 1 → Each (times n log) (hits n rej) (hits n (g ∷ gs)) (hits n rs) 0 (hit n first e) →
        Each (times n (if b then log else record { gave = t; took = n } ∷ log)) (hits n rej) (hits n (g ∷ gs)) (hits n (drop_below n rs)) 1 (hit n first e)
    dup n true s h q z = each_again z (run-true n rs s) q
    dup n false s h q z = rw h (each-new z (run-false n 0 (last_end (g ∷ gs)) rs i.runs s) q)

    go : (n : ℕ) → Place n (f + d) (f + d + 1) (hit n (f + d) (f + d + 1)) → Each (times n log) (hits n rej) (hits n (g ∷ gs)) (hits n rs) (hit n f (f + d)) (hit n first e) →
        Each (times n log') (hits n rej) (hits n (g ∷ gs)) (hits n (drop_below (f + d) rs)) (hit n f (f + d + 1)) (hit n first e)
    go n (below a q) z =
        let j = hit-join n f (f + d) (f + d + 1) (omega arith) (omega arith) in
        rw (log-same n (f + d) t b log q)
        (each-eq (each-passed z (hits-drop-le n (f + d) rs) (passed n a (place n f (f + d)))) refl refl refl refl (omega arith) refl)
    go n (above a q) z =
        let j = hit-join n f (f + d) (f + d + 1) (omega arith) (omega arith) in
        each-eq z (log-same n (f + d) t b log q) refl refl (hits-drop n (f + d) rs (omega arith)) (omega arith) refl
    go n (inside a a₂ q) z =
        let ef : n ≡ f + d = omega arith in
        let s' : in_run n rs ≡ b = rw ef s in
        let k = ok in
        let one = gap-front n first (e + 1) g gs i.gaps (omega arith) (omega arith) in
        let none = hit-above n f (f + d) a in
        rw (← ef) (rw (hit-in n f (n + 1) (omega arith) (omega arith)) (dup n b s' (hit-in n n (n + 1) (omega arith) (omega arith)) one (each-eq z refl refl refl refl (sym none) refl)))

-- a gap that does not touch the last one begins past its end
pub apart : (first e : ℕ) (g : Gap) (gs rs : List Gap) (o : Asked) (log : List Taking) (rej : List Gap) → (last_end (g ∷ gs) ≡ e → ⊥) → Core first e (g ∷ gs) rs o log rej → last_end (g ∷ gs) < e
apart first e g gs rs o log rej t i = let h = last-le first e (g ∷ gs) i.gaps in omega arith
