-- Ranges that are not empty, ascend and never touch, and what the rules' list operations do to them.
use Rattle.std.specs.Prelude.{◌≡◌, refl, List, [], ◌∷◌, ◌++◌, true, false, ℕ, ◌+◌, ◌<◌, ◌≤◌, ltb, leb, eqb, Some}
use Rattle.std.proofs.Common.{arith, ltb-true, leb-true, ltb-false, leb-false, eqb-true}
use Rattle.rules.specs.Names.{SeqNum, Gap}
use Rattle.rules.specs.Lists.{front_of, back_of, drop_below}
use Rattle.rules.specs.Gaps.{gap_of, lists, starts_by, runs_with, drop_first, consume_missing}
use Rattle.loss.specs.Count.{hit, hits, Place, below, inside, above}
use Rattle.loss.proofs.Count.{by-test, hit-in, hit-below, hit-above, hit-join, hit-none, place}
use Rattle.loss.specs.Chain.{Chain, front_or, last_of, last_end, reaching, in_run, Cleared, kept, gone, Eaten}

pub back_is : (g : Gap) (gs : List Gap) → back_of (g ∷ gs) ≡ Some (last_of g gs)
back_is g [] = refl
back_is g (h ∷ gs) = back_is h gs

pub chain-less : (lo lo' hi : ℕ) (gs : List Gap) → lo' ≤ lo → Chain lo hi gs → Chain lo' hi gs
unfolding Chain
chain-less lo lo' hi [] p c = omega arith
chain-less lo lo' hi (g ∷ gs) p c = (omega arith, c.1, c.2)

pub chain_more : (lo hi hi' : ℕ) (gs : List Gap) → hi ≤ hi' → Chain lo hi gs → Chain lo hi' gs
unfolding Chain
chain_more lo hi hi' [] p c = omega arith
chain_more lo hi hi' (g ∷ gs) p c = (c.0, c.1, chain_more (g.end.0 + 1) hi hi' gs p c.2)

pub chain-le : (lo hi : ℕ) (gs : List Gap) → Chain lo hi gs → lo ≤ hi
unfolding Chain
chain-le lo hi [] c = c
chain-le lo hi (g ∷ gs) c = let h = chain-le (g.end.0 + 1) hi gs c.2 in omega arith

pub chain_snoc : (lo : ℕ) (a b : SeqNum) (gs : List Gap) → a.0 < b.0 → Chain lo a.0 gs → Chain lo (b.0 + 1) (gs ++ (gap_of a b ∷ []))
unfolding Chain
chain_snoc lo a b [] p c = (c, p, omega arith)
chain_snoc lo a b (g ∷ gs) p c = (c.0, c.1, chain_snoc (g.end.0 + 1) a b gs p c.2)

-- nothing below, nothing past the end
pub chain-below : (n lo hi : ℕ) (gs : List Gap) → n < lo → Chain lo hi gs → hits n gs ≡ 0
unfolding Chain hits
chain-below n lo hi [] p c = refl
chain-below n lo hi (g ∷ gs) p c =
    let a = hit-below n g.from.0 g.end.0 (omega arith) in
    let b = chain-below n (g.end.0 + 1) hi gs (omega arith) c.2 in
    omega arith

pub chain-above : (n lo hi : ℕ) (gs : List Gap) → hi ≤ n + 1 → Chain lo hi gs → hits n gs ≡ 0
unfolding Chain hits
chain-above n lo hi [] p c = refl
chain-above n lo hi (g ∷ gs) p c =
    let h = chain-le (g.end.0 + 1) hi gs c.2 in
    let a = hit-above n g.from.0 g.end.0 (omega arith) in
    let b = chain-above n (g.end.0 + 1) hi gs p c.2 in
    omega arith

-- a chain ends at its last range
pub chain-last : (lo hi : ℕ) (g : Gap) (gs : List Gap) → Chain lo hi (g ∷ gs) → Chain lo (last_end (g ∷ gs) + 1) (g ∷ gs)
unfolding Chain last_end
chain-last lo hi g [] c = (c.0, c.1, omega arith)
chain-last lo hi g (h ∷ gs) c = (c.0, c.1, chain-last (g.end.0 + 1) hi h gs c.2)

pub last-below : (lo hi : ℕ) (g : Gap) (gs : List Gap) → Chain lo hi (g ∷ gs) → last_end (g ∷ gs) + 1 ≤ hi
unfolding Chain last_end
last-below lo hi g [] c = c.2
last-below lo hi g (h ∷ gs) c = last-below (g.end.0 + 1) hi h gs c.2

pub front-last : (lo hi : ℕ) (g : Gap) (gs : List Gap) → Chain lo hi (g ∷ gs) → g.end.0 ≤ last_end (g ∷ gs)
unfolding Chain last_end
front-last lo hi g [] c = omega arith
front-last lo hi g (h ∷ gs) c = let ih = front-last (g.end.0 + 1) hi h gs c.2 in let d = c.2.1 in let e = c.2.0 in omega arith

-- not touching: room for one more
pub tight : (lo e : ℕ) (gs : List Gap) → lo ≤ e → last_end gs < e → Chain lo (e + 1) gs → Chain lo e gs
unfolding Chain
tight lo e [] p t c = p
tight lo e (g ∷ gs) p t c = chain_more lo (last_end (g ∷ gs) + 1) e (g ∷ gs) (omega arith) (chain-last lo (e + 1) g gs c)

pub last_snoc : (gs : List Gap) (g : Gap) → last_end (gs ++ (g ∷ [])) ≡ g.end.0
unfolding last_end
last_snoc [] g = refl
last_snoc (h ∷ []) g = refl
last_snoc (h ∷ (k ∷ gs)) g = last_snoc (k ∷ gs) g

-- the last range reaches further
pub last-reach : (e : SeqNum) (g : Gap) (gs : List Gap) → last_end (reaching e g gs) ≡ e.0
unfolding last_end
last-reach e g [] = refl
last-reach e g (h ∷ []) = refl
last-reach e g (h ∷ (k ∷ gs)) = last-reach e h (k ∷ gs)

pub chain-reach : (lo hi : ℕ) (e : SeqNum) (g : Gap) (gs : List Gap) → last_end (g ∷ gs) ≤ e.0 → Chain lo hi (g ∷ gs) → Chain lo (e.0 + 1) (reaching e g gs)
unfolding Chain last_end
chain-reach lo hi e g [] p c = (c.0, omega arith, omega arith)
chain-reach lo hi e g (h ∷ gs) p c = (c.0, c.1, chain-reach (g.end.0 + 1) hi e h gs p c.2)

pub hits-reach : (n lo hi : ℕ) (e : SeqNum) (g : Gap) (gs : List Gap) → last_end (g ∷ gs) ≤ e.0 → Chain lo hi (g ∷ gs) → hits n (reaching e g gs) ≡ hits n (g ∷ gs) + hit n (last_end (g ∷ gs)) e.0
unfolding Chain last_end hits
hits-reach n lo hi e g [] p c = let j = hit-join n g.from.0 g.end.0 e.0 (omega arith) p in omega arith
hits-reach n lo hi e g (h ∷ gs) p c = let ih = hits-reach n (g.end.0 + 1) hi e h gs p c.2 in omega arith

-- the runs below m are dropped
pub chain-drop : (m lo hi : ℕ) (gs : List Gap) → Chain lo hi gs → Chain lo hi (drop_below m gs)
unfolding Chain
chain-drop m lo hi [] c = c
chain-drop m lo hi (g ∷ gs) c =
    by-test (Chain lo hi) (leb g.end.0 m)
    (λ t. chain-less (g.end.0 + 1) lo hi (drop_below m gs) (omega arith) (chain-drop m (g.end.0 + 1) hi gs c.2))
    (λ t. c)

pub hits-drop-le : (n m : ℕ) (gs : List Gap) → hits n (drop_below m gs) ≤ hits n gs
unfolding hits
hits-drop-le n m [] = omega arith
hits-drop-le n m (g ∷ gs) =
    by-test (λ (l : List Gap). hits n l ≤ hit n g.from.0 g.end.0 + hits n gs) (leb g.end.0 m)
    (λ t. let ih = hits-drop-le n m gs in omega arith)
    (λ t. omega arith)

pub hits-drop : (n m : ℕ) (gs : List Gap) → m ≤ n → hits n (drop_below m gs) ≡ hits n gs
unfolding hits
hits-drop n m [] p = refl
hits-drop n m (g ∷ gs) p =
    by-test (λ (l : List Gap). hits n l ≡ hit n g.from.0 g.end.0 + hits n gs) (leb g.end.0 m)
    (λ t. let q = leb-true g.end.0 m t in let ih = hits-drop n m gs p in let z = hit-above n g.from.0 g.end.0 (omega arith) in omega arith)
    (λ t. refl)

-- at most one range holds n
pub chain-few : (n lo hi : ℕ) (gs : List Gap) → Chain lo hi gs → hits n gs ≤ 1
unfolding Chain hits
chain-few n lo hi [] c = omega arith
chain-few n lo hi (g ∷ gs) c = go (chain-few n (g.end.0 + 1) hi gs c.2) (place n g.from.0 g.end.0)
  where
    go : hits n gs ≤ 1 → Place n g.from.0 g.end.0 (hit n g.from.0 g.end.0) → hit n g.from.0 g.end.0 + hits n gs ≤ 1
    go f (below a e) = omega arith
    go f (inside a b e) = let z = chain-below n (g.end.0 + 1) hi gs (omega arith) c.2 in omega arith
    go f (above a e) = omega arith

pub run-false : (m lo hi : ℕ) (gs : List Gap) → Chain lo hi gs → in_run m gs ≡ false → hits m gs ≡ 0
unfolding Chain hits
run-false m lo hi [] c t = refl
run-false m lo hi (g ∷ gs) c t =
    by-test (λ (l : List Gap). starts_by (front_of l) m ≡ false → hit m g.from.0 g.end.0 + hits m gs ≡ 0) (leb g.end.0 m)
    (λ q u. let h = hit-above m g.from.0 g.end.0 (leb-true g.end.0 m q) in let ih = run-false m (g.end.0 + 1) hi gs c.2 u in omega arith)
    (λ q u. let k = leb-false g.from.0 m u in let h = hit-below m g.from.0 g.end.0 k in let r = chain-below m (g.end.0 + 1) hi gs (omega arith) c.2 in omega arith) t

pub run-true : (m : ℕ) (gs : List Gap) → in_run m gs ≡ true → 1 ≤ hits m gs
unfolding hits
run-true m [] t = absurd (let z : ◌≡◌ {A = ℕ} 0 1 = cc in omega arith)
run-true m (g ∷ gs) t =
    by-test (λ (l : List Gap). starts_by (front_of l) m ≡ true → 1 ≤ hit m g.from.0 g.end.0 + hits m gs) (leb g.end.0 m)
    (λ q u. let ih = run-true m gs u in omega arith)
    (λ q u. let h = hit-in m g.from.0 g.end.0 (leb-true g.from.0 m u) (leb-false g.end.0 m q) in omega arith) t

-- ---- the first k numbers of the first gap go
front-next : (g : Gap) (e : ℕ) (gs : List Gap) → Chain (g.end.0 + 1) (e + 1) gs → g.end.0 ≤ front_or e gs
unfolding Chain
front-next g e [] c = omega arith
front-next g e (h ∷ gs) c = omega arith

rest-runs : (g : Gap) (gs rs : List Gap) → Chain 0 (last_end (g ∷ gs)) rs → Chain 0 (last_end gs) (runs_with gs rs)
unfolding Chain last_end
rest-runs g [] rs c = omega arith
rest-runs g (h ∷ gs) rs c = c

rest-clears : (n : ℕ) (gs rs : List Gap) → Cleared (hits n (runs_with gs rs)) (hits n rs) (hits n gs)
unfolding hits
rest-clears n [] rs = gone (omega arith)
rest-clears n (g ∷ gs) rs = kept refl

same-last : (g h : Gap) (gs rs : List Gap) → g.end.0 ≡ h.end.0 → Chain 0 (last_end (g ∷ gs)) rs → Chain 0 (last_end (h ∷ gs)) rs
unfolding Chain last_end
same-last g h [] rs p c = rw (← p) c
same-last g h (k ∷ gs) rs p c = c

pub eat : (lo e k : ℕ) (g : Gap) (gs rs : List Gap) → g.from.0 + k ≤ g.end.0 → Chain lo (e + 1) (g ∷ gs) → Eaten lo (e + 1) e g.from.0 k (g ∷ gs) rs (consume_missing k (lists (g ∷ gs) rs))
unfolding Chain hits consume_missing drop_first
eat lo e k g gs rs p c =
    by-test (Eaten lo (e + 1) e g.from.0 k (g ∷ gs) rs) (eqb k 0)
    (λ t. let z = eqb-true k 0 t in record {
      chain = c;
      front = omega arith;
      count = λ n. let h = hit-none n g.from.0 (g.from.0 + k) (omega arith) in omega arith;
      runs = λ q. q;
      clears = λ n. kept refl;
    })
    (λ t. by-test (Eaten lo (e + 1) e g.from.0 k (g ∷ gs) rs) (ltb (g.from.0 + k) g.end.0)
    (λ u. let v = ltb-true (g.from.0 + k) g.end.0 u in record {
      chain = (omega arith, omega arith, c.2);
      front = omega arith;
      count = λ n. let h = hit-join n g.from.0 (g.from.0 + k) g.end.0 (omega arith) (omega arith) in omega arith;
      runs = λ q. same-last g (gap_of (record { 0 = g.from.0 + k }) g.end) gs rs refl q;
      clears = λ n. kept refl;
    })
    (λ u. let v = ltb-false (g.from.0 + k) g.end.0 u in let w : g.from.0 + k ≡ g.end.0 = omega arith in record {
      chain = chain-less (g.end.0 + 1) lo (e + 1) gs (omega arith) c.2;
      front = rw w (front-next g e gs c.2);
      count = λ n. rw w refl;
      runs = λ q. rest-runs g gs rs q;
      clears = λ n. rest-clears n gs rs;
    }))
