-- Counting instead of sets: how many ranges of a list hold the number n. Every change of a list is then one equation.
use Rattle.std.specs.Prelude.{◌≡◌, refl, List, [], ◌∷◌, ◌++◌, Bool, true, false, ℕ, ◌+◌, ◌<◌, ◌≤◌, ltb, leb, if◌then◌else◌}
use Rattle.std.proofs.Common.{arith, ltb-true, ltb-false, lt-ltb, le-ltb, le-leb}
use Rattle.std.proofs.lemmas.Bool.{lt-leb}
use Rattle.rules.specs.Names.{Gap}
use Rattle.loss.specs.Count.{hit, hits, Side, less, more, Place, below, inside, above}

-- what holds of both outcomes of a test holds of the test
pub by-test : {A : Type 0} (P : A → Type 0) (b : Bool) {x y : A} → (b ≡ true → P x) → (b ≡ false → P y) → P (if b then x else y)
by-test P true f g = f refl
by-test P false f g = g refl

-- a test that came out both ways
pub no : {A : Type 0} → true ≡ false → A
no e = absurd (let z : ◌≡◌ {A = ℕ} 0 1 = cc in omega arith)

pub side : (a b : ℕ) → Side a b
side a b = go (ltb a b) refl
  where
    go : (t : Bool) → ltb a b ≡ t → Side a b
    go true e = less (ltb-true a b e)
    go false e = more (ltb-false a b e)

pub hit-in : (n lo hi : ℕ) → lo ≤ n → n < hi → hit n lo hi ≡ 1
unfolding hit
hit-in n lo hi a b = rw (le-leb lo n a, lt-ltb n hi b) refl

pub hit-below : (n lo hi : ℕ) → n < lo → hit n lo hi ≡ 0
unfolding hit
hit-below n lo hi a = rw (lt-leb lo n a) refl

pub hit-above : (n lo hi : ℕ) → hi ≤ n → hit n lo hi ≡ 0
unfolding hit
hit-above n lo hi a = by-test (λ (k : ℕ). k ≡ 0) (leb lo n) (λ e. rw (le-ltb n hi a) refl) (λ e. refl)

pub place : (n lo hi : ℕ) → Place n lo hi (hit n lo hi)
place n lo hi = go (side n lo) (side n hi)
  where
    go : Side n lo → Side n hi → Place n lo hi (hit n lo hi)
    go (less a) s = below a (hit-below n lo hi a)
    go (more a) (less b) = inside a b (hit-in n lo hi a b)
    go (more a) (more b) = above b (hit-above n lo hi b)

pub hit_few : (n lo hi : ℕ) → hit n lo hi ≤ 1
hit_few n lo hi = go (place n lo hi)
  where
    go : Place n lo hi (hit n lo hi) → hit n lo hi ≤ 1
    go (below a e) = omega arith
    go (inside a b e) = omega arith
    go (above a e) = omega arith

pub hit-join : (n lo mid hi : ℕ) → lo ≤ mid → mid ≤ hi → hit n lo hi ≡ hit n lo mid + hit n mid hi
hit-join n lo mid hi p q = go (place n lo mid) (place n mid hi)
  where
    go : Place n lo mid (hit n lo mid) → Place n mid hi (hit n mid hi) → hit n lo hi ≡ hit n lo mid + hit n mid hi
    go (below a e) (below b f) = let w = hit-below n lo hi a in omega arith
    go (below a e) (inside b c f) = omega arith
    go (below a e) (above b f) = omega arith
    go (inside a b e) (below c f) = let w = hit-in n lo hi a (omega arith) in omega arith
    go (inside a b e) (inside c d f) = omega arith
    go (inside a b e) (above c f) = omega arith
    go (above a e) (below c f) = omega arith
    go (above a e) (inside c d f) = let w = hit-in n lo hi (omega arith) d in omega arith
    go (above a e) (above c f) = let w = hit-above n lo hi c in omega arith

pub hit-none : (n lo hi : ℕ) → hi ≤ lo → hit n lo hi ≡ 0
hit-none n lo hi p = go (side n lo)
  where
    go : Side n lo → hit n lo hi ≡ 0
    go (less a) = hit-below n lo hi a
    go (more a) = hit-above n lo hi (omega arith)

pub hits-snoc : (n : ℕ) (gs : List Gap) (g : Gap) → hits n (gs ++ (g ∷ [])) ≡ hits n gs + hit n g.from.0 g.end.0
unfolding hits
hits-snoc n [] g = omega arith
hits-snoc n (h ∷ gs) g = let ih = hits-snoc n gs g in omega arith
