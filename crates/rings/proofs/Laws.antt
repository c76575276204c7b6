-- Laws of a ring as a list, over any element and any room: what a push, a pop and a store do to the list.
use Prim.Native.Nat.{ℕ, zero, suc, ◌+◌, ◌-◌, ◌<◌, ◌≤◌}
use mathlib.Core.Path.{◌≡◌, refl, ap, sym, ◌∙◌}
use mathlib.Core.List.{List, [], ◌∷◌, ◌++◌, map}
use native.Mathlib.Omega.{arith}
use native.Mathlib.Decide.{dec_lt}
use borrow.Author.Tests.{lt-ltb, le-ltb}
use lib.ListN.{get_or, set, length, length-map}
use lib.Seq.{get_or-set_same, get_or-set_other}
use Rattle.rules.specs.Lists.{rest, set_back}
use Rattle.rings.specs.Ring.{wrap, ring_list}

-- ---- places
pub wrap-low : (room p : ℕ) → p < room → wrap room p ≡ p
unfolding wrap
wrap-low room p h = rw (lt-ltb p room h)

pub wrap-high : (room p : ℕ) → room ≤ p → wrap room p ≡ p - room
unfolding wrap
wrap-high room p h = rw (le-ltb p room h)

pub wrap-below : (room p : ℕ) → p < room + room → wrap room p < room
wrap-below room p h = go (dec_lt p room)
  where
    go : Dec (p < room) → wrap room p < room
    go (yes a) = rw (wrap-low room p a) a
    go (no a) = let e : room ≤ p = omega arith in rw (wrap-high room p e) (omega arith)

-- a step on and then n more are n + 1
pub wrap-step : (room h n : ℕ) → h < room → n < room → wrap room (wrap room (h + 1) + n) ≡ wrap room (h + suc n)
wrap-step room h n hh hn = go (dec_lt (h + 1) room)
  where
    go : Dec (h + 1 < room) → wrap room (wrap room (h + 1) + n) ≡ wrap room (h + suc n)
    go (yes a) = rw (wrap-low room (h + 1) a) (ap (wrap room) (omega arith))
    go (no a) = rw (wrap-high room (h + 1) (omega arith)) (wrap-low room _ (omega arith) ∙ omega arith ∙ sym (wrap-high room (h + suc n) (omega arith)))

-- k steps on and then one more are k + 1
pub wrap-next : (room h k : ℕ) → h < room → k < room → wrap room (wrap room (h + k) + 1) ≡ wrap room (h + (k + 1))
wrap-next room h k hh hk = go (dec_lt (h + k) room)
  where
    go : Dec (h + k < room) → wrap room (wrap room (h + k) + 1) ≡ wrap room (h + (k + 1))
    go (yes a) = rw (wrap-low room (h + k) a) (ap (wrap room) (omega arith))
    go (no a) = rw (wrap-high room (h + k) (omega arith)) (wrap-low room _ (omega arith) ∙ omega arith ∙ sym (wrap-high room (h + (k + 1)) (omega arith)))

-- the places of a ring are apart
pub wrap-apart : (room h i n : ℕ) → h < room → n < room → i < n → wrap room (h + i) ≡ wrap room (h + n) → ⊥
wrap-apart room h i n hh hn hi = go (dec_lt (h + i) room) (dec_lt (h + n) room)
  where
    go : Dec (h + i < room) → Dec (h + n < room) → wrap room (h + i) ≡ wrap room (h + n) → ⊥
    go (yes a) (yes b) e = omega (arith, wrap-low room (h + i) a, wrap-low room (h + n) b)
    go (yes a) (no b) e = omega (arith, wrap-low room (h + i) a, wrap-high room (h + n) (omega arith))
    go (no a) (yes b) e = omega arith
    go (no a) (no b) e = omega (arith, wrap-high room (h + i) (omega arith), wrap-high room (h + n) (omega arith))

-- ---- lists
-- what owning an array of structs tells of its list's length
pub long_of : (X Y : Type 0) (f : X → Y) (l : List X) (n : ℕ) → length (map f l) ≡ n → length l ≡ n
long_of X Y f l n e = sym (length-map l f) ∙ e

pub nil-of : {A : Type 0} (l : List A) → length l ≡ 0 → l ≡ []
nil-of [] e = refl
nil-of (x ∷ l) e = absurd (omega arith)

-- the last of a list that has one becomes x
pub set-back-snoc : {A : Type 0} (l : List A) (y x : A) → set_back (l ++ (y ∷ [])) x ≡ l ++ (x ∷ [])
set-back-snoc [] y x = refl
set-back-snoc (a ∷ []) y x = refl
set-back-snoc (a ∷ b ∷ l) y x = ap (λ (k : List _). a ∷ k) (set-back-snoc (b ∷ l) y x)

-- ---- rings
module _ {A : Type 0} (room : ℕ) (d : A) where
  pub length-ring : (s : List A) (h n : ℕ) → length (ring_list room d s h n) ≡ n
  unfolding ring_list
  length-ring s h zero = refl
  length-ring s h (suc n) = ap suc (length-ring s (wrap room (h + 1)) n)

  -- a ring of none, and one of some at its first and at its last
  pub ring-none : (s : List A) (h n : ℕ) → n ≡ 0 → ring_list room d s h n ≡ []
  unfolding ring_list
  ring-none s h n e = rw e

  pub ring-cons : (s : List A) (h n : ℕ) → 0 < n → ring_list room d s h n ≡ get_or s h d ∷ ring_list room d s (wrap room (h + 1)) (n - 1)
  unfolding ring_list
  ring-cons s h zero hn = absurd (omega arith)
  ring-cons s h (suc n) hn = let e : suc n - 1 ≡ n = omega arith in rw e

  pub ring-snoc : (s : List A) (h n : ℕ) → h < room → n < room → ring_list room d s h (suc n) ≡ ring_list room d s h n ++ (get_or s (wrap room (h + n)) d ∷ [])
  unfolding ring_list
  ring-snoc s h zero hh hn = ap (λ (p : ℕ). get_or s p d ∷ []) (sym (ap (wrap room) (omega arith) ∙ wrap-low room h hh))
  ring-snoc s h (suc n) hh hn =
      ap (λ (l : List A). get_or s h d ∷ l)
      (ring-snoc s (wrap room (h + 1)) n (wrap-below room (h + 1) (omega arith)) (omega arith)
      ∙ ap (λ (p : ℕ). ring_list room d s (wrap room (h + 1)) n ++ (get_or s p d ∷ [])) (wrap-step room h n hh (omega arith)))

  pub ring-last : (s : List A) (h n : ℕ) → h < room → 0 < n → n ≤ room → ring_list room d s h n ≡ ring_list room d s h (n - 1) ++ (get_or s (wrap room (h + (n - 1))) d ∷ [])
  ring-last s h zero hh hn hc = absurd (omega arith)
  ring-last s h (suc n) hh hn hc = let e : suc n - 1 ≡ n = omega arith in rw e (ring-snoc s h n hh (omega arith))

  -- a store at a place that is not among the n changes nothing
  pub ring-other : (s : List A) (p : ℕ) (x : A) (h n : ℕ) → h < room → n ≤ room → ((i : ℕ) → i < n → wrap room (h + i) ≡ p → ⊥) → ring_list room d (set s p x) h n ≡ ring_list room d s h n
  unfolding ring_list
  ring-other s p x h zero hh hn out = refl
  ring-other s p x h (suc n) hh hn out =
      ap (λ (y : A). y ∷ ring_list room d (set s p x) (wrap room (h + 1)) n) (get_or-set_other s p h x d (λ e. out 0 (omega arith) (ap (wrap room) (omega arith) ∙ wrap-low room h hh ∙ e)))
      ∙ ap (λ (l : List A). get_or s h d ∷ l)
      (ring-other s p x (wrap room (h + 1)) n (wrap-below room (h + 1) (omega arith)) (omega arith) (λ i hi e. out (suc i) (omega arith) (sym (wrap-step room h i hh (omega arith)) ∙ e)))

  -- a store at the place after the n: one more at the back
  pub ring-push : (s : List A) (x : A) (h n : ℕ) → h < room → n < room → length s ≡ room → ring_list room d (set s (wrap room (h + n)) x) h (suc n) ≡ ring_list room d s h n ++ (x ∷ [])
  ring-push s x h n hh hn len =
      ring-snoc (set s (wrap room (h + n)) x) h n hh hn
      ∙ ap (λ (y : A). ring_list room d (set s (wrap room (h + n)) x) h n ++ (y ∷ [])) (get_or-set_same s (wrap room (h + n)) x d (rw len (wrap-below room (h + n) (omega arith))))
      ∙ ap (λ (l : List A). l ++ (x ∷ [])) (ring-other s (wrap room (h + n)) x h n hh (omega arith) (λ i hi e. wrap-apart room h i n hh hn hi e))

  -- the head a step on, and one fewer: all but the first
  pub ring-pop : (s : List A) (h n : ℕ) → 0 < n → ring_list room d s (wrap room (h + 1)) (n - 1) ≡ rest (ring_list room d s h n)
  ring-pop s h n hn = rw (ring-cons s h n hn)

  -- a store at the first place
  pub ring-set-front : (s : List A) (x : A) (h n : ℕ) → h < room → 0 < n → n ≤ room → length s ≡ room → ring_list room d (set s h x) h n ≡ x ∷ rest (ring_list room d s h n)
  ring-set-front s x h n hh hn hc len =
      rw (ring-cons (set s h x) h n hn, ring-cons s h n hn, get_or-set_same s h x d (rw len hh))
      (ap (λ (l : List A). x ∷ l) (ring-other s h x (wrap room (h + 1)) (n - 1) (wrap-below room (h + 1) (omega arith)) (omega arith) apart))
    where
      apart : (i : ℕ) → i < n - 1 → wrap room (wrap room (h + 1) + i) ≡ h → ⊥
      apart i hi e =
          let first : wrap room (h + 0) ≡ h = ap (wrap room) (omega arith) ∙ wrap-low room h hh in
          wrap-apart room h 0 (suc i) hh (omega arith) (omega arith) (first ∙ sym e ∙ wrap-step room h i hh (omega arith))

  -- a store at the last place
  pub ring-set-back : (s : List A) (x : A) (h n : ℕ) → h < room → 0 < n → n ≤ room → length s ≡ room → ring_list room d (set s (wrap room (h + (n - 1))) x) h n ≡ set_back (ring_list room d s h n) x
  ring-set-back s x h zero hh hn hc len = absurd (omega arith)
  ring-set-back s x h (suc n) hh hn hc len =
      let e : suc n - 1 ≡ n = omega arith in
      rw (e, ring-push s x h n hh (omega arith) len, ring-snoc s h n hh (omega arith), set-back-snoc (ring_list room d s h n) _ x)
