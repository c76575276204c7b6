-- Laws of lists of gaps at their ends, of the two rings as such lists, and what a sound record is.
use Rattle.std.specs.Prelude.{Some, None}
use Prim.Native.Nat.{ℕ, ◌<◌, ◌≤◌}
use mathlib.Core.Path.{◌≡◌, refl}
use mathlib.Core.List.{List, [], ◌∷◌, ◌++◌}
use mathlib.Core.Bool.{Bool, true, false, ◌&&◌}
use native.Mathlib.Omega.{arith}
use borrow.Author.Tests.{le-leb, lt-leb, ne_eqb, ltb-true, leb-true}
use lib.ListN.{length}
use lib.Dec.{ltb, leb, eqb}
use Rattle.rules.specs.Names.{Gap}
use Rattle.rules.specs.Lists.{rest, is_nil, front_of, back_of, drop_below}
use Rattle.rules.specs.Gaps.{runs_with}
use Rattle.rings.specs.View.{list_of, no_gap, RingWf, GapsWf, sound_ring, sound_gaps}
use Rattle.rings.specs.declared.ring.Ring.{Ring}
use Rattle.rings.specs.declared.gaps.Gaps.{Gaps}
use Rattle.rings.proofs.Laws.{length-ring}

-- ---- the front
pub front-some : (l : List Gap) (g : Gap) → front_of l ≡ Some g → l ≡ g ∷ rest l
front-some [] g e = absurd (let z : ◌≡◌ {A = ℕ} 0 1 = cc in omega arith)
front-some (x ∷ l) g e = let z : x ≡ g = cc in rw z

pub front-none : (l : List Gap) → front_of l ≡ None → l ≡ []
front-none [] e = refl
front-none (x ∷ l) e = absurd (let z : ◌≡◌ {A = ℕ} 0 1 = cc in omega arith)

pub front_long : (l : List Gap) (g : Gap) → front_of l ≡ Some g → 0 < length l
front_long l g e = rw (front-some l g e) (omega arith)

pub rest-less : (l : List Gap) (g : Gap) → front_of l ≡ Some g → length (rest l) < length l
rest-less l g e = rw (front-some l g e) (omega arith)

-- ---- the back
pub back-snoc : (l : List Gap) (g : Gap) → back_of (l ++ (g ∷ [])) ≡ Some g
back-snoc [] g = refl
back-snoc (x ∷ []) g = refl
back-snoc (x ∷ y ∷ l) g = back-snoc (y ∷ l) g

pub back_long : (l : List Gap) (g : Gap) → back_of l ≡ Some g → 0 < length l
back_long [] g e = absurd (let z : ◌≡◌ {A = ℕ} 0 1 = cc in omega arith)
back_long (x ∷ l) g e = omega arith

pub back_none : (l : List Gap) → back_of l ≡ None → length l ≡ 0
back_none [] e = refl
back_none (x ∷ []) e = absurd (let z : ◌≡◌ {A = ℕ} 0 1 = cc in omega arith)
back_none (x ∷ y ∷ l) e = absurd (omega (arith, back_none (y ∷ l) e))

-- ---- runs that go from the front
pub drop-none : (n : ℕ) (l : List Gap) → front_of l ≡ None → l ≡ drop_below n l
drop-none n l e = rw (front-none l e)

pub drop-stop : (n : ℕ) (l : List Gap) (g : Gap) → front_of l ≡ Some g → n < g.end.0 → l ≡ drop_below n l
drop-stop n l g e h = rw (front-some l g e, lt-leb g.end.0 n h)

pub drop-go : (n : ℕ) (l : List Gap) (g : Gap) → front_of l ≡ Some g → g.end.0 ≤ n → drop_below n (rest l) ≡ drop_below n l
drop-go n l g e h = rw (front-some l g e, le-leb g.end.0 n h)

-- ---- a list of some or of none
pub nil-eqb : {A : Type 0} (l : List A) → eqb (length l) 0 ≡ is_nil l
nil-eqb [] = refl
nil-eqb (x ∷ l) = ne_eqb (length (x ∷ l)) 0 (λ e. omega arith)

pub runs-with : (l runs : List Gap) → (length l ≡ 0 → ⊥) → runs_with l runs ≡ runs
runs-with [] runs h = absurd (h refl)
runs-with (g ∷ l) runs h = refl

-- ---- the rings
pub ring_length : {room : ℕ} (r : Ring room) → length (list_of r) ≡ r.count
unfolding list_of
ring_length {room = room} r = length-ring room no_gap r.slots r.head r.count

-- ---- a sound record is well formed
pub and_left : (a b : Bool) → a && b ≡ true → a ≡ true
and_left true b e = refl
and_left false b e = cc

pub and_right : (a b : Bool) → a && b ≡ true → b ≡ true
and_right true b e = e
and_right false b e = cc

pub sound-ring : {room : ℕ} (r : Ring room) → sound_ring r ≡ true → RingWf r
sound-ring {room = room} r e =
    record {
      head_in = ltb-true _ _ (and_left (ltb r.head room) (leb r.count room) e);
      count_in = leb-true _ _ (and_right (ltb r.head room) (leb r.count room) e);
    }

pub sound-wf : (g : Gaps) → sound_gaps g ≡ true → GapsWf g
unfolding sound_gaps
sound-wf g e =
    record {
      missing = sound-ring g.missing (and_left (sound_ring g.missing) (sound_ring g.overflow_received) e);
      overflow_received = sound-ring g.overflow_received (and_right (sound_ring g.missing) (sound_ring g.overflow_received) e);
    }
