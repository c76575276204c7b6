-- Copying a list place by place: what is copied so far stands before what was there.
use Prim.Native.Nat.{ℕ, zero, suc, ◌+◌, ◌<◌, ◌≤◌}
use mathlib.Core.Path.{◌≡◌, refl, ap, sym, ◌∙◌}
use mathlib.Core.List.{List, [], ◌∷◌, map}
use native.Mathlib.Omega.{arith}
use native.Mathlib.Numerals.{add-one}
use lib.ListN.{length, length-map, get_or, set}

-- the first i of l, then what old had
unfoldable pub copied : {A : Type 0} → ℕ → List A → List A → List A
copied zero l old = old
copied (suc i) [] old = []
copied (suc i) (x ∷ l) [] = []
copied (suc i) (x ∷ l) (y ∷ old) = x ∷ copied i l old

-- one place more
pub copied_next : {A : Type 0} (i : ℕ) (l old : List A) (d : A) → i < length l → length old ≡ length l → set (copied i l old) i (get_or l i d) ≡ copied (suc i) l old
unfolding copied
copied_next i [] old d h e = absurd (omega arith)
copied_next i (x ∷ l) [] d h e = absurd (omega arith)
copied_next zero (x ∷ l) (y ∷ old) d h e = refl
copied_next (suc i) (x ∷ l) (y ∷ old) d h e = ap (λ (r : List _). x ∷ r) (copied_next i l old d (omega arith) (omega arith))

-- every place
pub copied_all : {A : Type 0} (l old : List A) → length old ≡ length l → copied (length l) l old ≡ l
unfolding copied
copied_all [] [] e = refl
copied_all [] (y ∷ old) e = absurd (omega arith)
copied_all (x ∷ l) [] e = absurd (omega arith)
copied_all (x ∷ l) (y ∷ old) e = ap (λ (r : List _). x ∷ r) (copied_all l old (omega arith))

-- as long as before
pub length-copied : {A : Type 0} (i : ℕ) (l old : List A) → length old ≡ length l → length (copied i l old) ≡ length l
unfolding copied
length-copied zero l old e = e
length-copied (suc i) [] old e = refl
length-copied (suc i) (x ∷ l) [] e = e
length-copied (suc i) (x ∷ l) (y ∷ old) e = ap suc (length-copied i l old (omega arith))

-- the place of a list of images
pub get_d_map : {A B : Type 0} (f : A → B) (l : List A) (i : ℕ) (d : A) → get_or (map f l) i (f d) ≡ f (get_or l i d)
get_d_map f [] i d = refl
get_d_map f (x ∷ l) zero d = refl
get_d_map f (x ∷ l) (suc i) d = get_d_map f l i d

-- ---- a loop that fills an array of n places with the images of another's
pub record Upto {A B : Type 0} (f : A → B) (s : List A) (old now : List B) (i n : ℕ) : Type 0 where
  pub few : i ≤ n
  pub long : length s ≡ n
  pub room : length old ≡ n
  pub is : now ≡ copied i (map f s) old

pub placed : {A B : Type 0} (f : A → B) (s : List A) (old now : List B) (i n : ℕ) (d : A) (g : B) → Upto f s old now i n → i < n → g ≡ f (get_or s i d) → Upto f s old (set now i g) (i + 1) n
placed f s old now i n d g u h e =
    let m : length (map f s) ≡ n = length-map s f ∙ u.long in
    record {
      few = omega arith;
      long = u.long;
      room = u.room;
      is = rw (add-one i, u.is, e, ← get_d_map f s i d) (copied_next i (map f s) old (f d) (rw m h) (u.room ∙ sym m));
    }

pub filled : {A B : Type 0} (f : A → B) (s : List A) (old now : List B) (i n : ℕ) → Upto f s old now i n → n ≤ i → now ≡ map f s
filled f s old now i n u h =
    let m : length (map f s) ≡ n = length-map s f ∙ u.long in
    let e : i ≡ length (map f s) = omega arith in
    u.is ∙ (rw e (copied_all (map f s) old (u.room ∙ sym m)))
