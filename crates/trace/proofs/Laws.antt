-- Laws of the little-endian numbers and the bytes at a place of a list, and of where records stand.
use Prim.Native.Nat.{ℕ, zero, suc, ◌+◌, ◌*◌, ◌^◌, ◌<◌, ◌≤◌}
use mathlib.Core.Path.{◌≡◌, refl, ap, ◌∙◌}
use mathlib.Core.Bool.{true}
use mathlib.Core.List.{List, [], ◌∷◌}
use native.Mathlib.Nat.{zero-add, suc-add, add-zero, pow-succ', mul_assoc}
use native.Mathlib.Decide.{dec_lt}
use native.Mathlib.Omega.{arith}
use borrow.Author.Tests.{le-leb, lt-leb, eq-eqb}
use denote.Ref.{Bor}
use lib.ListN.{length, get_or, set, take, drop, length-take, length-drop}
use lib.Seq.{get_or-set_same, get_or-set_other, get_or-take, get_or-drop}
use Rattle.trace.specs.Format.{number_at, bytes_at, u16_at, header, framed}
use Rattle.trace.specs.Places.{size_at, Part, RecordAt}

-- a number is its lower j bytes, and the k above them at their weight
pub number-split : (j k : ℕ) (s : List ℕ) (at : ℕ) → number_at (j + k) s at ≡ number_at j s at + 256 ^ j * number_at k s (at + j)
unfolding number_at
number-split zero k s at = rw (zero-add k, add-zero at) (omega arith)
number-split (suc j) k s at =
    let e = number-split j k s (at + 1) in
    let p : 256 ^ suc j * number_at k s (at + suc j) ≡ 256 * (256 ^ j * number_at k s (at + 1 + j)) =
    rw (pow-succ' 256 j, mul_assoc 256 (256 ^ j)) (ap (λ (n : ℕ). 256 * (256 ^ j * number_at k s n)) (omega arith)) in
    rw (suc-add j k) (omega (arith, e, p))

-- one byte
pub number-one : (s : List ℕ) (at : ℕ) → number_at 1 s at ≡ get_or s at 0
unfolding number_at
number-one s at = omega arith

-- n bytes that agree with those of s from a place on are those
pub bytes-are : (n : ℕ) (s : List ℕ) (at : ℕ) (l : List ℕ) → length l ≡ n → ((k : ℕ) → k < n → get_or l k 0 ≡ get_or s (at + k) 0) → l ≡ bytes_at n s at
unfolding bytes_at
bytes-are zero s at [] e h = refl
bytes-are zero s at (x ∷ l) e h = absurd (omega arith)
bytes-are (suc n) s at [] e h = absurd (omega arith)
bytes-are (suc n) s at (x ∷ l) e h =
    let first : x ≡ get_or s at 0 = rw (add-zero at) at (h 0 (omega arith)) in
    let others : l ≡ bytes_at n s (at + 1) =
    bytes-are n s (at + 1) l (omega arith) (λ k b. h (suc k) (omega arith) ∙ ap (λ (m : ℕ). get_or s m 0) (omega arith)) in
    cc

-- one more byte is filled in
pub filled_more : (s : List ℕ) (at : ℕ) (l : List ℕ) (i v : ℕ) → i < length l → v ≡ get_or s (at + i) 0
    → ((k : ℕ) → k < i → get_or l k 0 ≡ get_or s (at + k) 0) → (k : ℕ) → k < i + 1 → get_or (set l i v) k 0 ≡ get_or s (at + k) 0
filled_more s at l i v h e old k b = go (dec_lt k i)
  where
    go : Dec (k < i) → get_or (set l i v) k 0 ≡ get_or s (at + k) 0
    go (yes a) = get_or-set_other l i k v 0 (λ z. omega arith) ∙ old k a
    go (no a) = let z : k ≡ i = omega arith in rw (z, get_or-set_same l i v 0 h) e

-- ---- where records stand
pub size-short : (s : List ℕ) (at : ℕ) → u16_at s at < header → size_at s at ≡ 0
unfolding size_at
size-short s at h = rw (lt-leb header (u16_at s at) h)

pub size-past : (s : List ℕ) (at : ℕ) → header ≤ u16_at s at → length s < at + u16_at s at → size_at s at ≡ 0
unfolding size_at
size-past s at h p = rw (le-leb header (u16_at s at) h, lt-leb (at + u16_at s at) (length s) p)

pub size-whole : (s : List ℕ) (at : ℕ) → header ≤ u16_at s at → at + u16_at s at ≤ length s → size_at s at ≡ u16_at s at
unfolding size_at
size-whole s at h p = rw (le-leb header (u16_at s at) h, le-leb (at + u16_at s at) (length s) p)

-- a record stands inside, and moves the place on by a header at least
pub size-inside : (s : List ℕ) (at : ℕ) → at ≤ length s → (at + size_at s at ≤ length s) × (0 < size_at s at → header ≤ size_at s at)
size-inside s at b = go (dec_lt (u16_at s at) header) (dec_lt (length s) (at + u16_at s at))
  where
    go : Dec (u16_at s at < header) → Dec (length s < at + u16_at s at) → (at + size_at s at ≤ length s) × (0 < size_at s at → header ≤ size_at s at)
    go (yes h) d = let e = size-short s at h in (omega arith, λ m. omega arith)
    go (no h) (yes p) = let e = size-past s at (omega arith) p in (omega arith, λ m. omega arith)
    go (no h) (no p) = let e = size-whole s at (omega arith) (omega arith) in (omega arith, λ m. omega arith)

-- what is known of a part that is a record
pub record_of : (s : Bor (List ℕ)) (at n : ℕ) (r : Bor (List ℕ)) → at ≤ length s.now → n ≡ size_at s.now at → Part s at n r → RecordAt s at r
record_of s at n r b e p =
    let i = size-inside s.now at b in
    let long : length r.now ≡ n = ap length p.bytes ∙ simp (length-take, length-drop) (omega arith) in
    record { part = rw (e) at p; size = long ∙ e; inside = omega (arith, i.0); moves = λ m. omega (arith, i.1 (omega arith)) }

-- a number inside a part is the whole's
pub number-part : (k i n : ℕ) (s : List ℕ) (at : ℕ) → i + k ≤ n → number_at k (take n (drop at s)) i ≡ number_at k s (at + i)
unfolding number_at
number-part zero i n s at h = refl
number-part (suc k) i n s at h =
    let first : get_or (take n (drop at s)) i 0 ≡ get_or s (at + i) 0 = get_or-take n (drop at s) i 0 (omega arith) ∙ get_or-drop at s i 0 in
    let above : number_at k (take n (drop at s)) (i + 1) ≡ number_at k s (at + i + 1) =
    number-part k (i + 1) n s at (omega arith) ∙ ap (λ (m : ℕ). number_at k s m) (omega arith) in
    rw (first, above)

-- a record that is there is as long as it says: only its kind, its length and its codes can make it malformed
pub record-framed : (s : List ℕ) (at : ℕ) → at ≤ length s → 0 < size_at s at → framed (take (size_at s at) (drop at s)) ≡ true
unfolding framed
record-framed s at b z = go (dec_lt (u16_at s at) header) (dec_lt (length s) (at + u16_at s at))
  where
    go : Dec (u16_at s at < header) → Dec (length s < at + u16_at s at) → framed (take (size_at s at) (drop at s)) ≡ true
    go (yes h) d = absurd (omega (arith, size-short s at h))
    go (no h) (yes p) = absurd (omega (arith, size-past s at (omega arith) p))
    go (no h) (no p) =
        let n = u16_at s at in
        let long : length (take n (drop at s)) ≡ n = simp (length-take, length-drop) (omega arith) in
        let said : u16_at (take n (drop at s)) 0 ≡ n = number-part 2 0 n s at (omega arith) ∙ ap (u16_at s) (add-zero at) in
        rw (size-whole s at (omega arith) (omega arith), long, said, le-leb header n (omega arith), eq-eqb n n refl)
