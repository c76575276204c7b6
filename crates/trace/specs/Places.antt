-- Where the records of a trace stand: each as a part of it.
use Rattle.std.specs.Prelude.{ℕ, ◌+◌, ◌<◌, ◌≤◌, ◌≡◌, ◌&&◌, List, length, take, drop, leb, if◌then◌else◌, Option, Some, None}
use Rattle.std.specs.Borrow.{Bor}
use Rattle.trace.specs.Format.{u16_at, header}

-- how many bytes the record at a place has: none where what its first two bytes say is under a header or past the end
unfoldable pub size_at : List ℕ → ℕ → ℕ
size_at s at = if leb header (u16_at s at) && leb (at + u16_at s at) (length s) then u16_at s at else 0

-- r is the part of s of n bytes from a place on: it points into it there, and holds those bytes
pub record Part (s : Bor (List ℕ)) (at n : ℕ) (r : Bor (List ℕ)) : Type 0 where
  pub block : r.ref_ptr.0 ≡ s.ref_ptr.0
  pub place : r.ref_ptr.1 ≡ s.ref_ptr.1 + at
  pub bytes : r.now ≡ take n (drop at s.now)

-- r is the record of s at a place, and the place after it is further on by a header at least
pub record RecordAt (s : Bor (List ℕ)) (at : ℕ) (r : Bor (List ℕ)) : Type 0 where
  pub part : Part s at (size_at s.now at) r
  pub size : length r.now ≡ size_at s.now at
  pub inside : at + length r.now ≤ length s.now
  pub moves : 0 < length r.now → header ≤ length r.now

-- the next record of s where a place is, and the place behind it; none at the end
abbrev pub Next : Bor (List ℕ) → ℕ → Option (Bor (List ℕ)) → ℕ → Type 0
Next s at None after = (length s.now ≤ at) × (after ≡ at)
Next s at (Some r) after = (at < length s.now) × RecordAt s at r × (after ≡ at + length r.now)
