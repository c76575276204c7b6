-- What holds of the numbers, over the parts of a session and its history. Each way in which it changes is in proofs/Core.
use Rattle.std.specs.Prelude.{◌≡◌, List, [], ◌∷◌, ℕ, ◌+◌, ◌≤◌, Option, Some, None}
use Rattle.rules.specs.Names.{SeqNum, Gap, Outstanding}
use Rattle.rules.specs.Gaps.{gap_of}
use Rattle.loss.specs.Seen.{Taking}
use Rattle.loss.specs.Count.{hit, hits}
use Rattle.loss.specs.Chain.{Chain, front_or, last_end}

-- the outstanding request: from, count, delivered
pub data Asked : Type 0 where
  idle : Asked
  asking : ℕ → ℕ → ℕ → Asked

abbrev pub asked_of : Option Outstanding → Asked
asked_of None = idle
asked_of (Some o) = asking o.from.0 o.count o.delivered

-- how often n was accepted
unfoldable pub times : ℕ → List Taking → ℕ
times n [] = 0
times n (p ∷ log) = hit n p.took (p.took + 1) + times n log

-- 1 if n is among the delivered of the outstanding request
unfoldable pub delivered : ℕ → Asked → ℕ
delivered n idle = 0
delivered n (asking f c d) = hit n f (f + d)

-- the outstanding request is cut from the front of the first gap
unfoldable pub AtFront : Asked → List Gap → Type 0
AtFront idle ms = Unit {0}
AtFront (asking f c d) [] = ⊥
AtFront (asking f c d) (g ∷ gs) = (f ≡ g.from.0) × (d ≤ c) × (f + c ≤ g.end.0)

unfoldable pub AllBelow : ℕ → List Gap → Type 0
AllBelow b [] = Unit {0}
AllBelow b (g ∷ gs) = (g.end.0 ≤ b) × AllBelow b gs

-- what has become of a number: a times accepted, in x rejections, in g gaps, in r runs, d: delivered, w: between the first and the expected
pub data Each (a x g r d w : ℕ) : Type 0 where
  outside : (w ≡ 0) × (a ≡ 0) × (g ≡ 0) × (r ≡ 0) → Each a x g r d w
  accepted : (w ≡ 1) × (a ≡ 1) × (g ≤ r + d) → Each a x g r d w
  abandoned : (w ≡ 1) × (a ≡ 0) × (1 ≤ x) × (g ≡ 0) × (r ≡ 0) → Each a x g r d w
  pending : (w ≡ 1) × (a ≡ 0) × (x ≡ 0) × (g ≡ 1) × (r ≡ 0) × (d ≡ 0) → Each a x g r d w

-- first and e: the session's first and its expected number; ms, rs: gaps and runs; o: the request; log, rej: accepted, rejected
pub record Core (first e : ℕ) (ms rs : List Gap) (o : Asked) (log : List Taking) (rej : List Gap) : Type 0 where
  pub low : 1 ≤ first
  pub ordered : first ≤ e
  -- gaps are nonempty, ascending, never touch, and end by the expected number
  pub gaps : Chain first (e + 1) ms
  -- runs are nonempty, ascending, never touch, and end before the last gap does; no gaps, no runs
  pub runs : Chain 0 (last_end ms) rs
  pub asked : AtFront o ms
  -- what was rejected lies below the first gap
  pub rejected : AllBelow (front_or e ms) rej
  -- what has become of each number
  pub each : (n : ℕ) → Each (times n log) (hits n rej) (hits n ms) (hits n rs) (delivered n o) (hit n first e)

-- ---- small facts
-- the range that a rejection names
abbrev pub refused_range : SeqNum → ℕ → Gap
refused_range from c = gap_of from (record { 0 = from.0 + c })
