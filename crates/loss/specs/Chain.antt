-- Ranges that are not empty, ascend and never touch. What the rules' list operations do to them is in proofs/Chain.
use Rattle.std.specs.Prelude.{◌≡◌, List, [], ◌∷◌, Bool, ℕ, ◌+◌, ◌<◌, ◌≤◌}
use Rattle.rules.specs.Names.{SeqNum, Gap}
use Rattle.rules.specs.Lists.{front_of, set_back, drop_below}
use Rattle.rules.specs.State.{Lists}
use Rattle.rules.specs.Gaps.{gap_of, starts_by}
use Rattle.loss.specs.Count.{hit, hits}

-- each begins at lo or later, and one past its end is at most hi
unfoldable pub Chain : ℕ → ℕ → List Gap → Type 0
Chain lo hi [] = lo ≤ hi
Chain lo hi (g ∷ gs) = (lo ≤ g.from.0) × (g.from.0 < g.end.0) × Chain (g.end.0 + 1) hi gs

-- the first number that a gap holds, or e if there is none
abbrev pub front_or : ℕ → List Gap → ℕ
front_or e [] = e
front_or e (g ∷ gs) = g.from.0

-- the last of g and gs
abbrev pub last_of : Gap → List Gap → Gap
last_of g [] = g
last_of g (h ∷ gs) = last_of h gs

-- where the last range ends, or 0
unfoldable pub last_end : List Gap → ℕ
last_end [] = 0
last_end (g ∷ gs) = (last_of g gs).end.0

-- the last range reaches to e
abbrev pub reaching : SeqNum → Gap → List Gap → List Gap
reaching e g gs = set_back (g ∷ gs) (gap_of (last_of g gs).from e)

-- whether the first run that is left begins by m tells whether m is in a run
abbrev pub in_run : ℕ → List Gap → Bool
in_run m gs = starts_by (front_of (drop_below m gs)) m

-- ---- the first k numbers of the first gap go
-- with the last gap all runs go; then no gap holds n either
pub data Cleared (r' r g' : ℕ) : Type 0 where
  kept : r' ≡ r → Cleared r' r g'
  gone : (r' ≡ 0) × (g' ≡ 0) → Cleared r' r g'

pub record Eaten (lo hi e f k : ℕ) (ms rs : List Gap) (l : Lists) : Type 0 where
  pub chain : Chain lo hi l.missing
  pub front : f + k ≤ front_or e l.missing
  pub count : (n : ℕ) → hits n ms ≡ hit n f (f + k) + hits n l.missing
  pub runs : Chain 0 (last_end ms) rs → Chain 0 (last_end l.missing) l.overflow_received
  pub clears : (n : ℕ) → Cleared (hits n l.overflow_received) (hits n rs) (hits n l.missing)
