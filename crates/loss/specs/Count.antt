-- Counting instead of sets: how many ranges of a list hold the number n. Every change of a list is then one equation (proofs/Count).
use Rattle.std.specs.Prelude.{◌≡◌, List, [], ◌∷◌, ℕ, ◌+◌, ◌<◌, ◌≤◌, ltb, leb, if◌then◌else◌}
use Rattle.rules.specs.Names.{Gap}

-- 1 if lo ≤ n < hi, else 0
unfoldable pub hit : ℕ → ℕ → ℕ → ℕ
hit n lo hi = if leb lo n then (if ltb n hi then 1 else 0) else 0

-- how many of the ranges hold n
unfoldable pub hits : ℕ → List Gap → ℕ
hits n [] = 0
hits n (g ∷ gs) = hit n g.from.0 g.end.0 + hits n gs

pub data Side (a b : ℕ) : Type 0 where
  less : a < b → Side a b
  more : b ≤ a → Side a b

-- where n stands to a range
pub data Place (n lo hi h : ℕ) : Type 0 where
  below : n < lo → h ≡ 0 → Place n lo hi h
  inside : lo ≤ n → n < hi → h ≡ 1 → Place n lo hi h
  above : hi ≤ n → h ≡ 0 → Place n lo hi h
