-- 01, "The last line's missing figure is the sum of the gap lengths."
use Rattle.std.specs.Prelude.{ℕ, ◌+◌, ◌-◌, List, [], ◌∷◌, leb, if◌then◌else◌}
use Rattle.types.specs.Base.{all_ones}
use Rattle.rules.specs.Names.{Gap}

abbrev pub gap_lengths : List Gap → ℕ
gap_lengths [] = 0
gap_lengths (g ∷ l) = (g.end.0 - g.from.0) + gap_lengths l

-- the largest number where the sum passes it, which gaps that do not overlap never do
unfoldable pub at_most : ℕ → ℕ
at_most n = if leb n all_ones then n else all_ones

abbrev pub missing_figure : List Gap → ℕ
missing_figure l = at_most (gap_lengths l)
