-- Laws of the missing figure: a sum taken one gap at a time.
use Rattle.std.specs.Prelude.{Some, None}
use Prim.Native.Nat.{ℕ, ◌+◌, ◌-◌, ◌<◌, ◌≤◌, min}
use mathlib.Core.Path.{◌≡◌, ap, sym, ◌∙◌}
use mathlib.Core.List.{List}
use native.Mathlib.Omega.{arith}
use native.Mathlib.Decide.{dec_lt}
use borrow.Author.Tests.{le-leb, lt-leb}
use Rattle.types.specs.Base.{all_ones}
use Rattle.rules.specs.Names.{Gap}
use Rattle.rules.specs.Lists.{rest, front_of}
use Rattle.rings.proofs.GapLaws.{front-some, front-none}
use Rattle.replay.specs.Missing.{gap_lengths, at_most}

pub at-most-low : (n : ℕ) → n ≤ all_ones → at_most n ≡ n
unfolding at_most
at-most-low n h = rw (le-leb n all_ones h)

pub at-most-high : (n : ℕ) → all_ones < n → at_most n ≡ all_ones
unfolding at_most
at-most-high n h = rw (lt-leb n all_ones h)

pub at-most-fits : (n : ℕ) → at_most n ≤ all_ones
at-most-fits n = go (dec_lt all_ones n)
  where
    go : Dec (all_ones < n) → at_most n ≤ all_ones
    go (yes h) = rw (at-most-high n h) (omega arith)
    go (no h) = let k : n ≤ all_ones = omega arith in rw (at-most-low n k) k

-- cut first or last
-- as the library's sum that does not pass it
pub at-most-min : (n : ℕ) → min n all_ones ≡ at_most n
at-most-min n = go (dec_lt all_ones n)
  where
    go : Dec (all_ones < n) → min n all_ones ≡ at_most n
    go (yes h) = omega arith ∙ sym (at-most-high n h)
    go (no h) = omega arith ∙ sym (at-most-low n (omega arith))

pub at-most-then : (a b : ℕ) → at_most (at_most a + b) ≡ at_most (a + b)
at-most-then a b = go (dec_lt all_ones a)
  where
    over : (n : ℕ) → all_ones ≤ n → at_most n ≡ all_ones
    over n h = low (dec_lt all_ones n)
      where
        low : Dec (all_ones < n) → at_most n ≡ all_ones
        low (yes k) = at-most-high n k
        low (no k) = at-most-low n (omega arith) ∙ omega arith

    go : Dec (all_ones < a) → at_most (at_most a + b) ≡ at_most (a + b)
    go (yes h) = rw (at-most-high a h) (over (all_ones + b) (omega arith) ∙ sym (at-most-high (a + b) (omega arith)))
    go (no h) = rw (at-most-low a (omega arith))

pub lengths-front : (l : List Gap) (g : Gap) → front_of l ≡ Some g → gap_lengths l ≡ (g.end.0 - g.from.0) + gap_lengths (rest l)
lengths-front l g e = ap gap_lengths (front-some l g e)

pub lengths_none : (l : List Gap) → front_of l ≡ None → gap_lengths l ≡ 0
lengths_none l e = ap gap_lengths (front-none l e)
