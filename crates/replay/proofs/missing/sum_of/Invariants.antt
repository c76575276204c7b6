-- What is summed so far and what is left make the whole figure, and one gap goes each turn.
use Prim.Native.Nat.{ℕ, ◌+◌, ◌≤◌}
use mathlib.Core.Path.{◌≡◌}
use lib.ListN.{length}
use Rattle.types.specs.Base.{all_ones}
use Rattle.rings.specs.View.{RingWf, list_of}
use Rattle.rings.specs.declared.ring.Ring.{Ring}
use Rattle.replay.specs.Missing.{gap_lengths, at_most}
use Rattle.replay.proofs.missing.sum_of.Given as goal

pub record Left {room : ℕ} (ring left : Ring room) (sum : ℕ) : Type 0 where
  pub order : RingWf left
  pub fits : sum ≤ all_ones
  pub same : at_most (sum + gap_lengths (list_of left)) ≡ at_most (gap_lengths (list_of ring))

abbrev pub invariant-loop-gap : goal.invariant-loop-gap
invariant-loop-gap l = Left l.initial.left l.left l.sum

abbrev pub decreases-loop-gap : goal.decreases-loop-gap
decreases-loop-gap l = length (list_of l.left)
