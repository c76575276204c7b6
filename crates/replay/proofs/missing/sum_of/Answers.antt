-- What is summed so far and what is left make the whole figure, and one gap goes each turn.
use Prim.Native.Nat.{ℕ, ◌+◌, ◌-◌, min}
use Rattle.types.specs.Base.{all_ones}
use native.Mathlib.Omega.{arith}
use mathlib.Core.Path.{◌≡◌, ap, sym, ◌∙◌}
use Rattle.rules.specs.Lists.{rest}
use Rattle.rings.specs.View.{list_of}
use Rattle.rings.proofs.GapLaws.{rest-less}
use Rattle.replay.specs.Missing.{gap_lengths, at_most}
use Rattle.replay.proofs.Laws.{at-most-low, at-most-min, at-most-then, at-most-fits, lengths-front, lengths_none}
use Rattle.replay.proofs.missing.sum_of.Goals as goal

pub loop-gap-init : goal.loop-gap-init
loop-gap-init c = record { order = c.requires; fits = omega arith; same = ap at_most (omega arith) }

pub loop-gap-smaller : goal.loop-gap-smaller
loop-gap-smaller c = rw c.pop_front.ensures.is (rest-less (list_of c.loop-gap.left) c.in-Some.gap (sym c.front.ensures ∙ c.in-Some.is))

pub loop-gap-preserved : goal.loop-gap-preserved
loop-gap-preserved c =
    let r = rest (list_of c.loop-gap.left) in
    let long = c.in-Some.gap.end.0 - c.in-Some.gap.from.0 in
    let n = lengths-front (list_of c.loop-gap.left) c.in-Some.gap (sym c.front.ensures ∙ c.in-Some.is) in
    let a : c.saturating_add-sum.result ≡ at_most (c.loop-gap.sum + long) = c.saturating_add-sum.ensures ∙ ap (λ (k : ℕ). min (c.loop-gap.sum + k) all_ones) c.saturating_sub.ensures ∙ at-most-min (c.loop-gap.sum + long) in
    let s : c.loop-gap.sum + long + gap_lengths r ≡ c.loop-gap.sum + gap_lengths (list_of c.loop-gap.left) = omega (arith, n) in
    record {
      order = c.pop_front.ensures.wf;
      fits = rw a (at-most-fits _);
      same = rw (c.pop_front.ensures.is, a) (at-most-then (c.loop-gap.sum + long) (gap_lengths r) ∙ ap at_most s ∙ c.loop-gap.invariant.same);
    }

pub returns : goal.returns
returns c =
    let z = lengths_none (list_of c.loop-gap.left) (sym c.front.ensures ∙ c.in_default.is) in
    let e : c.loop-gap.sum + gap_lengths (list_of c.loop-gap.left) ≡ c.loop-gap.sum = omega (arith, z) in
    sym (at-most-low c.loop-gap.sum c.loop-gap.invariant.fits) ∙ ap at_most (sym e) ∙ c.loop-gap.invariant.same
