-- Each turn puts the image of one place at its place; after the last the array is the list of images.
use Rattle.std.proofs.Common.{rules, ◌≤◌, ◌≡◌, refl, arith}
use Rattle.rings.proofs.Laws.{long_of}
use Rattle.library.specs.Parts.{gap_out}
use Rattle.library.proofs.Copying.{copied, placed, filled}
use Rattle.library.proofs.lists.MissingFromRingMAX_GAPS.from.Goals as goal

pub loop-i-init : goal.loop-i-init
unfolding copied
loop-i-init c = record { few = search rules; long = search (rules, long_of); room = search rules; is = refl }

pub loop-i-preserved : goal.loop-i-preserved
loop-i-preserved c = placed gap_out c.args.ring.slots _ c.loop-i.m.slots c.loop-i.i 65 _ _ c.loop-i.invariant c.loop-i-test.true c.from.ensures

pub returns : goal.returns
returns c =
    let h : 65 ≤ c.loop-i.i = omega (arith, c.loop-i-test.false) in
    let e : c.loop-i.m.slots ≡ _ = filled gap_out c.args.ring.slots _ c.loop-i.m.slots c.loop-i.i 65 c.loop-i.invariant h in
    λ j. record { slots = e j; head = c.args.ring.head; count = c.args.ring.count }
