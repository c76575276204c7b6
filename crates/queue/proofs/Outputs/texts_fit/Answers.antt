-- What is left to look at has the answer of the whole; each turn looks at its first.
use borrow.Author.Rules.{rules}
use native.Mathlib.Omega.{arith}
use Prim.Native.Nat.{◌+◌, ◌-◌, ◌<◌}
use mathlib.Core.Path.{◌≡◌, sym, ap, ◌∙◌}
use lib.ListN.{length, get_or}
use Rattle.rings.specs.Ring.{ring_list, wrap}
use Rattle.rings.proofs.Laws.{ring-none, long_of, wrap-low, wrap-next}
use Rattle.types.specs.Reasons.{reason_fits}
use Rattle.rules.specs.Names.{Output}
use Rattle.rules.specs.Outputs.{close_transport}
use Rattle.rules.specs.Calls.{max_outs, texts_fit}
use Rattle.queue.specs.View.{outs_of}
use Rattle.queue.proofs.Laws.{texts-first, get_d_any}
use Rattle.queue.proofs.Outputs.texts_fit.Goals as goal

pub loop-k-init : goal.loop-k-init
unfolding outs_of
loop-k-init c =
    let q = c.args.self in
    let start : q.head + 0 ≡ q.head = omega arith in
    let all : q.count - 0 ≡ q.count = omega arith in
    record { turn = omega arith; same = rw (start, all, wrap-low max_outs q.head (search rules)) }

pub returns-then-not-fits : goal.returns-then-not-fits
returns-then-not-fits c =
    let q = c.args.self in
    let k = c.loop-k.k in
    let len : length q.slots ≡ max_outs = search (rules, long_of) in
    let in_slots : c.place.result < length q.slots = rw len c.place.ensures.low in
    let first : reason_fits (get_or q.slots (wrap max_outs (q.head + k)) close_transport).text ≡ c.fits.result = rw (← c.place.ensures.is) (ap (λ (o : Output). reason_fits o.text) (get_d_any q.slots c.place.result close_transport _ in_slots) ∙ sym c.fits.ensures) in
    rw (← c.loop-k.invariant.same, texts-first q.slots (wrap max_outs (q.head + k)) (q.count - k) (omega arith), first, c.if-not-fits.true)

pub loop-k-preserved : goal.loop-k-preserved
loop-k-preserved c =
    let q = c.args.self in
    let k = c.loop-k.k in
    let len : length q.slots ≡ max_outs = search (rules, long_of) in
    let in_slots : c.place.result < length q.slots = rw len c.place.ensures.low in
    let first : reason_fits (get_or q.slots (wrap max_outs (q.head + k)) close_transport).text ≡ c.fits.result = rw (← c.place.ensures.is) (ap (λ (o : Output). reason_fits o.text) (get_d_any q.slots c.place.result close_transport _ in_slots) ∙ sym c.fits.ensures) in
    let left : q.count - k - 1 ≡ q.count - (k + 1) = omega arith in
    record {
      turn = omega arith;
      same =
          rw (← c.loop-k.invariant.same, texts-first q.slots (wrap max_outs (q.head + k)) (q.count - k) (omega arith), first, c.if-not-fits.false)
          (rw (wrap-next max_outs q.head k (search rules) (omega arith), left));
    }

pub returns : goal.returns
unfolding ring_list
returns c =
    let q = c.args.self in
    let none : q.count - c.loop-k.k ≡ 0 = omega (arith, c.loop-k.invariant.turn) in
    sym (ap texts_fit (ring-none max_outs close_transport q.slots (wrap max_outs (q.head + c.loop-k.k)) (q.count - c.loop-k.k) none)) ∙ c.loop-k.invariant.same
