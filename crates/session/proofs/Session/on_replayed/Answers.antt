-- Past the largest number it is a violation; else the batch moves on and the message is counted.
use borrow.Author.Tests.{eq-eqb, ne_eqb}
use mathlib.Core.Path.{ap, sym, ◌∙◌}
use lib.Dec.{leb}
use Rattle.rules.specs.State.{Sess}
use Rattle.rules.specs.Numbering.{Counted, count_delivered, replayed_counted, on_replayed}
use Rattle.session.proofs.Session.on_replayed.Goals as goal

pub returns-then-seq : goal.returns-then-seq
unfolding on_replayed
returns-then-seq c = rw (eq-eqb _ _ c.if-seq.true) c.discard_violation.ensures

pub returns : goal.returns
unfolding on_replayed
returns c =
    let e = ap (λ (m : Sess). count_delivered c.args.now (leb c.args.replay.remaining 1) m) (sym c.advance_replay-advanced.ensures.is) ∙ sym c.count_delivered-counted.ensures.is in
    rw (ne_eqb _ _ c.if-seq.false, ap (λ (k : Counted). replayed_counted c.args.now c.args.stamp c.args.replay.next k c.args.binding) e) c.deliver_replayed.ensures
