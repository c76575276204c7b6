-- The rejection is told, its whole count consumed, and what is left asked for.
use native.Mathlib.Omega.{arith}
use mathlib.Core.Path.{ap, sym}
use Rattle.rules.specs.State.{Sess}
use Rattle.rules.specs.Asking.{recovered}
use Rattle.session.proofs.Laws.{queued-length, said}
use Rattle.session.proofs.Session.abandon.Goals as goal

pub recovered-requires : goal.recovered-requires
recovered-requires c = record { session = c.consume_missing-left.ensures.wf; queue = c.event_quoting-told.ensures.wf; room = omega (arith, queued-length _ _ _ c.event_quoting-told.ensures.is, c.requires.room) }

pub returns : goal.returns
returns c =
    let e = sym c.consume_missing-left.ensures.is in
    said _ _ _ _ _ c.event_quoting-told.ensures.is (rw (ap (λ (m : Sess). recovered c.args.now c.args.stamp m c.args.binding) e) c.recovered.ensures)
