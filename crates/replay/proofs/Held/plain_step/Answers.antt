-- The call that dispatch makes is the record's own, and its outputs are counted before they go.
use Prim.Native.Nat.{ℕ}
use mathlib.Core.Path.{sym, subst}
use Rattle.calls.specs.View.{world_of}
use Rattle.calls.specs.declared.Called.{Called}
use Rattle.replay.specs.Stepped.{Stepped}
use Rattle.replay.proofs.Runs.{plain-steps, drained}
use Rattle.replay.proofs.Held.plain_step.Goals as goal

pub returns : goal.returns
returns c =
    let h = c.args.self.now in
    let r = c.run-handed.result in
    let d : Called = record { session = r.session; link = r.link; queue = c.run-handed.new.queue; answer = r.answer } in
    subst (λ (n : ℕ). Stepped c.args.«record» (world_of h.session h.link h.queue) d.session d.link (drained d.queue) d.answer n) (sym c.len-outputs.ensures)
    (plain-steps c.args.«record» h.session h.link h.queue d c.requires.session_in_order c.requires.queue_in_order c.run-handed.ensures)
