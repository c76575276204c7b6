-- The gap is told, then by the flow.
use native.Mathlib.Omega.{arith}
use mathlib.Core.Path.{ap, refl}
use Rattle.rules.specs.Names.{FlowType}
use Rattle.rules.specs.Numbering.{gap_on, on_gap}
use Rattle.session.specs.View.{view}
use Rattle.session.proofs.Laws.{queued-length, said, by_either}
use Rattle.session.proofs.Session.on_gap.Goals as goal

pub record_gap-requires : goal.record_gap-requires
record_gap-requires c = record { session = c.requires.ready.session; queue = c.event-told.ensures.wf; room = omega (arith, queued-length _ _ _ c.event-told.ensures.is, c.requires.ready.room) }

pub report_gap-requires-clause-ready : goal.report_gap-requires-clause-ready
report_gap-requires-clause-ready c = record { session = c.requires.ready.session; queue = c.event-told.ensures.wf; room = omega (arith, queued-length _ _ _ c.event-told.ensures.is, c.requires.ready.room) }

pub report_gap-requires-clause-from_le_next : goal.report_gap-requires-clause-from_le_next
report_gap-requires-clause-from_le_next c = c.requires.expected_le_next

pub returns-in-Recoverable : goal.returns-in-Recoverable
unfolding on_gap
returns-in-Recoverable c = rw (ap (λ (v : FlowType). gap_on v c.args.now c.args.stamp c.args.expected c.args.next (view c.args.self) c.args.binding) c.in-Recoverable.is) (said _ _ _ _ _ c.event-told.ensures.is c.record_gap.ensures)

pub returns-in-Idempotent : goal.returns-in-Idempotent
unfolding on_gap
returns-in-Idempotent c = rw (ap (λ (v : FlowType). gap_on v c.args.now c.args.stamp c.args.expected c.args.next (view c.args.self) c.args.binding) c.in-Idempotent.is) (said _ _ _ _ _ c.event-told.ensures.is c.report_gap.ensures)

pub returns-in-Unsequenced : goal.returns-in-Unsequenced
unfolding on_gap
returns-in-Unsequenced c = rw (by_either (λ (v : FlowType). gap_on v c.args.now c.args.stamp c.args.expected c.args.next (view c.args.self) c.args.binding) _ _ _ refl c.in-Unsequenced.is) (said _ _ _ _ _ c.event-told.ensures.is c.skip_gap.ensures)
