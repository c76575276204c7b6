-- The refusals in their order; then the header of the batch goes out.
use Rattle.std.specs.Prelude.{Option}
use borrow.Author.Tests.{le-leb, lt-leb}
use native.Mathlib.Omega.{arith}
use Prim.Native.Nat.{◌≤◌, ◌<◌, ◌+◌}
use mathlib.Core.Path.{ap}
use Rattle.types.specs.Base.{all_ones}
use Rattle.rules.specs.Names.{Provider}
use Rattle.rules.specs.Local.{batch_refused, retransmit_refused, batch_at, retransmit}
use Rattle.session.specs.View.{view}
use Rattle.session.proofs.Laws.{is_false, is_true}
use Rattle.session.proofs.Session.retransmit.Goals as goal

pub returns-then-not-is_established : goal.returns-then-not-is_established
unfolding retransmit_refused
returns-then-not-is_established c = rw (is_false c.is_established.ensures c.if-not-is_established.true) c.refuse_state.ensures

pub returns-in_default : goal.returns-in_default
unfolding retransmit_refused
returns-in_default c = rw (is_true c.is_established.ensures c.if-not-is_established.false, ap (λ (v : Option Provider). batch_refused v c.args.count) c.in_default.is) c.refuse.ensures

pub returns-then-provider : goal.returns-then-provider
unfolding retransmit_refused
returns-then-provider c = rw (is_true c.is_established.ensures c.if-not-is_established.false, ap (λ (v : Option Provider). batch_refused v c.args.count) c.in-Some.is, lt-leb _ _ c.if-provider.true) c.refuse-then-provider.ensures

pub returns-then-remaining-count : goal.returns-then-remaining-count
unfolding retransmit_refused
returns-then-remaining-count c = rw (is_true c.is_established.ensures c.if-not-is_established.false, ap (λ (v : Option Provider). batch_refused v c.args.count) c.in-Some.is, le-leb _ _ c.if-provider.false, lt-leb _ _ c.if-remaining-count.true) c.refuse-then-remaining-count.ensures

pub returns-then-provider-2 : goal.returns-then-provider-2
unfolding retransmit_refused
returns-then-provider-2 c =
    let k : all_ones < c.in-Some.provider.from.0 + c.in-Some.provider.sent = omega (arith, c.if-provider-2.true) in
    rw (is_true c.is_established.ensures c.if-not-is_established.false, ap (λ (v : Option Provider). batch_refused v c.args.count) c.in-Some.is, le-leb _ _ c.if-provider.false, le-leb _ _ c.if-remaining-count.false, lt-leb _ _ k) c.refuse-then-provider-2.ensures

pub batch-requires-clause-ready : goal.batch-requires-clause-ready
batch-requires-clause-ready c = record { session = c.requires.session; queue = c.requires.queue; room = c.requires.room }

pub batch-requires-clause-count_bound : goal.batch-requires-clause-count_bound
batch-requires-clause-count_bound c = omega (arith, c.if-provider.false, c.if-remaining-count.false)

pub batch-requires-clause-sent_bound : goal.batch-requires-clause-sent_bound
batch-requires-clause-sent_bound c = omega (arith, c.if-provider-2.false)

pub returns : goal.returns
unfolding retransmit_refused retransmit
returns c =
    let k : c.in-Some.provider.from.0 + c.in-Some.provider.sent ≤ all_ones = omega (arith, c.if-provider-2.false) in
    rw (is_true c.is_established.ensures c.if-not-is_established.false, ap (λ (v : Option Provider). batch_refused v c.args.count) c.in-Some.is, le-leb _ _ c.if-provider.false, le-leb _ _ c.if-remaining-count.false, le-leb _ _ k, ap (λ (v : Option Provider). batch_at v c.args.now c.args.count (view c.args.self) c.args.binding) c.in-Some.is) c.batch.ensures
