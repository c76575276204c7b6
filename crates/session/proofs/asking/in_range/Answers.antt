-- The three tests of the rule; the number is compared by a difference, since a sum might not fit.
use borrow.Author.Tests.{ne_eqb, le-leb, lt-leb}
use native.Mathlib.Omega.{arith}
use Prim.Native.Nat.{◌≤◌, ◌<◌, ◌+◌}
use mathlib.Core.Path.{◌≡◌}
use mathlib.Core.Bool.{false}
use lib.Dec.{eqb}
use Rattle.rules.specs.Asking.{in_range}
use Rattle.session.proofs.Laws.{eqb-moved}
use Rattle.session.proofs.asking.in_range.Goals as goal

pub returns-then-message-lt1 : goal.returns-then-message-lt1
unfolding in_range
returns-then-message-lt1 c = let h : c.args.message.count < 1 = c.if-message-lt1.true in rw (lt-leb 1 c.args.message.count h)

pub returns-then-message-outstanding : goal.returns-then-message-outstanding
unfolding in_range
returns-then-message-outstanding c =
    let h : 1 ≤ c.args.message.count = omega (arith, c.if-message-lt1.false) in
    let k : c.args.outstanding.count < c.args.message.count + c.args.outstanding.delivered = omega (arith, c.if-message-outstanding.true) in
    rw (le-leb _ _ h, lt-leb _ _ k)

pub returns-then-message-outstanding-2 : goal.returns-then-message-outstanding-2
unfolding in_range
returns-then-message-outstanding-2 c =
    let h : 1 ≤ c.args.message.count = omega (arith, c.if-message-lt1.false) in
    let k : c.args.message.count + c.args.outstanding.delivered ≤ c.args.outstanding.count = omega (arith, c.if-message-outstanding.false) in
    let n : eqb c.args.message.next_seq_no.0 (c.args.outstanding.from.0 + c.args.outstanding.delivered) ≡ false = ne_eqb _ _ (λ (e : c.args.message.next_seq_no.0 ≡ c.args.outstanding.from.0 + c.args.outstanding.delivered). omega (arith, e, c.if-message-outstanding-2.true)) in
    rw (le-leb _ _ h, le-leb _ _ k, n)

pub returns : goal.returns
unfolding in_range
returns c =
    let h : 1 ≤ c.args.message.count = omega (arith, c.if-message-lt1.false) in
    let k : c.args.message.count + c.args.outstanding.delivered ≤ c.args.outstanding.count = omega (arith, c.if-message-outstanding.false) in
    rw (le-leb _ _ h, le-leb _ _ k) (eqb-moved c.args.message.next_seq_no.0 c.args.outstanding.from.0 c.args.outstanding.delivered c.if-message-outstanding-2.false)
