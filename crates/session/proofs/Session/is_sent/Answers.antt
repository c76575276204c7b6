-- The two tests of the rule; the end is compared by a difference, since a sum might not fit.
use borrow.Author.Tests.{le-leb, lt-leb}
use native.Mathlib.Omega.{arith}
use Prim.Native.Nat.{◌≤◌, ◌<◌, ◌+◌}
use Rattle.rules.specs.Serving.{is_sent}
use Rattle.session.proofs.Laws.{leb-moved}
use Rattle.session.proofs.Session.is_sent.Goals as goal

pub returns-then-message-lt1 : goal.returns-then-message-lt1
unfolding is_sent
returns-then-message-lt1 c = let h : c.args.message.from_seq_no.0 < 1 = c.if-message-lt1.true in rw (lt-leb 1 c.args.message.from_seq_no.0 h)

pub returns-then-next-message : goal.returns-then-next-message
unfolding is_sent
returns-then-next-message c =
    let h : 1 ≤ c.args.message.from_seq_no.0 = omega (arith, c.if-message-lt1.false) in
    let k : c.args.self.outbound_next.0 < c.args.message.from_seq_no.0 + c.args.message.count = omega (arith, c.if-next-message.true) in
    rw (le-leb _ _ h, lt-leb _ _ k)

pub returns : goal.returns
unfolding is_sent
returns c =
    let h : 1 ≤ c.args.message.from_seq_no.0 = omega (arith, c.if-message-lt1.false) in
    rw (le-leb _ _ h) (leb-moved c.args.message.from_seq_no.0 c.args.self.outbound_next.0 c.args.message.count c.if-next-message.false)
