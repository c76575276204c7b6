-- The length where it is at most the limit.
use borrow.Author.Tests.{le-leb, lt-leb}
use Prim.Native.Nat.{◌≤◌, ◌<◌}
use Rattle.rules.specs.Asking.{fewer}
use Rattle.session.proofs.asking.at_most.Goals as goal

pub returns-then-len-max : goal.returns-then-len-max
unfolding fewer
returns-then-len-max c = let h : c.args.len ≤ c.args.max = c.if-len-max.true in rw (le-leb _ _ h)

pub returns : goal.returns
unfolding fewer
returns c = let h : c.args.max < c.args.len = c.if-len-max.false in rw (lt-leb _ _ h)
