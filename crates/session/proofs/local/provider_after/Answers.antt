-- Nothing is left once the whole count was sent.
use borrow.Author.Tests.{le-leb, lt-leb}
use Rattle.rules.specs.Local.{provider_after}
use Rattle.session.proofs.local.provider_after.Goals as goal

pub returns-then-provider-sent : goal.returns-then-provider-sent
unfolding provider_after
returns-then-provider-sent c = rw (le-leb _ _ c.if-provider-sent.true)

pub returns : goal.returns
unfolding provider_after
returns c = rw (lt-leb _ _ c.if-provider-sent.false)
