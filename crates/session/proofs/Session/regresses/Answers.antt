-- The tests in the order of the rule.
use Rattle.std.specs.Prelude.{Option, Some}
use mathlib.Core.Path.{ap}
use Rattle.rules.specs.Names.{SeqNum}
use Rattle.rules.specs.Queries.{lower_than}
use Rattle.session.specs.View.{view}
use Rattle.session.proofs.Laws.{is_false, is_true}
use Rattle.session.proofs.Session.regresses.Goals as goal

pub returns-then-self : goal.returns-then-self
returns-then-self c = rw c.if-self.true

pub returns-then-not-is_sequenced : goal.returns-then-not-is_sequenced
returns-then-not-is_sequenced c = rw (c.if-self.false, is_false c.is_sequenced.ensures c.if-not-is_sequenced.true)

pub returns-in_default : goal.returns-in_default
returns-in_default c = rw (c.if-self.false, is_true c.is_sequenced.ensures c.if-not-is_sequenced.false, ap (λ (n : Option SeqNum). lower_than n (view c.args.self).inbound_next) c.in_default.is)

pub returns-in_default-inbound_next : goal.returns-in_default-inbound_next
returns-in_default-inbound_next c = rw (c.if-self.false, is_true c.is_sequenced.ensures c.if-not-is_sequenced.false, ap (λ (n : Option SeqNum). lower_than n (view c.args.self).inbound_next) c.in-Some.is, ap (λ (n : Option SeqNum). lower_than (Some c.in-Some.number) n) c.in_default-inbound_next.is)

pub returns : goal.returns
returns c = rw (c.if-self.false, is_true c.is_sequenced.ensures c.if-not-is_sequenced.false, ap (λ (n : Option SeqNum). lower_than n (view c.args.self).inbound_next) c.in-Some.is, ap (λ (n : Option SeqNum). lower_than (Some c.in-Some.number) n) c.in-Some-inbound_next.is)
