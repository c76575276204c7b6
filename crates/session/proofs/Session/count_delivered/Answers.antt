-- Counted where a request is in flight and its count can grow.
use Rattle.std.specs.Prelude.{Option}
use borrow.Author.Tests.{eq-eqb, ne_eqb}
use mathlib.Core.Path.{refl, ap}
use Rattle.rules.specs.Names.{Outstanding}
use Rattle.rules.specs.Numbering.{counted_at, count_delivered}
use Rattle.session.specs.View.{view}
use Rattle.session.proofs.Session.count_delivered.Goals as goal

pub returns-in_default : goal.returns-in_default
unfolding count_delivered
returns-in_default c = rw (ap (λ (o : Option Outstanding). counted_at o c.args.now c.args.last (view c.args.self)) c.in_default.is) (record { wf = c.requires; is = refl })

pub returns-then-outstanding : goal.returns-then-outstanding
unfolding count_delivered
returns-then-outstanding c = rw (ap (λ (o : Option Outstanding). counted_at o c.args.now c.args.last (view c.args.self)) c.in-Some.is, eq-eqb _ _ c.if-outstanding.true) (record { wf = c.requires; is = refl })

pub returns : goal.returns
unfolding count_delivered
returns c = rw (ap (λ (o : Option Outstanding). counted_at o c.args.now c.args.last (view c.args.self)) c.in-Some.is, ne_eqb _ _ c.if-outstanding.false) (record { wf = record { gaps = c.requires.gaps; pending = c.requires.pending }; is = refl })
