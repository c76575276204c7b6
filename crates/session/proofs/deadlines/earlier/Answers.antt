-- A deadline that is absent is never the earlier one.
use Rattle.std.specs.Prelude.{Option}
use borrow.Author.Tests.{le-leb, lt-leb}
use mathlib.Core.Path.{ap, sym, ◌∙◌}
use Rattle.rules.specs.Names.{Instant}
use Rattle.rules.specs.Deadlines.{earlier_than, earlier}
use Rattle.session.proofs.deadlines.earlier.Goals as goal

pub returns-in_default-b : goal.returns-in_default-b
returns-in_default-b c = sym (ap (λ (x : Option Instant). earlier x c.args.b) c.in-Some.is ∙ ap (λ (y : Option Instant). earlier_than c.in-Some.first y) c.in_default-b.is)

pub returns-then-first-second : goal.returns-then-first-second
returns-then-first-second c = let e = ap (λ (x : Option Instant). earlier x c.args.b) c.in-Some.is ∙ ap (λ (y : Option Instant). earlier_than c.in-Some.first y) c.in-Some-b.is in rw (e, le-leb _ _ c.if-first-second.true)

pub returns : goal.returns
returns c = let e = ap (λ (x : Option Instant). earlier x c.args.b) c.in-Some.is ∙ ap (λ (y : Option Instant). earlier_than c.in-Some.first y) c.in-Some-b.is in rw (e, lt-leb _ _ c.if-first-second.false)
