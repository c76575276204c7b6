-- The first announcement sets the number; then it is compared with the expected one.
use Rattle.std.specs.Prelude.{if◌then◌else◌, Option, Some}
use borrow.Author.Tests.{eq-eqb, ne_eqb, lt-ltb, le-ltb}
use mathlib.Core.Path.{ap}
use mathlib.Core.List.{[]}
use mathlib.Core.Bool.{Bool, false}
use Rattle.rules.specs.Names.{SeqNum}
use Rattle.rules.specs.State.{stays, with_inbound, with_start}
use Rattle.rules.specs.Numbering.{announced_to, announced}
use Rattle.session.specs.View.{view}
use Rattle.session.proofs.Session.announced.Goals as goal

pub returns-then-self : goal.returns-then-self
unfolding announced
returns-then-self c = rw (ap (λ (t : Bool). if t then stays (with_inbound (Some c.args.next) (with_start false (view c.args.self))) c.args.binding [] else announced_to (view c.args.self).inbound_next c.args.now c.args.stamp c.args.next (view c.args.self) c.args.binding) c.if-self.true, ← c.with_inbound-first.ensures.is) c.stay.ensures

pub returns-in_default : goal.returns-in_default
unfolding announced
returns-in_default c = rw (ap (λ (t : Bool). if t then stays (with_inbound (Some c.args.next) (with_start false (view c.args.self))) c.args.binding [] else announced_to (view c.args.self).inbound_next c.args.now c.args.stamp c.args.next (view c.args.self) c.args.binding) c.if-self.false, ap (λ (n : Option SeqNum). announced_to n c.args.now c.args.stamp c.args.next (view c.args.self) c.args.binding) c.in_default.is, ← c.with_inbound-first-in_default.ensures.is) c.stay-in_default.ensures

pub returns-then-next-expected : goal.returns-then-next-expected
unfolding announced
returns-then-next-expected c = rw (ap (λ (t : Bool). if t then stays (with_inbound (Some c.args.next) (with_start false (view c.args.self))) c.args.binding [] else announced_to (view c.args.self).inbound_next c.args.now c.args.stamp c.args.next (view c.args.self) c.args.binding) c.if-self.false, ap (λ (n : Option SeqNum). announced_to n c.args.now c.args.stamp c.args.next (view c.args.self) c.args.binding) c.in-Some.is, lt-ltb _ _ c.if-next-expected.true) c.violation.ensures

pub returns-then-next-expected-2 : goal.returns-then-next-expected-2
unfolding announced
returns-then-next-expected-2 c = rw (ap (λ (t : Bool). if t then stays (with_inbound (Some c.args.next) (with_start false (view c.args.self))) c.args.binding [] else announced_to (view c.args.self).inbound_next c.args.now c.args.stamp c.args.next (view c.args.self) c.args.binding) c.if-self.false, ap (λ (n : Option SeqNum). announced_to n c.args.now c.args.stamp c.args.next (view c.args.self) c.args.binding) c.in-Some.is, le-ltb _ _ c.if-next-expected.false, eq-eqb _ _ c.if-next-expected-2.true) c.stay-then-next-expected-2.ensures

pub returns-then-next-expected-3 : goal.returns-then-next-expected-3
unfolding announced
returns-then-next-expected-3 c = rw (ap (λ (t : Bool). if t then stays (with_inbound (Some c.args.next) (with_start false (view c.args.self))) c.args.binding [] else announced_to (view c.args.self).inbound_next c.args.now c.args.stamp c.args.next (view c.args.self) c.args.binding) c.if-self.false, ap (λ (n : Option SeqNum). announced_to n c.args.now c.args.stamp c.args.next (view c.args.self) c.args.binding) c.in-Some.is, le-ltb _ _ c.if-next-expected.false, ne_eqb _ _ c.if-next-expected-2.false, lt-ltb _ _ c.if-next-expected-3.true) c.violation-then-next-expected-3.ensures

pub returns : goal.returns
unfolding announced
returns c = rw (ap (λ (t : Bool). if t then stays (with_inbound (Some c.args.next) (with_start false (view c.args.self))) c.args.binding [] else announced_to (view c.args.self).inbound_next c.args.now c.args.stamp c.args.next (view c.args.self) c.args.binding) c.if-self.false, ap (λ (n : Option SeqNum). announced_to n c.args.now c.args.stamp c.args.next (view c.args.self) c.args.binding) c.in-Some.is, le-ltb _ _ c.if-next-expected.false, ne_eqb _ _ c.if-next-expected-2.false, le-ltb _ _ c.if-next-expected-3.false) c.on_gap.ensures
