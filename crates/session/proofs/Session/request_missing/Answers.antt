-- The tests in the order of the rule, then the first gap.
use borrow.Author.Tests.{eq-eqb, ne_eqb, le-leb, lt-leb}
use mathlib.Core.Path.{sym, ◌∙◌}
use Rattle.rules.specs.Asking.{request_missing}
use Rattle.session.proofs.Laws.{is_false, is_true}
use Rattle.session.proofs.Session.request_missing.Goals as goal

pub returns-then-not-is_established : goal.returns-then-not-is_established
unfolding request_missing
returns-then-not-is_established c = rw (is_false c.is_established.ensures c.if-not-is_established.true) c.stay.ensures

pub returns-then-not-is_recoverable : goal.returns-then-not-is_recoverable
unfolding request_missing
returns-then-not-is_recoverable c = rw (is_true c.is_established.ensures c.if-not-is_established.false, is_false c.is_recoverable.ensures c.if-not-is_recoverable.true) c.stay-then-not-is_recoverable.ensures

pub returns-then-is_asking : goal.returns-then-is_asking
unfolding request_missing
returns-then-is_asking c = rw (is_true c.is_established.ensures c.if-not-is_established.false, is_true c.is_recoverable.ensures c.if-not-is_recoverable.false, is_true c.is_asking.ensures c.if-is_asking.true) c.stay-then-is_asking.ensures

pub returns-in_default : goal.returns-in_default
unfolding request_missing
returns-in_default c = let e = sym c.front.ensures ∙ c.in_default.is in rw (is_true c.is_established.ensures c.if-not-is_established.false, is_true c.is_recoverable.ensures c.if-not-is_recoverable.false, is_false c.is_asking.ensures c.if-is_asking.false, e) c.stay-in_default.ensures

pub returns-then-gap : goal.returns-then-gap
unfolding request_missing
returns-then-gap c = let e = sym c.front.ensures ∙ c.in-Some.is in rw (is_true c.is_established.ensures c.if-not-is_established.false, is_true c.is_recoverable.ensures c.if-not-is_recoverable.false, is_false c.is_asking.ensures c.if-is_asking.false, e, le-leb _ _ c.if-gap.true) c.stay-then-gap.ensures

pub returns-then-stamp-eq-ALL_ONES : goal.returns-then-stamp-eq-ALL_ONES
unfolding request_missing
returns-then-stamp-eq-ALL_ONES c = let e = sym c.front.ensures ∙ c.in-Some.is in rw (is_true c.is_established.ensures c.if-not-is_established.false, is_true c.is_recoverable.ensures c.if-not-is_recoverable.false, is_false c.is_asking.ensures c.if-is_asking.false, e, lt-leb _ _ c.if-gap.false, eq-eqb _ _ c.if-stamp-eq-ALL_ONES.true) c.fail.ensures

pub returns : goal.returns
unfolding request_missing
returns c = let e = sym c.front.ensures ∙ c.in-Some.is in rw (is_true c.is_established.ensures c.if-not-is_established.false, is_true c.is_recoverable.ensures c.if-not-is_recoverable.false, is_false c.is_asking.ensures c.if-is_asking.false, e, lt-leb _ _ c.if-gap.false, ne_eqb _ _ c.if-stamp-eq-ALL_ONES.false) c.ask.ensures
