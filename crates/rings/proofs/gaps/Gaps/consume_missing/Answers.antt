-- The two tests say from + count < end with no sum that could pass 2^64: where it holds the first gap begins that much later, and else it goes.
use borrow.Author.Rules.{rules}
use native.Mathlib.Omega.{arith}
use mathlib.Core.Path.{sym, ◌∙◌}
use Rattle.rings.specs.View.{lists_of, list_of}
use Rattle.rings.proofs.GapLaws.{front_long}
use Rattle.rings.proofs.Cases.{consume-zero, consume-none, consume-whole, consume-part}
use Rattle.rings.proofs.gaps.Gaps.consume_missing.Goals as goal

pub returns-then-count-eq0 : goal.returns-then-count-eq0
returns-then-count-eq0 c = rw (consume-zero c.args.count (lists_of c.args.self.now) c.if-count-eq0.true) (search rules)

pub returns-in_default : goal.returns-in_default
returns-in_default c = rw (consume-none c.args.count (lists_of c.args.self.now) c.if-count-eq0.false (sym c.front.ensures ∙ c.in_default.is)) (search rules)

pub returns-then-first-count : goal.returns-then-first-count
returns-then-first-count c =
    rw (consume-whole c.args.count (lists_of c.args.self.now) c.in-Some.first c.if-count-eq0.false (sym c.front.ensures ∙ c.in-Some.is) (omega (arith, c.if-first-count.true)))
    c.drop_first.ensures

pub returns-then-first-count-2 : goal.returns-then-first-count-2
returns-then-first-count-2 c =
    rw (consume-whole c.args.count (lists_of c.args.self.now) c.in-Some.first c.if-count-eq0.false (sym c.front.ensures ∙ c.in-Some.is) (omega (arith, c.if-first-count-2.true)))
    c.drop_first-then-first-count-2.ensures

pub set_front-requires : goal.set_front-requires
set_front-requires c = (omega arith, (search rules, front_long (list_of c.args.self.now.missing) c.in-Some.first (sym c.front.ensures ∙ c.in-Some.is)))

pub returns : goal.returns
returns c =
    rw (consume-part c.args.count (lists_of c.args.self.now) c.in-Some.first c.if-count-eq0.false (sym c.front.ensures ∙ c.in-Some.is) (omega (arith, c.if-first-count.false, c.if-first-count-2.false)))
    (record { wf = search rules; is = rw c.set_front.ensures.is })
