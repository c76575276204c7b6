-- Up to max gaps, and so with none, there is a place for one more. Above max the new gap is joined to the last one, and what lies between
-- becomes a run, as long as there is room for one.
use borrow.Author.Rules.{rules}
use native.Mathlib.Omega.{arith}
use mathlib.Core.Path.{sym, ◌∙◌}
use Rattle.rings.specs.View.{lists_of, list_of}
use Rattle.rings.proofs.GapLaws.{back_none, back_long}
use Rattle.rings.proofs.Cases.{hold-first, hold-touching, hold-full, hold-run}
use Rattle.rings.proofs.gaps.Gaps.hold_refused_gap.Goals as goal

pub returns-then-len-max : goal.returns-then-len-max
returns-then-len-max c = rw (hold-first c.args.max c.args.from c.args.end (lists_of c.args.self.now) (omega arith)) (record { wf = search rules; is = rw c.push_gap.ensures.is })

pub push_gap-requires-in_default-clause-room : goal.push_gap-requires-in_default-clause-room
push_gap-requires-in_default-clause-room c =
    let none = back_none (list_of c.args.self.now.missing) (sym c.back.ensures ∙ c.in_default.is) in
    omega arith

pub returns-in_default : goal.returns-in_default
returns-in_default c =
    let none = back_none (list_of c.args.self.now.missing) (sym c.back.ensures ∙ c.in_default.is) in
    rw (hold-first c.args.max c.args.from c.args.end (lists_of c.args.self.now) (omega arith)) (record { wf = search rules; is = rw c.push_gap-in_default.ensures.is })

pub widen_last-requires-clause-nonzero : goal.widen_last-requires-clause-nonzero
widen_last-requires-clause-nonzero c = back_long (list_of c.args.self.now.missing) c.in-Some.last (sym c.back.ensures ∙ c.in-Some.is)

pub returns-then-last-from : goal.returns-then-last-from
returns-then-last-from c =
    rw (hold-touching c.args.max c.args.from c.args.end (lists_of c.args.self.now) c.in-Some.last (omega arith) (sym c.back.ensures ∙ c.in-Some.is) c.if-last-from.true)
    (record { wf = search rules; is = rw c.widen_last.ensures.is })

pub returns-then-len-ge-MAX_RUNS : goal.returns-then-len-ge-MAX_RUNS
returns-then-len-ge-MAX_RUNS c =
    rw (hold-full c.args.max c.args.from c.args.end (lists_of c.args.self.now) c.in-Some.last (omega arith) (sym c.back.ensures ∙ c.in-Some.is) c.if-last-from.false (omega arith))
    (search rules)

pub widen_last-requires-2-clause-nonzero : goal.widen_last-requires-2-clause-nonzero
widen_last-requires-2-clause-nonzero c = back_long (list_of c.args.self.now.missing) c.in-Some.last (sym c.back.ensures ∙ c.in-Some.is)

pub returns : goal.returns
returns c =
    rw (hold-run c.args.max c.args.from c.args.end (lists_of c.args.self.now) c.in-Some.last (omega (arith, c.len.ensures)) (sym c.back.ensures ∙ c.in-Some.is) c.if-last-from.false (omega (arith, c.len-2.ensures)), ← c.push_back.ensures.is)
    (record { wf = search rules; is = rw c.widen_last-2.ensures.is })
