-- A gap that begins where the last one ends makes it longer; any other, and the first, is appended.
use borrow.Author.Rules.{rules}
use native.Mathlib.Omega.{arith}
use mathlib.Core.Path.{sym, ◌∙◌}
use Rattle.rings.specs.View.{lists_of, list_of}
use Rattle.rings.proofs.GapLaws.{back_long}
use Rattle.rings.proofs.Cases.{record-first, record_apart, record-touching}
use Rattle.rings.proofs.gaps.Gaps.record_gap.Goals as goal

pub returns-in_default : goal.returns-in_default
returns-in_default c = rw (record-first c.args.max c.args.from c.args.end (lists_of c.args.self.now) (sym c.back.ensures ∙ c.in_default.is)) c.append_gap.ensures

pub returns-then-last-from : goal.returns-then-last-from
returns-then-last-from c = rw (record_apart c.args.max c.args.from c.args.end (lists_of c.args.self.now) c.in-Some.last (sym c.back.ensures ∙ c.in-Some.is) c.if-last-from.true) c.append_gap-then-last-from.ensures

pub set_back-requires : goal.set_back-requires
set_back-requires c = (omega arith, (search rules, back_long (list_of c.args.self.now.missing) c.in-Some.last (sym c.back.ensures ∙ c.in-Some.is)))

pub returns : goal.returns
returns c =
    rw (record-touching c.args.max c.args.from c.args.end (lists_of c.args.self.now) c.in-Some.last (sym c.back.ensures ∙ c.in-Some.is) c.if-last-from.false)
    (record { wf = search rules; is = rw c.set_back.ensures.is })
