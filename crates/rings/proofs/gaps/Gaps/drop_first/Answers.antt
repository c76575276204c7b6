-- The ring of gaps loses its first; where none is left the runs are a new ring, else they stay.
use borrow.Author.Rules.{rules}
use native.Mathlib.Omega.{arith}
use mathlib.Core.Path.{◌≡◌, ◌∙◌}
use lib.ListN.{length}
use Rattle.rings.specs.View.{list_of}
use Rattle.rules.specs.Gaps.{drop_first}
use Rattle.rings.proofs.Laws.{nil-of}
use Rattle.rings.proofs.GapLaws.{runs-with}
use Rattle.rings.proofs.gaps.Gaps.drop_first.Goals as goal

pub returns-then-len-eq0 : goal.returns-then-len-eq0
unfolding drop_first
returns-then-len-eq0 c =
    let left = list_of c.pop_front.new.self in
    let none : length left ≡ 0 = omega arith in
    record { wf = search rules; is = rw (← c.pop_front.ensures.is, nil-of left none, c.new-self.ensures.is) }

pub returns-else-len-eq0 : goal.returns-else-len-eq0
unfolding drop_first
returns-else-len-eq0 c =
    let left = list_of c.pop_front.new.self in
    let runs = list_of c.args.self.now.overflow_received in
    record { wf = search rules; is = rw (← c.pop_front.ensures.is, runs-with left runs (λ e. c.if-len-eq0.false (c.len.ensures ∙ e))) }
