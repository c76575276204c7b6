-- The length is held to max as in the rule, and below max there is room.
use borrow.Author.Rules.{rules}
use native.Mathlib.Omega.{arith}
use Rattle.rings.specs.View.{lists_of}
use Rattle.rings.proofs.Cases.{append-full, append-room}
use Rattle.rings.proofs.gaps.Gaps.append_gap.Goals as goal

pub returns-then-len-max : goal.returns-then-len-max
returns-then-len-max c = rw (append-full c.args.max c.args.from c.args.end (lists_of c.args.self.now) (omega arith)) (search rules)

pub returns : goal.returns
returns c = rw (append-room c.args.max c.args.from c.args.end (lists_of c.args.self.now) (omega arith)) (record { wf = search rules; is = rw c.push_gap.ensures.is })
