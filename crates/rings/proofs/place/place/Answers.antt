-- The test of the code is the test of the rule, and where k passes the last place the subtraction brings it back among them.
use Prim.Native.Nat.{◌+◌}
use native.Mathlib.Omega.{arith}
use mathlib.Core.Path.{sym, ◌∙◌}
use Rattle.rings.proofs.Laws.{wrap-low, wrap-high}
use Rattle.rings.proofs.place.place.Goals as goal

pub returns-then-k-behind : goal.returns-then-k-behind
returns-then-k-behind c = record { is = sym (wrap-low c.args.room (c.args.head + c.args.k) (omega arith)); low = omega arith }

pub returns-else-k-behind : goal.returns-else-k-behind
returns-else-k-behind c = record { is = omega arith ∙ sym (wrap-high c.args.room (c.args.head + c.args.k) (omega arith)); low = omega arith }
