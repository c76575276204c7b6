-- `trace::numbers::bytes_at` meets its contract: after i turns the first i bytes are those of `s` from `at` on. Assumes nothing.
use Rattle.std.proofs.Common.{arith}
use Rattle.std.proofs.Math.ListN.{length-set}
use Rattle.trace.proofs.Laws.{bytes-are, filled_more}
use Rattle.trace.proofs.numbers.bytes_at.Goals as goal

pub loop-i-preserved : goal.loop-i-preserved
loop-i-preserved g c = (simp length-set c.loop-i.invariant.0, filled_more c.args.s.now c.args.at c.loop-i.byte-items c.loop-i.i c.byte_at.result (omega arith) c.byte_at.ensures c.loop-i.invariant.1)

pub returns : goal.returns
returns g c = bytes-are g.row.N c.args.s.now c.args.at c.loop-i.byte-items c.loop-i.invariant.0 (λ k h. c.loop-i.invariant.1 k (omega arith))
