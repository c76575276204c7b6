-- `trace::numbers::bytes_at` meets its contract: after i turns the first i bytes are those of `s` from `at` on. Assumes nothing.
use Rattle.std.proofs.Common.{ℕ, ◌≡◌, ◌+◌, ◌<◌, length, get_or}
use Rattle.trace.proofs.numbers.bytes_at.Given as goal

abbrev pub invariant-loop-i : goal.invariant-loop-i
invariant-loop-i g l = (length l.byte-items ≡ g.row.N) × ((k : ℕ) → k < l.i → get_or l.byte-items k 0 ≡ get_or l.s (l.at + k) 0)
