-- What is left to look at has the answer of the whole; each turn looks at its first.
use Prim.Native.Nat.{◌+◌, ◌-◌, ◌≤◌}
use mathlib.Core.Path.{◌≡◌}
use Rattle.rings.specs.Ring.{ring_list, wrap}
use Rattle.rules.specs.Outputs.{close_transport}
use Rattle.rules.specs.Calls.{max_outs, texts_fit}
use Rattle.queue.specs.View.{outs_of}
use Rattle.queue.specs.declared.Outputs.{Outputs}
use Rattle.queue.proofs.Outputs.texts_fit.Given as goal

pub record Left (self : Outputs) (k : Prim.Native.Nat.ℕ) : Type 0 where
  pub turn : k ≤ self.count
  pub same : texts_fit (ring_list max_outs close_transport self.slots (wrap max_outs (self.head + k)) (self.count - k)) ≡ texts_fit (outs_of self)

abbrev pub invariant-loop-k : goal.invariant-loop-k
invariant-loop-k l = Left l.self l.k
