-- The place after the last takes the line.
use borrow.Author.Rules.{rules}
use native.Mathlib.Omega.{arith}
use native.Mathlib.Numerals.{add-one}
use Prim.Native.Nat.{ℕ, suc, ◌+◌}
use mathlib.Core.Path.{◌≡◌, refl, sym, ap, ◌∙◌}
use lib.ListN.{length, set}
use Rattle.rules.specs.Calls.{room_for_call}
use Rattle.types.specs.Outputs.{line}
use Rattle.rings.specs.Ring.{ring_list, wrap}
use Rattle.rings.proofs.Laws.{ring-push, wrap-low, long_of}
use Rattle.queue.specs.Added.{no_line, lines_of}
use Rattle.queue.proofs.added.Added.push.Goals as goal

pub returns : goal.returns
unfolding lines_of
returns c =
    let r = c.args.self in
    let len : length r.lines ≡ room_for_call = search (rules, long_of) in
    let low : wrap room_for_call (0 + r.count) ≡ r.count = wrap-low room_for_call (0 + r.count) (omega arith) ∙ omega arith in
    let next = line c.args.said c.args.reason c.args.quote in
    let p = ring-push room_for_call no_line r.lines next 0 r.count (omega arith) (omega arith) len in
    record { count = refl; lines = rw add-one (ap (λ (at : ℕ). ring_list room_for_call no_line (set r.lines at next) 0 (suc r.count)) (sym low) ∙ p) }
