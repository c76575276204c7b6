-- Keepalive and grace after what was last received; if their sum does not fit, neither does the instant.
use native.Mathlib.Omega.{arith}
use Prim.Native.Nat.{◌<◌, ◌+◌}
use Rattle.types.specs.Base.{all_ones}
use Rattle.rules.specs.Deadlines.{silence_deadline}
use Rattle.session.proofs.Laws.{deadline-over}
use Rattle.session.proofs.Session.silence_deadline.Goals as goal

pub returns-then-grace-binding : goal.returns-then-grace-binding
unfolding silence_deadline
returns-then-grace-binding c =
    let h : all_ones < c.args.binding.last_received.0 + (c.args.binding.remote_keepalive + c.grace_or-grace.result) = omega (arith, c.if-grace-binding.true) in
    rw (← c.grace_or-grace.ensures) (deadline-over _ h)

pub returns : goal.returns
unfolding silence_deadline
returns c = rw (← c.grace_or-grace.ensures) c.checked_add.ensures
