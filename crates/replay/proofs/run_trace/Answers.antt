-- A buffer too short is not touched; an input too long has one line; else the whole text.
use native.Mathlib.Omega.{arith}
use mathlib.Core.Path.{refl}
use borrow.Author.Tests.{le-leb, lt-leb}
use lib.ListN.{length}
use Rattle.replay.specs.Run.{max_input, max_output}
use Rattle.replay.proofs.run_trace.Goals as goal

pub returns-then-out-lt-MAX_OUTPUT : goal.returns-then-out-lt-MAX_OUTPUT
returns-then-out-lt-MAX_OUTPUT c = record { is = rw (lt-leb max_output (length c.args.out.now) c.if-out-lt-MAX_OUTPUT.true) (refl, refl); inside = omega arith }

pub returns-then-s-gt-MAX_INPUT : goal.returns-then-s-gt-MAX_INPUT
returns-then-s-gt-MAX_INPUT c = record { is = rw (le-leb max_output (length c.args.out.now) c.if-out-lt-MAX_OUTPUT.false, lt-leb (length c.args.s.now) max_input c.if-s-gt-MAX_INPUT.true) c.stop_line.ensures.is; inside = omega (arith, c.stop_line.ensures.room, c.stop_line.auto.out, c.if-out-lt-MAX_OUTPUT.false) }

pub returns : goal.returns
returns c = record { is = rw (le-leb max_output (length c.args.out.now) c.if-out-lt-MAX_OUTPUT.false, le-leb (length c.args.s.now) max_input c.if-s-gt-MAX_INPUT.false) c.run_whole.ensures.is; inside = c.run_whole.ensures.inside }
