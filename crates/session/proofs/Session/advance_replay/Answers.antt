-- One less remains, and the next number is one more; the last one ends the batch.
use borrow.Author.Tests.{le-leb, lt-leb}
use mathlib.Core.Path.{refl}
use Rattle.rules.specs.Numbering.{replay_after}
use Rattle.session.proofs.Session.advance_replay.Goals as goal

pub returns-then-replay-le1 : goal.returns-then-replay-le1
unfolding replay_after
returns-then-replay-le1 c = rw (le-leb _ _ c.if-replay-le1.true) (record { wf = record { gaps = c.requires.sess_wf.gaps; pending = c.requires.sess_wf.pending }; is = refl })

pub returns : goal.returns
unfolding replay_after
returns c = rw (lt-leb _ _ c.if-replay-le1.false) (record { wf = record { gaps = c.requires.sess_wf.gaps; pending = c.requires.sess_wf.pending }; is = refl })
