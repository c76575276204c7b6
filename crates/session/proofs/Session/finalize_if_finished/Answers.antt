-- Only a session that sent FinishedReceiving is finalized.
use mathlib.Core.Path.{refl}
use Rattle.rules.specs.Ending.{finalize_if_finished}
use Rattle.session.proofs.Laws.{is_false, is_true}
use Rattle.session.proofs.Session.finalize_if_finished.Goals as goal

pub returns-then-not-finished_receiving_sent : goal.returns-then-not-finished_receiving_sent
unfolding finalize_if_finished
returns-then-not-finished_receiving_sent c = rw (is_false c.finished_receiving_sent.ensures c.if-not-finished_receiving_sent.true) (record { wf = c.requires; is = refl })

pub returns : goal.returns
unfolding finalize_if_finished
returns c = rw (is_true c.finished_receiving_sent.ensures c.if-not-finished_receiving_sent.false) (record { wf = record { gaps = c.requires.gaps; pending = c.requires.pending }; is = refl })
