-- What is released may be finalized.
use Rattle.session.proofs.Session.ended_by.Goals as goal

pub returns-then-not-graceful : goal.returns-then-not-graceful
returns-then-not-graceful c = rw (c.if-not-graceful.true) c.release_binding_state-released.ensures

pub returns : goal.returns
returns c = rw (c.if-not-graceful.false, ← c.release_binding_state-released.ensures.is) c.finalize_if_finished.ensures
