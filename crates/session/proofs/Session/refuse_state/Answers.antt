-- The refusal carries where the binding is.
use Rattle.session.proofs.Session.refuse_state.Goals as goal

pub returns : goal.returns
returns c = rw (← c.status-status.ensures) c.refuse.ensures
