-- What an earlier binding had is released, and the new one begins now.
use Rattle.rules.specs.Binding.{bind}
use Rattle.session.proofs.Session.bind.Goals as goal

pub returns : goal.returns
unfolding bind
returns c = rw (← c.release_binding_state-released.ensures.is, ← c.new_binding-binding.ensures) c.on_established.ensures
