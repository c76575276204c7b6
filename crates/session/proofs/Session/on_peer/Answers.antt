-- Closing ignores every message; else it is heard, and dispatched.
use Rattle.rules.specs.State.{saying}
use Rattle.rules.specs.Peer.{on_peer}
use Rattle.session.proofs.Laws.{is_true, is_false, said}
use Rattle.session.proofs.Session.on_peer.Goals as goal

pub returns-then-is_closing : goal.returns-then-is_closing
unfolding on_peer saying
returns-then-is_closing c = rw (is_true c.is_closing.ensures c.if-is_closing.true, ← c.name.ensures, ← c.closing_answer.ensures) (said _ _ _ _ _ c.ignore-told.ensures.is c.reply.ensures)

pub returns : goal.returns
unfolding on_peer
returns c = rw (is_false c.is_closing.ensures c.if-is_closing.false) c.on_message.ensures
