-- The flag, where the peer has finished.
use Rattle.std.specs.Prelude.{Option}
use mathlib.Core.Path.{ap, sym}
use Rattle.rules.specs.Names.{PeerFinished}
use Rattle.rules.specs.Ending.{sent_at}
use Rattle.session.proofs.Session.finished_receiving_sent.Goals as goal

pub returns-in_default : goal.returns-in_default
returns-in_default c = ap (λ (f : Option PeerFinished). sent_at f) (sym c.in_default.is)

pub returns : goal.returns
returns c = ap (λ (f : Option PeerFinished). sent_at f) (sym c.in-Some.is)
