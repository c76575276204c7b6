-- What a step leaves that may report a rejection. That ending, asking and recovery keep the invariant is in proofs/Asks.
use Rattle.std.specs.Prelude.{◌≡◌, Bool, false, ℕ, ◌≤◌, List, ◌++◌, Option}
use Rattle.rules.specs.Names.{SeqNum, Gap, Replay}
use Rattle.rules.specs.State.{Did}
use Rattle.rules.specs.Numbering.{is_peer_finished}
use Rattle.rules.specs.Peer.{is_accept}
use Rattle.loss.specs.Seen.{Taking, reported}
use Rattle.loss.specs.Core.{Asked, idle, asking}
use Rattle.loss.specs.Good.{Good, OnStay}

-- ---- small facts
-- the request is answered in full
abbrev pub Full : Asked → Type 0
Full idle = Unit {0}
Full (asking f c d) = c ≤ d

-- ---- what a step leaves, where it may report a rejection
pub record Leaves (log : List Taking) (rej : List Gap) (first : Option SeqNum → ℕ) (Q : Option SeqNum → Option Replay → Bool → Type 0) (d : Did) : Type 0 where
  pub good : Good d.session (first d.session.inbound_next) log (reported d.outs ++ rej)
  pub plain : is_accept d.answer ≡ false
  pub holds : OnStay d.bound (Q d.session.inbound_next d.session.replay (is_peer_finished d.session.peer_finished))
