-- What a call leaves that may accept a message. That an application message keeps the invariant is in proofs/Arrivals.
use Rattle.std.specs.Prelude.{Bool, ℕ, List, ◌++◌, Option}
use Rattle.rules.specs.Names.{SeqNum, Gap, Replay}
use Rattle.rules.specs.State.{Did}
use Rattle.rules.specs.Numbering.{is_peer_finished}
use Rattle.rules.specs.Peer.{is_accept}
use Rattle.loss.specs.Seen.{Taking, reported, number, noted, first_after}
use Rattle.loss.specs.Claim.{AsGiven}
use Rattle.loss.specs.Good.{Good, OnStay}

-- what a call leaves: start, the start was pending; f, the session's first number; gave, the number of a message
pub record Runs (start : Bool) (f gave : ℕ) (log : List Taking) (rej : List Gap) (Q : Option SeqNum → Option Replay → Bool → Type 0) (d : Did) : Type 0 where
  pub good : Good d.session (first_after (is_accept d.answer) start (number d.session.inbound_next) f) (noted d.answer gave log) (reported d.outs ++ rej)
  pub given : AsGiven (noted d.answer gave log)
  pub holds : OnStay d.bound (Q d.session.inbound_next d.session.replay (is_peer_finished d.session.peer_finished))
