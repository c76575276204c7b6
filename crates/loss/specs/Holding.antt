-- The invariant of a history: a live message finds its own number expected, and a message of a batch finds that batch replayed. That
-- everything that happens keeps it is in proofs/Holding.
use Rattle.std.specs.Prelude.{◌≡◌, Bool, true, false, not, ℕ, zero, suc, Option, Some, None}
use Rattle.rules.specs.Names.{SeqNum, Replay}
use Rattle.rules.specs.State.{Did}
use Rattle.rules.specs.Numbering.{is_peer_finished}
use Rattle.loss.specs.Seen.{number}
use Rattle.loss.specs.History.{Truth, History, Kind, given_as, after}
use Rattle.loss.specs.Claim.{AsGiven}
use Rattle.loss.specs.Good.{NoReplay, Good}
use Rattle.loss.specs.Arrivals.{Runs}

abbrev pub If : Bool → Type 0 → Type 0
If true A = A
If false A = Unit {0}

-- a live message may arrive: nothing is replayed, and the session expects the number that the peer gives next, unless the peer has finished
abbrev pub Synced : ℕ → Option SeqNum → Option Replay → Bool → Type 0
Synced t x r z = NoReplay r × If (not z) (number x ≡ t)

-- the batch under way is the one that the session replays
abbrev pub Flies : ℕ → ℕ → Option Replay → Type 0
Flies zero n r = Unit {0}
Flies (suc k) n None = ⊥
Flies (suc k) n (Some r) = (r.next.0 ≡ n) × (r.remaining ≡ suc k)

-- what the session knows of its peer
abbrev pub Knows : Truth → Option SeqNum → Option Replay → Bool → Type 0
Knows p x r z = If p.told (Synced p.next x r z) × Flies p.batch.left p.batch.next r

pub record Invariant (h : History) : Type 0 where
  -- the numbers: gaps, runs, request, rejections, and what has become of each number (Good.Sound, Core.Core)
  pub sound : Good h.world.session h.first h.accepted h.rejected
  -- the peer's next number is expected once it was told, and its batch is the one replayed
  pub knows : Knows h.peer h.world.session.inbound_next h.world.session.replay (is_peer_finished h.world.session.peer_finished)
  pub given : AsGiven h.accepted

-- ---- a call
-- what a call is to leave, so that the invariant holds after it
abbrev pub Carries : History → Kind → Bool → Did → Type 0
Carries h kind arrived d =
    Runs h.world.session.start_pending h.first (given_as h.peer.batch.left h.peer) h.accepted h.rejected
    (λ x r z. Knows (after kind arrived h.peer) x r z) d
