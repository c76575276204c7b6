-- Sessions reached from new by any calls at all, with a Recoverable peer that need not be truthful, and the truthful peer that could have
-- made a single call. What holds of them is in proofs/Reached.
use Rattle.std.specs.Prelude.{List, [], ◌∷◌, Bool, true, false, ℕ, Option, Some, None}
use Rattle.rules.specs.Names.{Gap, Replay}
use Rattle.rules.specs.State.{Sess, Queue}
use Rattle.rules.specs.Local.{Refused, passes, refuses}
use Rattle.rules.specs.Calls.{World, world, Call, call, reading, polled, transport_closed}
use Rattle.loss.specs.Seen.{Taking, number}
use Rattle.loss.specs.History.{Batch, no_batch, Truth, truth, Kind, message, announces, heads, other, opens, ours}
use Rattle.loss.specs.Claim.{AsGiven}
use Rattle.loss.specs.Good.{Good}

-- ---- any calls
pub data Use : Type 0 where
  uses : Call → Use
  -- the host takes an output; it reports the transport closed
  takes : Use
  reports : Use

abbrev pub read_as : Refused → Queue → World → World
read_as passes q w = world w.session w.link q
read_as (refuses r) q w = w

unfoldable pub used : World → Use → World
used w (uses c) = (call c w).world
used w takes = read_as (reading w) (polled w.queue) w
used w reports = read_as (reading w) (transport_closed w.queue) w

unfoldable pub reach : World → List Use → World
reach w [] = w
reach w (x ∷ xs) = reach (used w x) xs

-- the invariant of its numbers holds, for some account of what was accepted and rejected
pub record Accounted (w : World) : Type 0 where
  pub first : ℕ
  pub log : List Taking
  pub rejected : List Gap
  pub sound : Good w.session first log rejected
  pub given : AsGiven log

-- a truthful peer that makes this call: its next number is the one announced, or the one expected; its batch is the one replayed
abbrev pub batch_of : Option Replay → Batch
batch_of None = no_batch
batch_of (Some r) = record { next = r.next.0; left = r.remaining }

abbrev pub is_live : Option Replay → Bool
is_live None = true
is_live (Some r) = false

abbrev pub peer_for : Kind → Sess → Truth
peer_for message s = truth (number s.inbound_next) (is_live s.replay) (batch_of s.replay)
peer_for (announces n) s = truth n false no_batch
peer_for (heads n k) s = truth 0 false no_batch
peer_for other s = truth 0 false no_batch
peer_for (opens n) s = truth (number n) false no_batch
peer_for ours s = truth 0 false no_batch
