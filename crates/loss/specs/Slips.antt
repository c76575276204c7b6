-- 01's three slips, each put in the place of one step of the rules: what it does to the claims, computed.
use Rattle.std.specs.Prelude.{◌≡◌, [], ◌∷◌, false, Option, Some, None, Ok, Err}
use Rattle.rules.specs.Names.{Outstanding, Replay}
use Rattle.rules.specs.Names.flow
use Rattle.rules.specs.Names.verdict
use Rattle.rules.specs.Names.delivery
use Rattle.rules.specs.Names.refusal
use Rattle.rules.specs.State.{Sess, with_outstanding, with_replay, with_awaiting, with_provider, with_gaps}
use Rattle.rules.specs.Gaps.{received_in_overflow}
use Rattle.rules.specs.Ending.{consumed}
use Rattle.rules.specs.Numbering.{replay_after, accept_live, accept_replayed}
use Rattle.rules.specs.Calls.{World, world, release_call, call}
use Rattle.loss.specs.History.{History, fresh, calls, drops_live, run}
use Rattle.loss.specs.Cases.{num, self, small, range, right, binds, sequence, header, arrives_one, drained}

-- a session in the place of another
abbrev with_session : Sess → World → World
with_session s w = world s w.link w.queue

-- ---- consuming the whole request on release
abbrev wholly_at : Option Outstanding → Sess → Sess
wholly_at None s = s
wholly_at (Some o) s = consumed o.count (with_outstanding None s)

abbrev released_wholly : Sess → Sess
released_wholly s = with_provider None (with_awaiting false (with_replay None (wholly_at s.outstanding s)))

-- 2 and 3 are asked for, 2 is replayed
abbrev half_replayed : History
half_replayed = run (fresh self flow.Recoverable small) (calls (binds 1) ∷ calls arrives_one ∷ drops_live ∷ drops_live ∷ calls (sequence 4) ∷ calls (header 2 2) ∷ calls arrives_one ∷ [])

-- ---- skipping a discarded duplicate in the delivered count
abbrev uncounted_at : Option Replay → Sess → Sess
uncounted_at None s = s
uncounted_at (Some r) s = with_gaps (received_in_overflow r.next s.gaps).gaps (with_replay (replay_after r) s)

-- the held gap is 6 to 8, with 7 received; 6 is replayed, and 7 is the duplicate that comes next
abbrev before_duplicate : History
before_duplicate =
    run (fresh self flow.Recoverable small)
    (calls (binds 1) ∷ calls arrives_one ∷ drops_live ∷ calls (sequence 3) ∷ calls arrives_one ∷ drops_live ∷ calls (sequence 5) ∷ calls arrives_one ∷ drops_live ∷ calls (sequence 7) ∷
    drained (calls (binds 7) ∷ calls arrives_one ∷ drops_live ∷ calls release_call ∷ calls (binds 9) ∷
    drained (calls (binds 9) ∷ calls (header 2 1) ∷ calls arrives_one ∷ calls (header 4 1) ∷ calls arrives_one ∷ calls (header 6 3) ∷ calls arrives_one ∷ [])))

-- the world after the slip at 7
abbrev uncounted : World
uncounted = with_session (uncounted_at before_duplicate.world.session.replay before_duplicate.world.session) before_duplicate.world

-- ---- reading 2^64-1 as null in Sequence: the announcement changes nothing
abbrev after_one : History
after_one = run (fresh self flow.Recoverable small) (calls (binds 1) ∷ calls arrives_one ∷ [])

pub record Slips : Type 0 where
  -- 3 is below the expected 4, and neither accepted, rejected nor in a gap
  pub release_all :
      (half_replayed.accepted ≡ right 2 ∷ right 1 ∷ [])
      × (half_replayed.rejected ≡ [])
      × ((released_wholly half_replayed.world.session).inbound_next ≡ Some (num 4))
      × ((released_wholly half_replayed.world.session).gaps.missing ≡ [])
  -- as it should be: 3 is still missing
  pub release_right : (call release_call half_replayed.world).world.session.gaps.missing ≡ range 3 4 ∷ []
  -- 8 is accepted, and after a release still in a gap and in no run: accepted and pending both
  pub skip_duplicate :
      ((call arrives_one uncounted).answer ≡ accept_replayed (num 8))
      × ((call release_call (call arrives_one uncounted).world).world.session.gaps.missing ≡ range 8 9 ∷ [])
      × ((call release_call (call arrives_one uncounted).world).world.session.gaps.overflow_received ≡ [])
  -- as it should be: 7 is discarded, 8 accepted, and nothing is missing
  pub duplicate_right :
      let w = call arrives_one before_duplicate.world in
      (w.answer ≡ Ok (verdict.Delivered delivery.Discard))
      × ((call arrives_one w.world).answer ≡ accept_replayed (num 8))
      × ((call arrives_one w.world).world.session.gaps.missing ≡ [])
  -- a message that the peer gave 2^64-1 is taken for 2; a peer that gives no message that number, as 11 has it of this side, is taken
  -- right all the same, and then demand 2 alone sees the slip
  pub null_sequence : (call arrives_one after_one.world).answer ≡ accept_live (Some (num 2))
  -- as it should be: the announcement is longer than a gap may be, and ends the binding
  pub sequence_right : (call arrives_one (call (sequence 18446744073709551615) after_one.world).world).answer ≡ Err refusal.NotBound
