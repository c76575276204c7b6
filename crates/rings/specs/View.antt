-- What the rings stand for, in the rule book's terms, and when they are well formed.
use Rattle.std.specs.Prelude.{ℕ, ◌<◌, ◌≤◌, ◌≡◌, List, Bool, ◌&&◌, ltb, leb}
use Rattle.rules.specs.Names.{Gap}
use Rattle.rules.specs.State.{Lists}
use Rattle.rules.specs.Gaps.{lists, kept, Kept, Seen}
use Rattle.rings.specs.Ring.{ring_list}
use Rattle.rings.specs.declared.ring.Ring.{Ring}
use Rattle.rings.specs.declared.gaps.Gaps.{Gaps}

-- what a slot out of the room would hold: no ring reads one
abbrev pub no_gap : Gap
no_gap = record { from = record { 0 = 0 }; end = record { 0 = 0 } }

-- ---- the lists
unfoldable pub list_of : {room : ℕ} → Ring room → List Gap
list_of {room = room} r = ring_list room no_gap r.slots r.head r.count

abbrev pub lists_of : Gaps → Lists
lists_of g = lists (list_of g.missing) (list_of g.overflow_received)

-- with whether a gap was kept, or a number received already
abbrev pub view_kept : Gaps → Bool → Kept
view_kept g ok = kept (lists_of g) ok

abbrev pub view_seen : Gaps → Bool → Seen
view_seen g duplicate = record { gaps = lists_of g; duplicate = duplicate }

-- ---- well formed: position and count within the room
pub record RingWf {room : ℕ} (r : Ring room) : Type 0 where
  pub head_in : r.head < room
  pub count_in : r.count ≤ room

pub record GapsWf (g : Gaps) : Type 0 where
  pub missing : RingWf g.missing
  pub overflow_received : RingWf g.overflow_received

-- 01, refusal 1: the same as a test
abbrev pub sound_ring : {room : ℕ} → Ring room → Bool
sound_ring {room = room} r = ltb r.head room && leb r.count room

unfoldable pub sound_gaps : Gaps → Bool
sound_gaps g = sound_ring g.missing && sound_ring g.overflow_received

-- ---- contracts: the result is well formed, and stands for what the rule book says
pub record RingIs {room : ℕ} (r : Ring room) (l : List Gap) : Type 0 where
  pub wf : RingWf r
  pub is : list_of r ≡ l

pub record GapsIs (r : Gaps) (l : Lists) : Type 0 where
  pub wf : GapsWf r
  pub is : lists_of r ≡ l

pub record KeptIs (g : Gaps) (ok : Bool) (m : Kept) : Type 0 where
  pub wf : GapsWf g
  pub is : view_kept g ok ≡ m

pub record SeenIs (g : Gaps) (duplicate : Bool) (m : Seen) : Type 0 where
  pub wf : GapsWf g
  pub is : view_seen g duplicate ≡ m
