-- Demand 3: loss can't renumber. What is claimed of a history; `loss-cannot-renumber` in proofs/Theorem is the proof.
use Rattle.std.specs.Prelude.{ℕ, ◌+◌, ◌<◌, ◌≤◌, ◌^◌, ◌≡◌, List, [], ◌∷◌, ◌⊎◌, Option, Some, None}
use Rattle.rules.specs.Names.{SessionId, SeqNum, FlowType, FixpConfig, Gap, Outstanding}
use Rattle.loss.specs.Seen.{Taking}
use Rattle.loss.specs.History.{History, fresh, Happening, run, Obeys}

-- n lies in one of the ranges
abbrev pub Holds : ℕ → List Gap → Type 0
Holds n [] = ⊥
Holds n (g ∷ l) = ((g.from.0 ≤ n) × (n < g.end.0)) ⊎ Holds n l

-- n was accepted
abbrev pub Took : ℕ → List Taking → Type 0
Took n [] = ⊥
Took n (t ∷ l) = (t.took ≡ n) ⊎ Took n l

-- n is among the delivered of the outstanding request
abbrev pub Delivered : ℕ → Option Outstanding → Type 0
Delivered n None = ⊥
Delivered n (Some o) = (o.from.0 ≤ n) × (n < o.from.0 + o.delivered)

-- n comes before the expected number
abbrev pub Before : ℕ → Option SeqNum → Type 0
Before n None = ⊥
Before n (Some e) = n < e.0

-- "every number accepted is the one the peer gave"
abbrev pub AsGiven : List Taking → Type 0
AsGiven [] = Unit {0}
AsGiven (t ∷ l) = (t.took ≡ t.gave) × AsGiven l

-- "none is accepted twice"
abbrev pub NoneTwice : List Taking → Type 0
NoneTwice [] = Unit {0}
NoneTwice (t ∷ l) = (Took t.took l → ⊥) × NoneTwice l

pub record Accepted (h : History) (n : ℕ) : Type 0 where
  pub taken : Took n h.accepted

-- "inside a range that a RetransmitRejected output named, and not accepted"
pub record Abandoned (h : History) (n : ℕ) : Type 0 where
  pub named : Holds n h.rejected
  pub never : Took n h.accepted → ⊥

-- "in a gap, in no overflow run, and not among the delivered of the outstanding request"
pub record Pending (h : History) (n : ℕ) : Type 0 where
  pub missing : Holds n h.world.session.gaps.missing
  pub no_run : Holds n h.world.session.gaps.overflow_received → ⊥
  pub not_yet : Delivered n h.world.session.outstanding → ⊥

pub data ExactlyOne (A B C : Type 0) : Type 0 where
  one : A → (B → ⊥) → (C → ⊥) → ExactlyOne A B C
  two : (A → ⊥) → B → (C → ⊥) → ExactlyOne A B C
  three : (A → ⊥) → (B → ⊥) → C → ExactlyOne A B C

-- "every number from the session's first to the one before the expected is exactly one of: accepted, abandoned in a reported rejection,
-- still pending"
pub record NotRenumbered (h : History) : Type 0 where
  pub given : AsGiven h.accepted
  pub once : NoneTwice h.accepted
  pub parted : (n : ℕ) → h.first ≤ n → Before n h.world.session.inbound_next → ExactlyOne (Accepted h n) (Abandoned h n) (Pending h n)

-- "a new session with a Recoverable peer that numbers truthfully from 1", and whatever is sent, lost and done from then on; a count is a
-- u32, as declared
abbrev pub Claim : Type 0
Claim =
    (id : SessionId) (local : FlowType) (config : FixpConfig) → config.max_retransmit_count < 2 ^ 32 → (xs : List Happening) → Obeys (fresh id local config) xs →
    NotRenumbered (run (fresh id local config) xs)
