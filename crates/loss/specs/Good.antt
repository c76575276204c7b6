-- The invariant of a session with a Recoverable peer, and what it means that a step keeps it.
use Rattle.std.specs.Prelude.{◌≡◌, List, [], ◌∷◌, Bool, true, false, ◌||◌, ℕ, ◌+◌, ◌<◌, ◌≤◌, ◌^◌, Option, Some, None}
use Rattle.rules.specs.Names.{SeqNum, FlowType, Bound, Gap, Outstanding, Replay}
use Rattle.rules.specs.Names.flow
use Rattle.rules.specs.Names.bound
use Rattle.rules.specs.State.{Lists, Sess, Did}
use Rattle.rules.specs.Numbering.{is_peer_finished}
use Rattle.rules.specs.Peer.{is_accept}
use Rattle.loss.specs.Seen.{Taking, reported, number}
use Rattle.loss.specs.Core.{Asked, idle, asking, asked_of, Core}

abbrev pub IsRecoverable : FlowType → Type 0
IsRecoverable flow.Recoverable = Unit {0}
IsRecoverable flow.Idempotent = ⊥
IsRecoverable flow.Unsequenced = ⊥
IsRecoverable flow.None = ⊥

abbrev pub IsNumber : Option SeqNum → Type 0
IsNumber None = ⊥
IsNumber (Some n) = Unit {0}

-- the replay goes on where the delivered end, within the request
abbrev pub ReplayFits : Option Replay → Asked → Type 0
ReplayFits None o = Unit {0}
ReplayFits (Some r) idle = ⊥
ReplayFits (Some r) (asking f c d) = (r.next.0 ≡ f + d) × (0 < r.remaining) × (d + r.remaining ≤ c)

abbrev pub NoReplay : Option Replay → Type 0
NoReplay None = Unit {0}
NoReplay (Some r) = ⊥

-- while the start is pending, 1 is expected and nothing is missing
abbrev pub StartFits : Bool → ℕ → ℕ → List Gap → Type 0
StartFits false first e ms = Unit {0}
StartFits true first e [] = (first ≡ e) × (e ≡ 1)
StartFits true first e (g ∷ ms) = ⊥

-- a request's count is a u32
abbrev pub CountFits : Asked → Type 0
CountFits idle = Unit {0}
CountFits (asking f c d) = c < 2 ^ 32

-- a request whose batch is being replayed was not interrupted, and its batch is not complete: a stall waits it out
abbrev pub Steady : Option Replay → Option Outstanding → Type 0
Steady None o = Unit {0}
Steady (Some r) None = Unit {0}
Steady (Some r) (Some o) = o.interrupted || o.batch_complete ≡ false

-- max: the largest count that is asked for
pub record Sound (max : ℕ) (f : FlowType) (x : Option SeqNum) (start : Bool) (g : Lists) (o : Option Outstanding) (r : Option Replay) (first : ℕ) (log : List Taking) (rej : List Gap) : Type 0 where
  pub bounded : max < 2 ^ 32
  pub recoverable : IsRecoverable f
  pub numbered : IsNumber x
  pub numbers : Core first (number x) g.missing g.overflow_received (asked_of o) log rej
  pub counts : CountFits (asked_of o)
  pub replays : ReplayFits r (asked_of o)
  pub steady : Steady r o
  pub starts : StartFits start first (number x) g.missing

-- of a session: by its parts, so that a step that sets another part has nothing to show
abbrev pub Good : Sess → ℕ → List Taking → List Gap → Type 0
Good s first log rej = Sound s.config.max_retransmit_count s.remote_flow s.inbound_next s.start_pending s.gaps s.outstanding s.replay first log rej

-- ---- what a step keeps
-- what is to hold where the binding stands
abbrev pub OnStay : Bound → Type 0 → Type 0
OnStay bound.Stay A = A
OnStay bound.Unbind A = Unit {0}

-- first: the session's first number, given the expected one; Q: what is to hold of expected number, replay and "the peer has finished"
pub record Keeps (log : List Taking) (rej : List Gap) (first : Option SeqNum → ℕ) (Q : Option SeqNum → Option Replay → Bool → Type 0) (d : Did) : Type 0 where
  pub good : Good d.session (first d.session.inbound_next) log rej
  pub silent : reported d.outs ≡ []
  pub plain : is_accept d.answer ≡ false
  pub holds : OnStay d.bound (Q d.session.inbound_next d.session.replay (is_peer_finished d.session.peer_finished))
