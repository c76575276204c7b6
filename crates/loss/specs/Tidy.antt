-- Sessions whose lists have room, and steps that leave such a session and few outputs. That every session reached from new is such a one
-- is in proofs/Tidy.
use Rattle.std.specs.Prelude.{◌≡◌, List, true, ℕ, ◌≤◌, length, Option, Some, None}
use Rattle.types.specs.Flows.{is_sequenced}
use Rattle.types.specs.Reasons.{reason_fits}
use Rattle.rules.specs.Names.{SeqNum, FlowType, FixpConfig, Gap}
use Rattle.rules.specs.State.{Lists, Sess, Did}
use Rattle.rules.specs.Gaps.{max_gaps, max_runs}
use Rattle.rules.specs.Local.{Refused, passes, refuses}
use Rattle.rules.specs.Calls.{World, config_fits, texts_fit, max_outs}
use Rattle.loss.specs.Good.{IsNumber, OnStay}
use Rattle.loss.specs.Holding.{If}

-- ---- a session whose lists have room
pub record Tidy (c : FixpConfig) (p : FlowType) (x : Option SeqNum) (g : Lists) : Type 0 where
  pub config : config_fits c ≡ true
  pub few_gaps : length g.missing ≤ max_gaps
  pub few_runs : length g.overflow_received ≤ max_runs
  -- a sequenced peer has an expected number
  pub numbered : If (is_sequenced p) (IsNumber x)

abbrev pub TidyS : Sess → Type 0
TidyS s = Tidy s.config s.remote_flow s.inbound_next s.gaps

-- a step that leaves such a session and adds at most k outputs, at most j where the binding stands, with reasons that fit
pub record Brief (k j : ℕ) (d : Did) : Type 0 where
  pub tidy : TidyS d.session
  pub few : length d.outs ≤ k
  pub staying : OnStay d.bound (length d.outs ≤ j)
  pub fit : texts_fit d.outs ≡ true

-- ---- lists
-- neither list is longer
pub record Fewer (g' g : Lists) : Type 0 where
  pub gaps : length g'.missing ≤ length g.missing
  pub runs : length g'.overflow_received ≤ length g.overflow_received

-- ---- gaps
abbrev pub Few : Lists → Type 0
Few g = (length g.missing ≤ max_gaps) × (length g.overflow_received ≤ max_runs)

-- there is a last gap where there is a gap
abbrev pub HasLast : Option Gap → List Gap → Type 0
HasLast None ms = length ms ≡ 0
HasLast (Some g) ms = 1 ≤ length ms

-- ---- every call
pub record Snug (w : World) : Type 0 where
  pub session : TidyS w.session
  pub reason : reason_fits w.link.reason ≡ true
  pub few : length w.queue.outs ≤ max_outs
  pub fit : texts_fit w.queue.outs ≡ true

abbrev pub Passes : Refused → Type 0
Passes passes = Unit {0}
Passes (refuses r) = ⊥
