-- What a record and an answered call stand for in the rule book, and what each call promises.
use Rattle.std.specs.Prelude.{ℕ, ◌+◌, ◌≤◌, ◌≡◌, Bool, true, false, ◌&&◌, length, Option, None, Result, Ok, Err, ⊤}
use Rattle.types.specs.Reasons.{reason_fits}
use Rattle.rules.specs.Names.{Link, Binding, Reason, Refusal, FixpConfig}
use Rattle.rules.specs.Names.policy
use Rattle.rules.specs.Names.verdict
use Rattle.rules.specs.Names.refusal
use Rattle.rules.specs.Local.{Refused, passes, refuses, unless}
use Rattle.rules.specs.Calls.{World, world, Call, wrong, does, Ran, link_after, config_fits, sound, if_bound, has_room}
use Rattle.rings.specs.View.{sound_gaps}
use Rattle.queue.specs.View.{queue_of, OutsWf, sound_outs}
use Rattle.queue.specs.declared.Outputs.{Outputs}
use Rattle.session.specs.View.{view, SessWf}
use Rattle.session.specs.declared.Session.{Session}
use Rattle.session.specs.declared.Step.{Step}
use Rattle.calls.specs.declared.Called.{Called}

-- the rule book's world that a record stands for
abbrev pub world_of : Session → Link → Outputs → World
world_of s l q = world (view s) l (queue_of q)

-- 1: "a list count, ring position or reason length passes its room, or the stored configuration is out of range"
unfoldable pub good_record : Session → Link → Outputs → Bool
good_record s l q = config_fits s.config && sound_gaps s.gaps && reason_fits l.reason && sound_outs q

abbrev pub view_called : Called → Ran
view_called r = record { world = world_of r.session r.link r.queue; answer = r.answer }

-- the call was done: the rule's world and answer, with the rings in order
pub record Done (r : Called) (m : Ran) : Type 0 where
  pub session : SessWf r.session
  pub queue : OutsWf r.queue
  pub is : view_called r ≡ m

-- the call was refused so, and session, binding and queue stand exactly as before
pub record Unchanged (r : Called) (x : Refusal) (s : Session) (l : Link) (q : Outputs) : Type 0 where
  pub session : r.session ≡ s
  pub link : r.link ≡ l
  pub queue : r.queue ≡ q
  pub answer : r.answer ≡ Err x

abbrev pub AnsweredBy : Refused → Called → Ran → Session → Link → Outputs → Type 0
AnsweredBy passes r m s l q = Done r m
AnsweredBy (refuses x) r m s l q = Unchanged r x s l q

-- a bad record is refused before anything else
abbrev pub of_good : Bool → Refused → Refused
of_good true x = x
of_good false x = refuses refusal.BadRecord

-- the refusals of the rule book in their order; else what the rule does
abbrev pub Answered : Call → Called → Session → Link → Outputs → Type 0
Answered c r s l q = AnsweredBy (of_good (good_record s l q) (wrong c (world_of s l q))) r (does c (world_of s l q)) s l q

-- ---- the tests of a call
-- 1 alone: the value of a good record
abbrev pub if_good : {A : Type 0} → Bool → A → Result A Refusal
if_good true x = Ok x
if_good false x = Err refusal.BadRecord

-- 1, and what comes next in the table
abbrev pub of_record : Session → Link → Outputs → Refused → Refused
of_record s l q rest = of_good (good_record s l q) (unless (sound (world_of s l q)) refusal.BadRecord rest)

-- 1, 3, and what comes next for the binding
abbrev pub of_bound : Session → Link → Outputs → (Binding → Refused) → Refused
of_bound s l q k = of_record s l q (if_bound l.binding k)

-- 7, and what comes next
abbrev pub with_room : Outputs → Refused → Refused
with_room q rest = unless (has_room (queue_of q)) refusal.OutputFull rest

-- what comes next of what the tests found, or their refusal
abbrev pub next_of : {A : Type 0} → Result A Refusal → (A → Refused) → Refused
next_of (Ok x) k = k x
next_of (Err x) k = refuses x

-- r is what the tests say, whatever comes next in the table
abbrev pub Checked : Result ⊤ Refusal → (Refused → Refused) → Type 0
Checked r tests = (rest : Refused) → tests rest ≡ next_of r (λ x. rest)

-- the same of tests that find the binding
abbrev pub Found : Result Binding Refusal → ((Binding → Refused) → Refused) → Type 0
Found r tests = (k : Binding → Refused) → tests k ≡ next_of r k

-- what the steps ask for: a record in order with that binding and so many free places
pub record Ready (s : Session) (l : Link) (q : Outputs) (b : Option Binding) (free : ℕ) : Type 0 where
  pub session : SessWf s
  pub queue : OutsWf q
  pub binding : l.binding ≡ b
  pub room : length (queue_of q).outs + free ≤ 32

-- ---- the answer
-- a step's parts, its binding kept or dropped
abbrev pub called_of : Step → Reason → Called
called_of t reason = record { session = t.session; link = link_after t.bound t.binding reason; queue = t.queue; answer = t.answer }

-- ---- a new session
-- of the session that stands in for one that was not opened
abbrev pub least_config : FixpConfig
least_config =
    record {
      max_gap_len = 1;
      max_retransmit_count = 1;
      max_pending_gaps = 1;
      retransmit_timeout = 0;
      peer_silence_grace = None;
      retransmit_stall_policy = policy.EventOnly;
    }

-- the new session, or the refusal of its configuration: then what comes back is for no one to use
abbrev pub opened_as : Refused → (FixpConfig → World) → FixpConfig → Ran
opened_as passes w config = record { world = w config; answer = Ok verdict.Done }
opened_as (refuses x) w config = record { world = w least_config; answer = Err x }
