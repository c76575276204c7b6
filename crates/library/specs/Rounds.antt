-- What is read back from the plain form of a part is that part: nothing is lost at the border.
use Rattle.std.specs.Prelude.{ℕ, ◌≡◌, refl, List, [], ◌∷◌, map, Option, Some, None}
use Rattle.std.proofs.Common.{ap}
use Rattle.types.specs.Flows.{flow_number, policy_number, termination_number, rejection_number, by_number, name_number}
use Rattle.types.specs.Codes.{flow_of, policy_of, termination_of, rejection_of, by_of, name_of_number}
use Rattle.rules.specs.Gaps.{max_gaps, max_runs}
use Rattle.rules.specs.Names.{FlowType, TerminationCode, RetransmitRejectCode, RetransmitStallPolicy, TerminatedBy, MessageName, SessionId, SeqNum, Instant, FixpConfig, Reason, Gap, Outstanding, Replay, Provider, PeerFinished, BindState, Binding}
use Rattle.rules.specs.Names.flow
use Rattle.rules.specs.Names.code
use Rattle.rules.specs.Names.rejection
use Rattle.rules.specs.Names.policy
use Rattle.rules.specs.Names.by
use Rattle.rules.specs.Names.name
use Rattle.rules.specs.Names.state
use Rattle.rings.specs.declared.ring.Ring.{Ring}
use Rattle.library.specs.Numbers.{flow_in, policy_in, termination_in, rejection_in, by_in, name_in}
use Rattle.library.specs.Parts.{seq_in, seq_out, instant_in, instant_out, duration_in, duration_out, id_in, id_out, text_in, text_out, gap_in, gap_out, config_in, config_out, outstanding_in, outstanding_out, replay_in, replay_out, provider_in, provider_out, finished_in, finished_out, state_in, bound_out}
use Rattle.library.specs.Records.{missing_in, missing_out, overflow_in, overflow_out}

-- ---- codes
pub flow-back : (f : FlowType) → flow_in (flow_number f) ≡ f
unfolding flow_of
flow-back flow.Recoverable = refl
flow-back flow.Idempotent = refl
flow-back flow.Unsequenced = refl
flow-back flow.None = refl

pub policy-back : (p : RetransmitStallPolicy) → policy_in (policy_number p) ≡ p
unfolding policy_of
policy-back policy.Terminate = refl
policy-back policy.ReRequestAfterContextSwitch = refl
policy-back policy.ReRequestAfterBatch = refl
policy-back policy.EventOnly = refl

pub termination-back : (k : TerminationCode) → termination_in (termination_number k) ≡ k
unfolding termination_of
termination-back code.Finished = refl
termination-back code.UnspecifiedError = refl
termination-back code.ReRequestOutOfBounds = refl
termination-back code.ReRequestInProgress = refl

pub rejection-back : (k : RetransmitRejectCode) → rejection_in (rejection_number k) ≡ k
unfolding rejection_of
rejection-back rejection.OutOfRange = refl
rejection-back rejection.InvalidSession = refl
rejection-back rejection.RequestLimitExceeded = refl

pub by-back : (b : TerminatedBy) → by_in (by_number b) ≡ b
unfolding by_of
by-back by.Local = refl
by-back by.Peer = refl

pub name_back : (m : MessageName) → name_in (name_number m) ≡ m
unfolding name_of_number
name_back name.ApplicationMessage = refl
name_back name.Sequence = refl
name_back name.Context = refl
name_back name.UnsequencedHeartbeat = refl
name_back name.RetransmitRequest = refl
name_back name.Retransmission = refl
name_back name.RetransmitReject = refl
name_back name.Terminate = refl
name_back name.FinishedSending = refl
name_back name.FinishedReceiving = refl
name_back name.Applied = refl
name_back name.NotApplied = refl
name_back name.Topic = refl
name_back name.MessageTemplate = refl

-- ---- numbers that may be absent
pub seq-back : (n : Option SeqNum) → seq_in (seq_out n) ≡ n
seq-back (Some n) = refl
seq-back None = refl

pub instant-back : (t : Option Instant) → instant_in (instant_out t) ≡ t
instant-back (Some t) = refl
instant-back None = refl

pub duration-back : (d : Option ℕ) → duration_in (duration_out d) ≡ d
duration-back (Some n) = refl
duration-back None = refl

-- ---- parts
pub id-back : (i : SessionId) → id_in (id_out i) ≡ i
id-back i = refl

pub text-back : (r : Reason) → text_in (text_out r) ≡ r
text-back r = refl

pub config-back : (g : FixpConfig) → config_in (config_out g) ≡ g
config-back g =
    λ i.
    record {
      max_gap_len = g.max_gap_len;
      max_retransmit_count = g.max_retransmit_count;
      max_pending_gaps = g.max_pending_gaps;
      retransmit_timeout = g.retransmit_timeout;
      peer_silence_grace = duration-back g.peer_silence_grace i;
      retransmit_stall_policy = policy-back g.retransmit_stall_policy i;
    }

pub outstanding-back : (o : Option Outstanding) → outstanding_in (outstanding_out o) ≡ o
outstanding-back (Some o) = refl
outstanding-back None = refl

pub replay-back : (r : Option Replay) → replay_in (replay_out r) ≡ r
replay-back (Some r) = refl
replay-back None = refl

pub provider-back : (p : Option Provider) → provider_in (provider_out p) ≡ p
provider-back (Some p) = refl
provider-back None = refl

pub finished-back : (f : Option PeerFinished) → finished_in (finished_out f) ≡ f
finished-back (Some f) = λ i. Some (record { receiving_sent = f.receiving_sent; end = seq-back f.end i })
finished-back None = refl

-- ---- the binding
pub state-back : (b : Binding) (s : BindState) → state_in (bound_out b s) ≡ s
unfolding state_in
state-back b state.Established = refl
state-back b (state.Terminating t k) = ap (state.Terminating t) (termination-back k)
state-back b (state.Closing d) = ap state.Closing (instant-back d)

-- ---- the rings
pub gaps-back : (l : List Gap) → map gap_in (map gap_out l) ≡ l
gaps-back [] = refl
gaps-back (g ∷ l) = ap (λ (r : List Gap). g ∷ r) (gaps-back l)

pub missing-back : (r : Ring max_gaps) → missing_in (missing_out r) ≡ r
missing-back r = λ i. record { slots = gaps-back r.slots i; head = r.head; count = r.count }

pub overflow-back : (r : Ring max_runs) → overflow_in (overflow_out r) ≡ r
overflow-back r = λ i. record { slots = gaps-back r.slots i; head = r.head; count = r.count }
