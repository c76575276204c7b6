-- What each part of a plain record stands for (..In), and the plain part of each (..Out).
use Rattle.std.specs.Prelude.{ℕ, true, false, eqb, if◌then◌else◌, Option, Some, None}
use Rattle.types.specs.Flows.{termination_number, policy_number}
use Rattle.rules.specs.Names.{SessionId, SeqNum, Instant, FixpConfig, Reason, Gap, Outstanding, Replay, Provider, PeerFinished, BindState, Binding}
use Rattle.rules.specs.Names.state
use Rattle.library.specs.declared.mirror.Number.{Number}
use Rattle.library.specs.declared.mirror.Id.{Id}
use Rattle.library.specs.declared.mirror.Text.{Text}
use Rattle.library.specs.declared.mirror.Range.{Range}
use Rattle.library.specs.declared.mirror.Settings.{Settings}
use Rattle.library.specs.declared.mirror.Asked.{Asked}
use Rattle.library.specs.declared.mirror.Batch.{Batch}
use Rattle.library.specs.declared.mirror.Served.{Served}
use Rattle.library.specs.declared.mirror.Finished.{Finished}
use Rattle.library.specs.declared.mirror.Bond.{Bond}
use Rattle.library.specs.Numbers.{policy_in, termination_in}

-- ---- numbers that may be absent
abbrev pub no_number : Number
no_number = record { some = false; it = 0 }

abbrev pub a_number : ℕ → Number
a_number n = record { some = true; it = n }

abbrev pub seq_in : Number → Option SeqNum
seq_in n = if n.some then Some (record { 0 = n.it }) else None

abbrev pub seq_out : Option SeqNum → Number
seq_out (Some n) = a_number n.0
seq_out None = no_number

abbrev pub instant_in : Number → Option Instant
instant_in n = if n.some then Some (record { 0 = n.it }) else None

abbrev pub instant_out : Option Instant → Number
instant_out (Some t) = a_number t.0
instant_out None = no_number

abbrev pub duration_in : Number → Option ℕ
duration_in n = if n.some then Some n.it else None

abbrev pub duration_out : Option ℕ → Number
duration_out (Some n) = a_number n
duration_out None = no_number

-- ---- field by field
abbrev pub id_in : Id → SessionId
id_in i = record { 0 = i.low; 1 = i.high }

abbrev pub id_out : SessionId → Id
id_out i = record { low = i.0; high = i.1 }

abbrev pub text_in : Text → Reason
text_in t = record { bytes = t.bytes; len = t.len }

abbrev pub text_out : Reason → Text
text_out r = record { bytes = r.bytes; len = r.len }

abbrev pub gap_in : Range → Gap
gap_in r = record { from = record { 0 = r.from }; end = record { 0 = r.end } }

abbrev pub gap_out : Gap → Range
gap_out g = record { from = g.from.0; end = g.end.0 }

abbrev pub config_in : Settings → FixpConfig
config_in c =
    record {
      max_gap_len = c.max_gap_len;
      max_retransmit_count = c.max_retransmit_count;
      max_pending_gaps = c.max_pending_gaps;
      retransmit_timeout = c.timeout;
      peer_silence_grace = duration_in c.grace;
      retransmit_stall_policy = policy_in c.policy;
    }

abbrev pub config_out : FixpConfig → Settings
config_out c =
    record {
      max_gap_len = c.max_gap_len;
      max_retransmit_count = c.max_retransmit_count;
      max_pending_gaps = c.max_pending_gaps;
      policy = policy_number c.retransmit_stall_policy;
      timeout = c.retransmit_timeout;
      grace = duration_out c.peer_silence_grace;
    }

-- ---- parts that may be absent
abbrev pub outstanding_in : Asked → Option Outstanding
outstanding_in o =
    if o.some
    then Some
    (record {
      timestamp = record { 0 = o.stamp };
      from = record { 0 = o.from };
      count = o.count;
      delivered = o.delivered;
      last_progress = record { 0 = o.last_progress };
      interrupted = o.interrupted;
      batch_complete = o.batch_complete;
      stall_reported = o.stall_reported;
    })
    else None

abbrev pub outstanding_out : Option Outstanding → Asked
outstanding_out (Some o) =
    record {
      some = true;
      interrupted = o.interrupted;
      batch_complete = o.batch_complete;
      stall_reported = o.stall_reported;
      count = o.count;
      delivered = o.delivered;
      stamp = o.timestamp.0;
      from = o.from.0;
      last_progress = o.last_progress.0;
    }
outstanding_out None =
    record {
      some = false;
      interrupted = false;
      batch_complete = false;
      stall_reported = false;
      count = 0;
      delivered = 0;
      stamp = 0;
      from = 0;
      last_progress = 0;
    }

abbrev pub replay_in : Batch → Option Replay
replay_in b = if b.some then Some (record { next = record { 0 = b.next }; remaining = b.remaining }) else None

abbrev pub replay_out : Option Replay → Batch
replay_out (Some r) = record { some = true; remaining = r.remaining; next = r.next.0 }
replay_out None = record { some = false; remaining = 0; next = 0 }

abbrev pub provider_in : Served → Option Provider
provider_in s =
    if s.some
    then Some (record { request_timestamp = record { 0 = s.stamp }; from = record { 0 = s.from }; count = s.count; sent = s.sent })
    else None

abbrev pub provider_out : Option Provider → Served
provider_out (Some p) = record { some = true; count = p.count; sent = p.sent; stamp = p.request_timestamp.0; from = p.from.0 }
provider_out None = record { some = false; count = 0; sent = 0; stamp = 0; from = 0 }

abbrev pub finished_in : Finished → Option PeerFinished
finished_in f = if f.some then Some (record { receiving_sent = f.receiving_sent; end = seq_in f.end }) else None

abbrev pub finished_out : Option PeerFinished → Finished
finished_out (Some f) = record { some = true; receiving_sent = f.receiving_sent; end = seq_out f.end }
finished_out None = record { some = false; receiving_sent = false; end = no_number }

-- ---- the binding: 1 Established, 2 Terminating, 3 Closing
unfoldable pub state_in : Bond → BindState
state_in b =
    if eqb b.phase 1 then state.Established
    else (if eqb b.phase 2 then state.Terminating (record { 0 = b.sent_at }) (termination_in b.code)
    else state.Closing (instant_in b.deadline))

abbrev pub bound_in : Bond → Binding
bound_in b =
    record {
      state = state_in b;
      local_keepalive = b.local_keepalive;
      remote_keepalive = b.remote_keepalive;
      last_keepalive = record { 0 = b.last_keepalive };
      last_received = record { 0 = b.last_received };
      in_sequence = b.in_sequence;
    }

abbrev pub binding_in : Bond → Option Binding
binding_in b = if b.some then Some (bound_in b) else None

abbrev pub bond_of : Binding → ℕ → ℕ → ℕ → Number → Bond
bond_of b phase code sent-at deadline =
    record {
      some = true;
      phase = phase;
      code = code;
      in_sequence = b.in_sequence;
      sent_at = sent-at;
      deadline = deadline;
      local_keepalive = b.local_keepalive;
      remote_keepalive = b.remote_keepalive;
      last_keepalive = b.last_keepalive.0;
      last_received = b.last_received.0;
    }

abbrev pub no_bond : Bond
no_bond =
    record {
      some = false;
      phase = 1;
      code = 1;
      in_sequence = false;
      sent_at = 0;
      deadline = no_number;
      local_keepalive = 0;
      remote_keepalive = 0;
      last_keepalive = 0;
      last_received = 0;
    }

abbrev pub bound_out : Binding → BindState → Bond
bound_out b state.Established = bond_of b 1 1 0 no_number
bound_out b (state.Terminating t k) = bond_of b 2 (termination_number k) t.0 no_number
bound_out b (state.Closing d) = bond_of b 3 1 0 (instant_out d)

abbrev pub binding_out : Option Binding → Bond
binding_out (Some b) = bound_out b b.state
binding_out None = no_bond
