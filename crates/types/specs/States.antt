-- Where a binding is, and a binding with one field another.
use Rattle.std.specs.Prelude.{ℕ, Bool, true, false, Option, Some, None}
use Rattle.types.specs.declared.ids.Instant.{Instant}
use Rattle.types.specs.declared.binding.BindState.{BindState}
use Rattle.types.specs.declared.binding.BindState.TheVariants as state
use Rattle.types.specs.declared.binding.Binding.{Binding}
use Rattle.types.specs.declared.binding.Bound.{Bound}
use Rattle.types.specs.declared.binding.Bound.TheVariants as bound
use Rattle.types.specs.declared.answers.SessionStatus.{SessionStatus}
use Rattle.types.specs.declared.answers.SessionStatus.TheVariants as status

abbrev pub is_stay : Bound → Bool
is_stay bound.Stay = true
is_stay bound.Unbind = false

abbrev pub is_established : BindState → Bool
is_established state.Established = true
is_established (state.Terminating t c) = false
is_established (state.Closing d) = false

abbrev pub is_closing : BindState → Bool
is_closing state.Established = false
is_closing (state.Terminating t c) = false
is_closing (state.Closing d) = true

abbrev pub status_of : BindState → SessionStatus
status_of state.Established = status.Established
status_of (state.Terminating t c) = status.Terminating
status_of (state.Closing d) = status.Closing

-- what a line of the trace prints after the answer
abbrev pub link_status : Option Binding → SessionStatus
link_status None = status.Unbound
link_status (Some b) = status_of b.state

abbrev pub binding : BindState → ℕ → ℕ → Instant → Instant → Bool → Binding
binding t l r k h q =
    record {
      state = t;
      local_keepalive = l;
      remote_keepalive = r;
      last_keepalive = k;
      last_received = h;
      in_sequence = q;
    }

-- its state another
abbrev pub with_state : BindState → Binding → Binding
with_state t b = binding t b.local_keepalive b.remote_keepalive b.last_keepalive b.last_received b.in_sequence

-- this side has just sent an application message or a heartbeat
abbrev pub with_keepalive : Instant → Binding → Binding
with_keepalive now b = binding b.state b.local_keepalive b.remote_keepalive now b.last_received b.in_sequence

-- the peer has just sent something
abbrev pub with_received : Instant → Binding → Binding
with_received now b = binding b.state b.local_keepalive b.remote_keepalive b.last_keepalive now b.in_sequence

-- whether the receiver can number this side's next application message by itself
abbrev pub with_in_sequence : Bool → Binding → Binding
with_in_sequence q b = binding b.state b.local_keepalive b.remote_keepalive b.last_keepalive b.last_received q

-- a session message other than a Sequence switches the context
abbrev pub leave_sequence : Binding → Binding
leave_sequence b = with_in_sequence false b
