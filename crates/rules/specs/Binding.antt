-- A new session, and binding it to a transport (FIXP 4.3).
use Rattle.std.specs.Prelude.{ℕ, false, [], if◌then◌else◌, Option, Some, None}
use Rattle.types.specs.Flows.{is_sequenced}
use Rattle.types.specs.States.{binding}
use Rattle.rules.specs.Names.{SeqNum, SessionId, Nanotime, Instant, FlowType, FixpConfig, Binding}
use Rattle.rules.specs.Names.state
use Rattle.rules.specs.State.{Sess, sess, Did, and_then}
use Rattle.rules.specs.Gaps.{lists}
use Rattle.rules.specs.Ending.{release_binding_state}
use Rattle.rules.specs.Asking.{request_missing, maybe_finish_receiving}
use Rattle.rules.specs.Numbering.{on_next_seq}

abbrev pub first_number : SeqNum
first_number = record { 0 = 1 }

-- "A new session with a sequenced peer expects 1 with the start pending."
unfoldable pub new_session : SessionId → FlowType → FlowType → FixpConfig → Sess
new_session id local remote config =
    sess id local remote config first_number (if is_sequenced remote then Some first_number else None) (is_sequenced remote)
    (lists [] []) None None false None None false

-- a binding that begins now
abbrev pub established : Instant → ℕ → ℕ → Binding
established now local remote = binding state.Established local remote now now false

-- what an earlier binding left missing is asked for again
unfoldable pub resume : Instant → Nanotime → Sess → Binding → Did
resume now stamp s b = and_then (request_missing now stamp s b) maybe_finish_receiving

abbrev pub established_at : Option SeqNum → Instant → Nanotime → Sess → Binding → Did
established_at None now stamp s b = resume now stamp s b
established_at (Some next) now stamp s b = and_then (on_next_seq now stamp next s b) (resume now stamp)

-- the peer's next number, ignored of an unsequenced peer
unfoldable pub on_established : Option SeqNum → Instant → Nanotime → Sess → Binding → Did
on_established next now stamp s b =
    if is_sequenced s.remote_flow then established_at next now stamp s b else
    resume now stamp s b

-- "Bind is `release_binding_state`, then the Rust's `bind`, then `on_established`"
unfoldable pub bind : Instant → Nanotime → ℕ → ℕ → Option SeqNum → Sess → Did
bind now stamp local remote next s = on_established next now stamp (release_binding_state s) (established now local remote)
