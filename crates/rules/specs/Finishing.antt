-- The peer's flow ends (FIXP 4.7).
use Rattle.std.specs.Prelude.{ℕ, ◌+◌, Bool, false, not, [], ◌∷◌, ltb, eqb, if◌then◌else◌, Option, Some, None}
use Rattle.types.specs.Base.{all_ones, same_id}
use Rattle.types.specs.Flows.{is_sequenced}
use Rattle.rules.specs.Names.{Nanotime, Instant, SeqNum, FinishedSending, Binding}
use Rattle.rules.specs.Names.event as ev
use Rattle.rules.specs.State.{Sess, with_peer_finished, Did, stays, saying, and_then}
use Rattle.rules.specs.Outputs.{event}
use Rattle.rules.specs.Ending.{violation}
use Rattle.rules.specs.Asking.{maybe_finish_receiving}
use Rattle.rules.specs.Numbering.{next, is_peer_finished, on_next_seq}

-- the peer has finished, its numbers ending before `end`
unfoldable pub finished_with : Option SeqNum → Sess → Binding → Did
finished_with end s b = maybe_finish_receiving (with_peer_finished (Some (record { receiving_sent = false; end = end })) s) b

abbrev pub below : Option SeqNum → ℕ → Bool
below None n = false
below (Some expected) n = ltb n expected.0

-- the last number is known: the rule of an announced number, then finished
abbrev pub last_at : Option SeqNum → Instant → Nanotime → Sess → Binding → Did
last_at None now stamp s b = violation 36 s b
last_at (Some last) now stamp s b =
    if eqb last.0 all_ones then violation 37 s b else
    (if below s.inbound_next (last.0 + 1) then violation 38 s b else
    and_then (on_next_seq now stamp (next last) s b) (finished_with (Some (next last))))

unfoldable pub finished_sending : Instant → Nanotime → Option SeqNum → Sess → Binding → Did
finished_sending now stamp last s b =
    if is_sequenced s.remote_flow then last_at last now stamp s b else
    finished_with None s b

unfoldable pub on_finished_sending : Instant → Nanotime → FinishedSending → Sess → Binding → Did
on_finished_sending now stamp m s b =
    if not (same_id m.session_id s.id) then violation 35 s b else
    (if is_peer_finished s.peer_finished then stays s b [] else
    saying (event (ev.PeerFinishedSending m.last_seq_no) ∷ []) (finished_sending now stamp m.last_seq_no s b))
