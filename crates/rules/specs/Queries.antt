-- What a session is asked and does not change for.
use Rattle.std.specs.Prelude.{Bool, false, not, ◌&&◌, ltb, if◌then◌else◌, Option, Some, None}
use Rattle.types.specs.Flows.{is_sequenced}
use Rattle.rules.specs.Names.{SeqNum}
use Rattle.rules.specs.Lists.{is_nil}
use Rattle.rules.specs.State.{Sess}

abbrev pub next_outbound_seq : Sess → Option SeqNum
next_outbound_seq s = if is_sequenced s.local_flow then Some s.outbound_next else None

abbrev pub next_inbound_seq : Sess → Option SeqNum
next_inbound_seq s = s.inbound_next

abbrev pub has_pending_recovery : Sess → Bool
has_pending_recovery s = not (is_nil s.gaps.missing)

-- the NextSeqNo that this side announces when it binds
abbrev pub announced_next_seq : Sess → Option SeqNum
announced_next_seq s = next_outbound_seq s

abbrev pub lower_than : Option SeqNum → Option SeqNum → Bool
lower_than None expected = false
lower_than (Some next) None = false
lower_than (Some next) (Some expected) = ltb next.0 expected.0

-- whether a NextSeqNo of the peer would move its flow backwards; until the start is settled nothing does
abbrev pub regresses : Option SeqNum → Sess → Bool
regresses next s = not s.start_pending && is_sequenced s.remote_flow && lower_than next s.inbound_next
