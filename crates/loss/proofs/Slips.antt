-- 01's three slips, each put in the place of one step of the rules: what it does to the claims, computed.
use Rattle.std.specs.Prelude.{refl}
use Rattle.types.specs.Base.{deadline_at}
use Rattle.types.specs.Reasons.{no_text}
use Rattle.rules.specs.State.{queued, saying, answering, and_then}
use Rattle.rules.specs.Gaps.{append_gap, record_gap, later_of, widen, hold_refused_gap, received_in_overflow, drop_first, consume_missing}
use Rattle.rules.specs.Ending.{release_binding_state, fail, violation}
use Rattle.rules.specs.Asking.{fewer, ask, request_missing, maybe_finish_receiving, recovered, complete_outstanding, in_range, on_retransmission}
use Rattle.rules.specs.Numbering.{gap_held, gap_recorded, on_gap, stop_replay, announced, on_next_seq, replay_after, count_delivered, complete_if, replayed_counted, on_replayed, number_live, on_live, on_application}
use Rattle.rules.specs.Binding.{new_session, resume, on_established, bind}
use Rattle.rules.specs.Peer.{on_peer}
use Rattle.rules.specs.Calls.{config_fits, sound, call}
use Rattle.loss.specs.Seen.{arrives, added}
use Rattle.loss.specs.History.{ran, step, run}
use Rattle.loss.specs.Slips.{Slips}

-- ---- reading 2^64-1 as null in Sequence: the announcement changes nothing
pub slips : Slips
unfolding run arrives added ran step call sound config_fits queued saying answering and_then no_text deadline_at append_gap record_gap later_of widen hold_refused_gap received_in_overflow drop_first consume_missing release_binding_state fail violation fewer ask request_missing maybe_finish_receiving recovered complete_outstanding in_range on_retransmission gap_held gap_recorded on_gap stop_replay announced on_next_seq replay_after count_delivered complete_if replayed_counted on_replayed number_live on_live on_application new_session resume on_established bind on_peer
slips =
    record {
      release_all = (refl, refl, refl, refl);
      release_right = refl;
      skip_duplicate = (refl, refl, refl);
      duplicate_right = (refl, refl, refl);
      null_sequence = refl;
      sequence_right = refl;
    }
