-- The session, the binding and the call that plain records stand for.
use Rattle.std.specs.Prelude.{Bool, not, map}
use Rattle.rules.specs.Names.{Instant, Nanotime, Link}
use Rattle.rules.specs.Gaps.{max_gaps, max_runs}
use Rattle.rules.specs.Calls.{Call}
use Rattle.rings.specs.declared.ring.Ring.{Ring}
use Rattle.rings.specs.declared.gaps.Gaps.{Gaps}
use Rattle.session.specs.declared.Session.{Session}
use Rattle.queue.specs.declared.Outputs.{Outputs}
use Rattle.calls.specs.declared.Called.{Called}
use Rattle.types.specs.Flows.{flow_number}
use Rattle.dispatch.specs.Entries as entries
use Rattle.trace.specs.declared.records.Entry.{Entry}
use Rattle.library.specs.declared.mirror.Missing.{Missing}
use Rattle.library.specs.declared.mirror.Overflow.{Overflow}
use Rattle.library.specs.declared.mirror.Record.{Record}
use Rattle.library.specs.declared.mirror.Request.{Request}
use Rattle.library.specs.declared.mirror.Done.{Done}
use Rattle.library.specs.Numbers.{flow_in}
use Rattle.library.specs.Parts.{gap_in, gap_out, id_in, text_in, seq_in, config_in, outstanding_in, replay_in, provider_in, finished_in, binding_in}
use Rattle.library.specs.Parts.{id_out, text_out, seq_out, config_out, outstanding_out, replay_out, provider_out, finished_out, binding_out}
use Rattle.library.specs.Outputs.{queue_out}
use Rattle.library.specs.Answers.{answer_out}

-- ---- the rings, place by place
abbrev pub missing_in : Missing → Ring max_gaps
missing_in m = record { slots = map gap_in m.slots; head = m.head; count = m.count }

abbrev pub missing_out : Ring max_gaps → Missing
missing_out r = record { slots = map gap_out r.slots; head = r.head; count = r.count }

abbrev pub overflow_in : Overflow → Ring max_runs
overflow_in m = record { slots = map gap_in m.slots; head = m.head; count = m.count }

abbrev pub overflow_out : Ring max_runs → Overflow
overflow_out r = record { slots = map gap_out r.slots; head = r.head; count = r.count }

abbrev pub gaps_in : Missing → Overflow → Gaps
gaps_in m o = record { missing = missing_in m; overflow_received = overflow_in o }

-- ---- the record
abbrev pub session_in : Record → Session
session_in r =
    record {
      id = id_in r.id;
      local_flow = flow_in r.local_flow;
      remote_flow = flow_in r.remote_flow;
      config = config_in r.config;
      outbound_next = record { 0 = r.outbound_next };
      inbound_next = seq_in r.inbound_next;
      start_pending = r.start_pending;
      gaps = gaps_in r.missing r.overflow;
      outstanding = outstanding_in r.asked;
      replay = replay_in r.batch;
      awaiting_resume = r.awaiting_resume;
      provider = provider_in r.served;
      peer_finished = finished_in r.finished;
      finalized = r.finalized;
    }

abbrev pub link_in : Record → Link
link_in r = record { binding = binding_in r.bond; reason = text_in r.reason }

abbrev pub record_out : Session → Link → Outputs → Record
record_out s l q =
    record {
      id = id_out s.id;
      local_flow = flow_number s.local_flow;
      remote_flow = flow_number s.remote_flow;
      start_pending = s.start_pending;
      awaiting_resume = s.awaiting_resume;
      finalized = s.finalized;
      config = config_out s.config;
      outbound_next = s.outbound_next.0;
      inbound_next = seq_out s.inbound_next;
      missing = missing_out s.gaps.missing;
      overflow = overflow_out s.gaps.overflow_received;
      asked = outstanding_out s.outstanding;
      batch = replay_out s.replay;
      served = provider_out s.provider;
      finished = finished_out s.peer_finished;
      bond = binding_out l.binding;
      reason = text_out l.reason;
      queue = queue_out q;
    }

-- what a call leaves, and its answer
abbrev pub done_out : Called → Done
done_out r = record { «record» = record_out r.session r.link r.queue; reply = answer_out r.answer }

-- ---- the call: what is no call is refused before
abbrev pub is_malformed : Entry → Bool
is_malformed e = not (entries.is_call e)

abbrev pub now_of : Request → Instant
now_of q = record { 0 = q.now }

abbrev pub stamp_of : Request → Nanotime
stamp_of q = record { 0 = q.stamp }

abbrev pub call_of : Entry → Request → Call
call_of e q = entries.call_of e (now_of q) (stamp_of q) (text_in q.reason)
