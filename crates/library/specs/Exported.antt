-- What the exported functions give: a number outside its list is refused, 1 in a record and then 5 in a request; else the call.
use Rattle.std.specs.Prelude.{◌≡◌, Bool, true, false, ◌&&◌, if◌then◌else◌, Ok}
use Rattle.rules.specs.Names.{Refusal}
use Rattle.rules.specs.Names.verdict
use Rattle.rules.specs.Names.refusal
use Rattle.rules.specs.Calls.{World, opening, opened, transport_closed, deadline_of}
use Rattle.queue.specs.View.{queue_of, QueueIs}
use Rattle.queue.specs.declared.Outputs.{Outputs}
use Rattle.calls.specs.View.{world_of, good_record, Answered, opened_as}
use Rattle.calls.specs.View.{Done as Opened}
use Rattle.calls.specs.declared.Called.{Called}
use Rattle.library.specs.declared.mirror.Bond.{Bond}
use Rattle.library.specs.declared.mirror.Record.{Record}
use Rattle.library.specs.declared.mirror.Request.{Request}
use Rattle.library.specs.declared.mirror.Opening.{Opening}
use Rattle.library.specs.declared.mirror.Reply.{Reply}
use Rattle.library.specs.declared.mirror.Done.{Done}
use Rattle.library.specs.Numbers.{is_listed, flow_in}
use Rattle.library.specs.Parts.{id_in, config_in, instant_out}
use Rattle.library.specs.Outputs.{all_said, queue_in}
use Rattle.library.specs.Answers.{numbered_reply, refusal_out, answer_out}
use Rattle.library.specs.Requests.{entry_in}
use Rattle.library.specs.Records.{session_in, link_in, record_out, done_out, is_malformed, call_of}

-- ---- which records are clean
abbrev pub is_bond : Bond → Bool
is_bond b = is_listed b.phase 3 && is_listed b.code 4

abbrev pub is_clean : Record → Bool
is_clean r = is_listed r.local_flow 4 && is_listed r.remote_flow 4 && is_listed r.config.policy 4 && is_bond r.bond && all_said r.queue.slots

abbrev pub is_opening : Opening → Bool
is_opening o = is_listed o.local_flow 4 && is_listed o.remote_flow 4 && is_listed o.config.policy 4

abbrev pub is_good : Record → Bool
is_good r = good_record (session_in r) (link_in r) (queue_in r.queue)

abbrev pub world_in : Record → World
world_in r = world_of (session_in r) (link_in r) (queue_in r.queue)

-- "Each leaves session, binding and queue unchanged."
abbrev pub refused_out : Record → Refusal → Done
refused_out r x = record { «record» = r; reply = refusal_out x }

-- ---- a call
pub record CallOut (r : Record) (q : Request) (d : Done) : Type 0 where
  pub called : Called
  pub answered : Answered (call_of (entry_in q) q) called (session_in r) (link_in r) (queue_in r.queue)
  pub is : d ≡ done_out called

-- by whether the record is clean, and whether the request is no call
abbrev pub CallBy : Bool → Bool → Record → Request → Done → Type 0
CallBy false malformed r q d = d ≡ refused_out r refusal.BadRecord
CallBy true true r q d = d ≡ refused_out r (if is_good r then refusal.BadMessage else refusal.BadRecord)
CallBy true false r q d = CallOut r q d

abbrev pub CallIs : Record → Request → Done → Type 0
CallIs r q d = CallBy (is_clean r) (is_malformed (entry_in q)) r q d

-- ---- a new session; what a refused one leaves is for no one to use
pub record OpenOut (o : Opening) (d : Done) : Type 0 where
  pub called : Called
  pub opens : Opened called (opened_as (opening (config_in o.config)) (opened (id_in o.id) (flow_in o.local_flow) (flow_in o.remote_flow)) (config_in o.config))
  pub left : d.«record» ≡ record_out called.session called.link called.queue
  pub reply : d.reply ≡ (if is_opening o then answer_out called.answer else refusal_out refusal.BadConfig)

-- ---- the next deadline, and a closed transport
abbrev pub deadline_reply : Record → Reply
deadline_reply r =
    if is_clean r && is_good r then numbered_reply 1 (instant_out (deadline_of (world_in r) (link_in r).binding)) else refusal_out refusal.BadRecord

pub record ClosedOut (r : Record) (d : Done) : Type 0 where
  pub queue : Outputs
  pub closed : QueueIs queue (transport_closed (queue_of (queue_in r.queue)))
  pub is : d ≡ record { «record» = record_out (session_in r) (link_in r) queue; reply = answer_out (Ok verdict.Done) }

abbrev pub ClosedBy : Bool → Record → Done → Type 0
ClosedBy false r d = d ≡ refused_out r refusal.BadRecord
ClosedBy true r d = ClosedOut r d

abbrev pub ClosedIs : Record → Done → Type 0
ClosedIs r d = ClosedBy (is_clean r && is_good r) r d
