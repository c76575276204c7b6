-- Ports that are of no use, and that no proof of the calls' contracts can be given for (01, "How much a contract has to say").
use Rattle.std.specs.Prelude.{Option, Some, None, Ok, Err}
use Prim.Native.Nat.{ℕ, ◌+◌, ◌-◌, ◌<◌}
use native.Mathlib.Omega.{arith}
use mathlib.Core.Path.{◌≡◌, refl, ap, sym, ◌∙◌}
use mathlib.Core.Bool.{Bool, true, false, ◌&&◌, true≢false}
use mathlib.Core.List.{List, [], ◌∷◌}
use lib.ListN.{length, replicate}
use lib.Dec.{leb}
use borrow.Author.Tests.{le-leb, lt-ltb}
use Rattle.types.specs.Base.{deadline_at}
use Rattle.types.specs.Reasons.{no_text, reason_fits}
use Rattle.types.specs.States.{binding}
use Rattle.rules.specs.Names.{SeqNum, SessionId, Nanotime, Instant, FlowType, FixpConfig, Provider, Link, Answer, Gap}
use Rattle.rules.specs.Names.flow
use Rattle.rules.specs.Names.code
use Rattle.rules.specs.Names.rejection
use Rattle.rules.specs.Names.peer
use Rattle.rules.specs.Names.policy
use Rattle.rules.specs.Names.state
use Rattle.rules.specs.Names.delivery
use Rattle.rules.specs.Names.verdict
use Rattle.rules.specs.State.{queued, saying, answering, and_then}
use Rattle.rules.specs.Outputs.{close_transport}
use Rattle.rules.specs.Numbering.{accept_live, number_live, on_live, on_application}
use Rattle.rules.specs.Ending.{release_binding_state}
use Rattle.rules.specs.Asking.{request_missing, maybe_finish_receiving}
use Rattle.rules.specs.Binding.{resume, on_established, bind}
use Rattle.rules.specs.Peer.{is_accept, on_peer}
use Rattle.rules.specs.Local.{send_refused, send_application, terminate_refused, terminate, retransmit_refused, batch, retransmit, reject_refused, reject_retransmit_request, end_refused, end_retransmission}
use Rattle.rules.specs.Deadlines.{silence_deadline, stall_deadline, heartbeat_deadline, heartbeat, heartbeat_if_due, stall_if_due, established_timeout, on_timeout}
use Rattle.rules.specs.Calls.{World, Ran, Call, bind_call, release_call, peer_call, application_call, send_call, terminate_call, retransmit_call, reject_call, end_call, timeout_call, unlinked, config_fits, sound, texts_fit, max_outs, opening, opened}
use Rattle.rules.specs.Gaps.{max_gaps, max_runs}
use Rattle.rings.specs.Ring.{ring_list}
use Rattle.rings.specs.View.{no_gap, list_of, sound_gaps}
use Rattle.rings.specs.declared.gaps.Gaps.{Gaps}
use Rattle.queue.specs.View.{outs_of}
use Rattle.queue.specs.declared.Outputs.{Outputs}
use Rattle.queue.proofs.Laws.{and_left, and_right}
use Rattle.session.specs.declared.Session.{Session}
use Rattle.calls.specs.View.{world_of, good_record, view_called, Done, Answered, opened_as}
use Rattle.types.specs.Answers.{is_refused}
use Rattle.calls.specs.declared.Called.{Called}
use Rattle.promises.proofs.Alike.{outcome, answered-is}

-- ---- a port of the calls, and one whose every call meets its contract
abbrev pub Port : Type 0
Port = Call → Session → Link → Outputs → Called

abbrev pub Meets : Port → Type 0
Meets p = (c : Call) (s : Session) (l : Link) (q : Outputs) → Answered c (p c s l q) s l q

-- ---- small records: 01's example configuration, both flows Recoverable, expecting number n, nothing missing and nothing queued
abbrev at : Instant
at = record { 0 = 0 }

abbrev seven : Nanotime
seven = record { 0 = 7 }

abbrev num : ℕ → SeqNum
num n = record { 0 = n }

abbrev small : FixpConfig
small =
    record {
      max_gap_len = 100;
      max_retransmit_count = 10;
      max_pending_gaps = 2;
      retransmit_timeout = 1000;
      peer_silence_grace = None;
      retransmit_stall_policy = policy.Terminate;
    }

abbrev no_gaps : Gaps
no_gaps =
    record {
      missing = record { slots = replicate 65 no_gap; head = 0; count = 0 };
      overflow_received = record { slots = replicate 256 no_gap; head = 0; count = 0 };
    }

abbrev serving : Option Provider → ℕ → Session
serving v n =
    record {
      id = record { 0 = 1; 1 = 1 };
      local_flow = flow.Recoverable;
      remote_flow = flow.Recoverable;
      config = small;
      outbound_next = num 1;
      inbound_next = Some (num n);
      start_pending = false;
      gaps = no_gaps;
      outstanding = None;
      replay = None;
      awaiting_resume = false;
      provider = v;
      peer_finished = None;
      finalized = false;
    }

abbrev expecting : ℕ → Session
expecting n = serving None n

-- bound at instant 0, with no reason
abbrev bound : Link
bound = record { binding = Some (binding state.Established 1000 1000 at at true); reason = no_text }

abbrev empty : Outputs
empty = record { slots = replicate 32 close_transport; head = 0; count = 0; closing = false }

abbrev arrives : Call
arrives = application_call at seven

small-good : (v : Option Provider) (n : ℕ) → good_record (serving v n) bound empty ≡ true
unfolding good_record config_fits sound_gaps outs_of ring_list no_text
small-good v n = refl

-- what such a port gives is the rule's outcome
met : (p : Port) → Meets p → (c : Call) (s : Session) (l : Link) (q : Outputs) → view_called (p c s l q) ≡ outcome (good_record s l q) c (world_of s l q)
met p m c s l q = answered-is c (p c s l q) s l q (m c s l q)

-- the message numbered n leaves one that expects n + 1, and nothing else
module _ (p : Port) (m : Meets p) where
  numbers-one : view_called (p arrives (expecting 1) bound empty) ≡ record { world = world_of (expecting 2) bound empty; answer = accept_live (Some (num 1)) }
  unfolding sound config_fits list_of ring_list outs_of no_text on_application on_live number_live queued
  numbers-one = met p m arrives (expecting 1) bound empty ∙ ap (λ (t : Bool). outcome t arrives (world_of (expecting 1) bound empty)) (small-good None 1)

  numbers-two : (p arrives (expecting 2) bound empty).answer ≡ accept_live (Some (num 2))
  unfolding sound config_fits list_of ring_list outs_of no_text on_application on_live number_live queued
  numbers-two = ap (λ (r : Ran). r.answer) (met p m arrives (expecting 2) bound empty ∙ ap (λ (t : Bool). outcome t arrives (world_of (expecting 2) bound empty)) (small-good None 2))

-- ---- what a done call leaves is a good record again, if its lists and reasons are within their room
sound-parts : (a b c d e f : Bool) → a && b && c && d && e && f ≡ true → (a ≡ true) × (d ≡ true) × (f ≡ true)
sound-parts a b c d e f h =
    let h4 = and_left (a && b && c && d) e (and_left (a && b && c && d && e) f h) in
    (and_left a b (and_left (a && b) c (and_left (a && b && c) d h4)), and_right (a && b && c) d h4, and_right (a && b && c && d && e) f h)

pub done-is-good : (r : Called) (m : Ran) → Done r m → sound m.world ≡ true → good_record r.session r.link r.queue ≡ true
unfolding good_record sound sound_gaps
done-is-good r m d e =
    let w = (view_called r).world in
    let t = sound-parts (config_fits w.session.config) (leb (length w.session.gaps.missing) max_gaps) (leb (length w.session.gaps.overflow_received) max_runs) (reason_fits w.link.reason) (leb (length w.queue.outs) max_outs) (texts_fit w.queue.outs) (ap (λ (x : Ran). sound x.world) d.is ∙ e) in
    let g = d.session.gaps in
    rw (t.0, lt-ltb _ _ g.missing.head_in, le-leb _ _ g.missing.count_in, lt-ltb _ _ g.overflow_received.head_in, le-leb _ _ g.overflow_received.count_in, t.1, lt-ltb _ _ d.queue.head_in, le-leb _ _ d.queue.count_in, t.2)

-- ---- one that refuses each call: by the exact conditions of 1 to 14
abbrev RefusesEach : Port → Type 0
RefusesEach p = (c : Call) (s : Session) (l : Link) (q : Outputs) → is_refused (p c s l q).answer ≡ true

-- a call of each kind, none of which is refused while one message is being served
pub data Kind : Type 0 where
  binds : Kind
  releases : Kind
  hears : Kind
  receives : Kind
  sends : Kind
  terminates : Kind
  retransmits : Kind
  rejects : Kind
  ends : Kind
  waits : Kind

abbrev pub sample : Kind → Call
sample binds = bind_call at seven 1000 1000 None
sample releases = release_call
sample hears = peer_call at seven peer.MessageTemplate no_text
sample receives = arrives
sample sends = send_call at
sample terminates = terminate_call at code.Finished no_text
sample retransmits = retransmit_call at 1
sample rejects = reject_call rejection.OutOfRange no_text
sample ends = end_call
sample waits = timeout_call at seven

-- a bind is made unbound, and any other call bound
abbrev link_for : Kind → Link
link_for binds = unlinked
link_for _ = bound

abbrev one : Session
one = serving (Some (record { request_timestamp = seven; from = num 1; count = 1; sent = 0 })) 1

one-good : (k : Kind) → good_record one (link_for k) empty ≡ true
unfolding good_record config_fits sound_gaps outs_of ring_list no_text
one-good binds = refl
one-good releases = refl
one-good hears = refl
one-good receives = refl
one-good sends = refl
one-good terminates = refl
one-good retransmits = refl
one-good rejects = refl
one-good ends = refl
one-good waits = refl

not-refused : (k : Kind) → is_refused (outcome true (sample k) (world_of one (link_for k) empty)).answer ≡ false
unfolding sound config_fits list_of ring_list outs_of no_text queued saying answering and_then bind on_established resume request_missing maybe_finish_receiving release_binding_state on_peer on_application on_live number_live send_refused send_application terminate_refused terminate retransmit_refused retransmit batch reject_refused reject_retransmit_request end_refused end_retransmission on_timeout established_timeout stall_if_due heartbeat_if_due heartbeat silence_deadline stall_deadline heartbeat_deadline deadline_at
not-refused binds = refl
not-refused releases = refl
not-refused hears = refl
not-refused receives = refl
not-refused sends = refl
not-refused terminates = refl
not-refused retransmits = refl
not-refused rejects = refl
not-refused ends = refl
not-refused waits = refl

-- one that refuses but one kind of call, whatever the record
abbrev RefusesKind : Kind → Port → Type 0
RefusesKind k p = (s : Session) (l : Link) (q : Outputs) → is_refused (p (sample k) s l q).answer ≡ true

-- ---- one that always answers `accept:1`, be it only that it accepts under no other number
abbrev AcceptsOne : Port → Type 0
AcceptsOne p = (now : Instant) (stamp : Nanotime) (s : Session) (l : Link) (q : Outputs) (n : SeqNum) → (p (application_call now stamp) s l q).answer ≡ accept_live (Some n) → n.0 ≡ 1

-- ---- one that changes nothing, be it only the expected number at an application message
abbrev ChangesNothing : Port → Type 0
ChangesNothing p = (c : Call) (s : Session) (l : Link) (q : Outputs) → (view_called (p c s l q)).world ≡ world_of s l q

abbrev KeepsExpecting : Port → Type 0
KeepsExpecting p = (now : Instant) (stamp : Nanotime) (s : Session) (l : Link) (q : Outputs) → (view_called (p (application_call now stamp) s l q)).world.session.inbound_next ≡ (world_of s l q).session.inbound_next

-- ---- one that numbers the first message and then only echoes: behind one that it accepted, the next is answered alike
abbrev again : Port → Call → Called → Called
again p c r = p c r.session r.link r.queue

abbrev Echoes : Port → Type 0
Echoes p = (now : Instant) (stamp : Nanotime) (s : Session) (l : Link) (q : Outputs) → is_accept (p (application_call now stamp) s l q).answer ≡ true → (again p (application_call now stamp) (p (application_call now stamp) s l q)).answer ≡ (p (application_call now stamp) s l q).answer

-- ---- one that invents gaps, outputs or missing counts: of some record it leaves more than the rule does
abbrev gaps_left : Ran → ℕ
gaps_left r = length r.world.session.gaps.missing

abbrev outputs_left : Ran → ℕ
outputs_left r = length r.world.queue.outs

pub missing_in : List Gap → ℕ
missing_in [] = 0
missing_in (g ∷ l) = (g.end.0 - g.from.0) + missing_in l

abbrev missing_left : Ran → ℕ
missing_left r = missing_in r.world.session.gaps.missing

abbrev Invents : (Ran → ℕ) → Port → Type 0
Invents count p = (c : Call) × (s : Session) × (l : Link) × (q : Outputs) × (count (outcome (good_record s l q) c (world_of s l q)) < count (view_called (p c s l q)))

abbrev number_of : Option SeqNum → ℕ
number_of None = 0
number_of (Some n) = n.0

abbrev accepted_as : Answer → ℕ
accepted_as (Ok verdict.Done) = 0
accepted_as (Ok (verdict.Delivered (delivery.Accept n retransmitted))) = number_of n
accepted_as (Ok (verdict.Delivered delivery.Discard)) = 0
accepted_as (Ok (verdict.Sent n)) = 0
accepted_as (Ok (verdict.Batch b)) = 0
accepted_as (Err x) = 0

one-is-not-two : accept_live (Some (num 1)) ≡ accept_live (Some (num 2)) → ⊥
one-is-not-two e = let z : ◌≡◌ {A = ℕ} 1 2 = ap accepted_as e in omega (arith, z)

module _ (p : Port) (m : Meets p) where
  pub refusing-a-kind-is-ruled-out : (k : Kind) → RefusesKind k p → ⊥
  refusing-a-kind-is-ruled-out k u =
      true≢false
      (sym (u one (link_for k) empty)
      ∙ ap (λ (r : Ran). is_refused r.answer) (met p m (sample k) one (link_for k) empty ∙ ap (λ (t : Bool). outcome t (sample k) (world_of one (link_for k) empty)) (one-good k))
      ∙ not-refused k)

  pub refusing-each-is-ruled-out : RefusesEach p → ⊥
  refusing-each-is-ruled-out u = refusing-a-kind-is-ruled-out releases (u release_call)

  pub accepting-one-is-ruled-out : AcceptsOne p → ⊥
  accepting-one-is-ruled-out u = let z : ◌≡◌ {A = ℕ} 2 1 = u at seven (expecting 2) bound empty (num 2) (numbers-two p m) in omega (arith, z)

  pub expecting-the-same-is-ruled-out : KeepsExpecting p → ⊥
  expecting-the-same-is-ruled-out u =
      let e : Some (num 1) ≡ Some (num 2) = sym (u at seven (expecting 1) bound empty) ∙ ap (λ (r : Ran). r.world.session.inbound_next) (numbers-one p m) in
      let z : ◌≡◌ {A = ℕ} 1 2 = ap number_of e in
      omega (arith, z)

  pub changing-nothing-is-ruled-out : ChangesNothing p → ⊥
  changing-nothing-is-ruled-out u = expecting-the-same-is-ruled-out (λ now stamp s l q. ap (λ (w : World). w.session.inbound_next) (u (application_call now stamp) s l q))

  -- the record that the first message left is good, and expects 2
  second : (again p arrives (p arrives (expecting 1) bound empty)).answer ≡ accept_live (Some (num 2))
  unfolding sound config_fits list_of ring_list outs_of no_text on_application on_live number_live queued
  second =
      let r = p arrives (expecting 1) bound empty in
      let n = numbers-one p m in
      let d : Done r (record { world = world_of (expecting 2) bound empty; answer = accept_live (Some (num 1)) }) = rw (small-good None 1) at (m arrives (expecting 1) bound empty) in
      let g : good_record r.session r.link r.queue ≡ true = done-is-good r _ d refl in
      ap (λ (x : Ran). x.answer) (met p m arrives r.session r.link r.queue ∙ (λ i. outcome (g i) arrives (n i).world))

  pub echoing-is-ruled-out : Echoes p → ⊥
  echoing-is-ruled-out u =
      let first = ap (λ (r : Ran). r.answer) (numbers-one p m) in
      one-is-not-two (sym first ∙ sym (u at seven (expecting 1) bound empty (ap is_accept first)) ∙ second)

  pub invention-is-ruled-out : (count : Ran → ℕ) → Invents count p → ⊥
  invention-is-ruled-out count (c, s, l, q, more) = omega (arith, more, ap count (met p m c s l q))

  pub invented-gaps-are-ruled-out : Invents gaps_left p → ⊥
  invented-gaps-are-ruled-out = invention-is-ruled-out gaps_left

  pub invented-outputs-are-ruled-out : Invents outputs_left p → ⊥
  invented-outputs-are-ruled-out = invention-is-ruled-out outputs_left

  pub invented-missing-counts-are-ruled-out : Invents missing_left p → ⊥
  invented-missing-counts-are-ruled-out = invention-is-ruled-out missing_left

-- ---- an open that refuses each configuration
abbrev Open : Type 0
Open = SessionId → FlowType → FlowType → FixpConfig → Called

abbrev Opens : Open → Type 0
Opens o = (id : SessionId) (local remote : FlowType) (config : FixpConfig) → Done (o id local remote config) (opened_as (opening config) (opened id local remote) config)

pub refusing-each-open-is-ruled-out : (o : Open) → Opens o → ((id : SessionId) (local remote : FlowType) (config : FixpConfig) → is_refused (o id local remote config).answer ≡ true) → ⊥
unfolding config_fits
refusing-each-open-is-ruled-out o m u =
    true≢false (sym (u (record { 0 = 1; 1 = 1 }) flow.Recoverable flow.Recoverable small) ∙ ap (λ (r : Ran). is_refused r.answer) (m (record { 0 = 1; 1 = 1 }) flow.Recoverable flow.Recoverable small).is)
