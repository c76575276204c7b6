-- Each rule of the rule book where the ordinary case's tests hold. The function that makes these tests names its rule, and the check does the rest.
use Rattle.std.specs.Prelude.{if◌then◌else◌, Option, Some, None, Ok}
use Rattle.std.specs.Option.{is_some, option_eq}
use Rattle.fast.specs.Quick.{Live, Same, Sent, Idle, Header, Lost, Recovered, Asked}
use Prim.Native.Nat.{ℕ, ◌+◌, ◌-◌, ◌<◌, ◌≤◌}
use mathlib.Core.Path.{◌≡◌, refl, ap, sym, ◌∙◌}
use mathlib.Core.Bool.{Bool, true, false, not, false≢true}
use mathlib.Core.List.{List, [], ◌∷◌}
use native.Mathlib.Omega.{arith}
use lib.Dec.{leb, ltb, eqb}
use lib.ListN.{length}
use borrow.Author.Tests.{le-ltb, le-leb, lt-leb, leb-true, leb-false, ne_eqb, eq-eqb, eqb-true, ltb-true, not-true}
use Rattle.types.specs.Base.{all_ones, same_id}
use Rattle.types.specs.Flows.{is_sequenced, is_recoverable, carries_none}
use Rattle.types.specs.States.{is_closing, is_established, with_keepalive}
use Rattle.rules.specs.Names.{SeqNum, Nanotime, Instant, Binding, BindState, FlowType, Gap, Outstanding, Replay, Provider, Retransmission, RetransmitRequest}
use Rattle.rules.specs.Names.bound
use Rattle.rules.specs.Names.flow
use Rattle.rules.specs.Names.state
use Rattle.rules.specs.Names.verdict
use Rattle.rules.specs.State.{Sess, did, saying, answering, and_then, with_outbound}
use Rattle.rules.specs.Lists.{is_nil, front_of, rest}
use Rattle.rings.specs.declared.gaps.Gaps.{Gaps}
use Rattle.rings.specs.View.{sound_gaps, RingWf}
use Rattle.rings.proofs.GapLaws.{front-some, sound-wf}
use Rattle.rings.proofs.Laws.{nil-of}
use Rattle.rules.specs.Gaps.{record_gap, append_gap, received_in_overflow, consume_missing, drop_first}
use Rattle.rules.specs.Asking.{ask, request_missing, on_retransmission, in_range, recovered, complete_outstanding, maybe_finish_receiving}
use Rattle.rules.specs.Serving.{is_sent, serve, on_retransmit_request}
use Rattle.rules.specs.Numbering.{on_gap, gap_recorded, on_replayed, replay_after, replayed_counted, count_delivered, complete_if, next, on_application, on_live, number_live, allocate_outbound, on_next_seq, stop_replay, announced}
use Rattle.rules.specs.Peer.{on_peer}
use Rattle.rules.specs.Local.{passes, send_refused, send_application, retransmit_refused, retransmit, batch}
use Rattle.rules.specs.Deadlines.{deadline_in, timeout_in, is_due, earlier, silence_deadline, stall_deadline, heartbeat_deadline, next_deadline, stall_if_due, heartbeat_if_due, established_timeout, on_timeout}

-- ---- parts, flows and states
pub none-of : {A : Type 0} (o : Option A) → is_some o ≡ false → o ≡ None
none-of None e = refl
none-of (Some x) e = absurd (false≢true (sym e))

pub nil-if : {A : Type 0} (l : List A) → is_nil l ≡ true → l ≡ []
nil-if [] e = refl
nil-if (x ∷ l) e = absurd (false≢true e)

pub sequenced-carries : (f : FlowType) → is_sequenced f ≡ true → carries_none f ≡ false
sequenced-carries flow.Recoverable e = refl
sequenced-carries flow.Idempotent e = refl
sequenced-carries flow.Unsequenced e = refl
sequenced-carries flow.None e = absurd (false≢true e)

pub recoverable-is : (f : FlowType) → is_recoverable f ≡ true → f ≡ flow.Recoverable
recoverable-is flow.Recoverable e = refl
recoverable-is flow.Idempotent e = absurd (false≢true e)
recoverable-is flow.Unsequenced e = absurd (false≢true e)
recoverable-is flow.None e = absurd (false≢true e)

pub established-is : (x : BindState) → is_established x ≡ true → x ≡ state.Established
established-is state.Established e = refl
established-is (state.Terminating t k) e = absurd (false≢true e)
established-is (state.Closing d) e = absurd (false≢true e)

-- ---- a live message
pub live_rule : (n : SeqNum) (s : Sess) (b : Binding) → is_closing b.state ≡ false → s.awaiting_resume ≡ false → is_sequenced s.remote_flow ≡ true → is_some s.replay ≡ false → is_some s.peer_finished ≡ false → s.inbound_next ≡ Some n → (n.0 ≡ all_ones → ⊥) → Live (Some n) s b
unfolding on_application on_live number_live
live_rule n s b o waits sequenced p f i k = go s.remote_flow refl sequenced
  where
    go : (x : FlowType) → s.remote_flow ≡ x → is_sequenced x ≡ true → Live (Some n) s b
    go flow.Recoverable e y = λ now stamp. rw (o, none-of s.replay p, none-of s.peer_finished f, e, waits, i, ne_eqb n.0 all_ones k)
    go flow.Idempotent e y = λ now stamp. rw (o, none-of s.replay p, none-of s.peer_finished f, e, waits, i, ne_eqb n.0 all_ones k)
    go flow.Unsequenced e y = absurd (false≢true y)
    go flow.None e y = absurd (false≢true y)

-- ---- an announced number that is the expected one
pub same_rule : (t : Bool) (n : SeqNum) (s : Sess) (b : Binding) → is_closing b.state ≡ false → s.start_pending ≡ false → is_sequenced s.remote_flow ≡ true → (n.0 ≡ 0 → ⊥) → is_some s.replay ≡ false → is_some s.peer_finished ≡ false → t ≡ option_eq (λ x y. eqb x.0 y.0) s.inbound_next (Some n) → Same t n s b
unfolding on_peer on_next_seq stop_replay announced
same_rule true n s b o start flow z p f e = go s.inbound_next refl e
  where
    go : (x : Option SeqNum) → s.inbound_next ≡ x → true ≡ option_eq (λ x y. eqb x.0 y.0) x (Some n) → Same true n s b
    go None i y = absurd (false≢true (sym y))
    go (Some expected) i y =
        let k = eqb-true expected.0 n.0 (sym y) in
        λ now stamp reason text. rw (o, flow, ne_eqb n.0 0 z, none-of s.peer_finished f, none-of s.replay p, start, i, le-ltb n.0 expected.0 (omega (arith, k)), eq-eqb n.0 expected.0 (sym k))
same_rule false n s b o start flow z p f e = tt

-- ---- a message sent in sequence
-- nothing refuses it, in sequence or not
pub sent-passes : (s : Sess) (b : Binding) → is_established b.state ≡ true → is_sequenced s.local_flow ≡ true → s.peer_finished ≡ None → leb (all_ones - 1) s.outbound_next.0 ≡ false → send_refused s b ≡ passes
unfolding send_refused
sent-passes s b e flow f k = rw (e, f, sequenced-carries s.local_flow flow, flow, k)

-- and in sequence it takes its number, whatever else stands
pub sent-numbers : (now : Instant) (s : Sess) (b : Binding) → is_sequenced s.local_flow ≡ true → b.in_sequence ≡ true → send_application now s b ≡ did (with_outbound (next s.outbound_next) s) (with_keepalive now b) [] bound.Stay (Ok (verdict.Sent (Some s.outbound_next)))
unfolding send_application answering allocate_outbound
sent-numbers now s b flow i = rw (flow, i)

pub sent_rule : (t : Bool) (s : Sess) (b : Binding) → is_established b.state ≡ true → b.in_sequence ≡ true → is_sequenced s.local_flow ≡ true → is_some s.peer_finished ≡ false → t ≡ ltb s.outbound_next.0 (all_ones - 1) → Sent t s b
sent_rule true s b e i flow f k =
    record {
      passed = sent-passes s b e flow (none-of s.peer_finished f) (lt-leb (all_ones - 1) s.outbound_next.0 (ltb-true s.outbound_next.0 (all_ones - 1) (sym k)));
      does = λ now. sent-numbers now s b flow i;
    }
sent_rule false s b e i flow f k = tt

-- ---- nothing is due
pub neither-due : (a d : Option Instant) (now : Instant) → is_due (earlier a d) now ≡ false → (is_due a now ≡ false) × (is_due d now ≡ false)
neither-due None d now e = (refl, e)
neither-due (Some a) None now e = (e, refl)
neither-due (Some a) (Some b) now e = go (leb a.0 b.0) refl e
  where
    go : (t : Bool) → leb a.0 b.0 ≡ t → is_due (if t then Some a else Some b) now ≡ false → (leb a.0 now.0 ≡ false) × (leb b.0 now.0 ≡ false)
    go true l n = (n, lt-leb b.0 now.0 (omega (arith, leb-true a.0 b.0 l, leb-false a.0 now.0 n)))
    go false l n = (lt-leb a.0 now.0 (omega (arith, leb-false a.0 b.0 l, leb-false b.0 now.0 n)), n)

pub idle_rule : (t : Bool) (d : Option Instant) (now : Instant) (s : Sess) (b : Binding) → is_established b.state ≡ true → next_deadline s b ≡ d → t ≡ not (is_due d now) → Idle t now s b
unfolding on_timeout next_deadline established_timeout stall_if_due heartbeat_if_due and_then saying
idle_rule false d now s b e i k = tt
idle_rule true d now s b e i k =
    λ stamp reason.
    let x = established-is b.state e in
    let n = sym (ap (λ (u : BindState). is_due (deadline_in u s b) now) x) ∙ ap (λ (u : Option Instant). is_due u now) i ∙ not-true (is_due d now) (sym k) in
    let f = neither-due (silence_deadline s b) (earlier (heartbeat_deadline b) (stall_deadline s)) now n in
    let g = neither-due (heartbeat_deadline b) (stall_deadline s) now f.1 in
    ap (λ (u : BindState). timeout_in u now stamp reason s b) x ∙ rw (f.0, g.1, g.0)

-- no timer runs
pub idle_never : (now : Instant) (s : Sess) (b : Binding) → is_established b.state ≡ true → next_deadline s b ≡ None → Idle true now s b
idle_never now s b e i = idle_rule true None now s b e i refl

-- ---- the header of a batch
pub header_rule : (m : Retransmission) (o : Outstanding) (s : Sess) (b : Binding) → is_closing b.state ≡ false → is_recoverable s.remote_flow ≡ true → same_id m.session_id s.id ≡ true → s.outstanding ≡ Some o → eqb m.request_timestamp.0 o.timestamp.0 ≡ true → in_range m o ≡ true → Header (Some o) m s b
unfolding on_peer on_retransmission
header_rule m o s b c f i e t r = λ now stamp reason text. rw (c, f, i, e, t, r)

pub in-range : (m : Retransmission) (o : Outstanding) → 1 ≤ m.count → m.count + o.delivered ≤ o.count → m.next_seq_no.0 ≡ o.from.0 + o.delivered → in_range m o ≡ true
unfolding in_range
in-range m o a b e = rw (le-leb 1 m.count a, le-leb (m.count + o.delivered) o.count b, eq-eqb m.next_seq_no.0 (o.from.0 + o.delivered) e)

-- ---- the first gap
pub lost_rule : (stamp : Nanotime) (n expected : SeqNum) (s : Sess) (b : Binding) → is_established b.state ≡ true → s.start_pending ≡ false → is_recoverable s.remote_flow ≡ true → is_some s.replay ≡ false → is_some s.peer_finished ≡ false → is_some s.outstanding ≡ false → (stamp.0 ≡ all_ones → ⊥) → (s.config.max_pending_gaps ≡ 0 → ⊥) → is_nil s.gaps.missing ≡ true → s.inbound_next ≡ Some expected → expected.0 < n.0 → n.0 - expected.0 ≤ s.config.max_gap_len → Lost (Some (record { from = expected; end = n })) n stamp s b
unfolding on_peer on_next_seq stop_replay announced on_gap gap_recorded record_gap append_gap request_missing ask saying
lost_rule stamp n expected s b e start f p z out t k none i h l =
    λ now reason text. rw (established-is b.state e, recoverable-is s.remote_flow f, ne_eqb n.0 0 (λ y. omega (arith, y, h)), none-of s.peer_finished z, none-of s.replay p, start, i, le-ltb n.0 expected.0 (omega (arith, h)), ne_eqb n.0 expected.0 (λ y. omega (arith, y, h)), le-ltb s.config.max_gap_len (n.0 - expected.0) l, nil-if s.gaps.missing none, lt-leb s.config.max_pending_gaps 0 (omega (arith, k)), none-of s.outstanding out, lt-leb n.0 expected.0 h, ne_eqb stamp.0 all_ones t)

-- ---- all is recovered
-- the list of a sound record has a front to look at
pub sound_missing : (g : Gaps) → sound_gaps g ≡ true → RingWf g.missing
sound_missing g e = (sound-wf g e).missing

pub only_one : (l : List Gap) (g : Gap) → front_of l ≡ Some g → length l ≡ 1 → l ≡ g ∷ []
only_one l g e n =
    let o = front-some l g e in
    o ∙ ap (λ (u : List Gap). g ∷ u) (nil-of (rest l) (omega (arith, sym n ∙ ap length o)))

pub recovered_rule : (r : Replay) (o : Outstanding) (g : Gap) (s : Sess) (b : Binding) → is_established b.state ≡ true → is_some s.peer_finished ≡ false → s.replay ≡ Some r → r.remaining ≤ 1 → (r.next.0 ≡ all_ones → ⊥) → s.outstanding ≡ Some o → (o.delivered ≡ 4294967295 → ⊥) → (o.count ≡ 0 → ⊥) → o.count ≤ o.delivered + 1 → length s.gaps.overflow_received ≡ 0 → length s.gaps.missing ≡ 1 → front_of s.gaps.missing ≡ Some g → g.end.0 - g.from.0 ≤ o.count → Recovered (Some r.next) s b
unfolding on_application on_replayed count_delivered replay_after replayed_counted received_in_overflow complete_if complete_outstanding recovered maybe_finish_receiving consume_missing drop_first saying answering
recovered_rule r o g s b e f p last k out d z full runs one first w =
    λ now stamp. rw (established-is b.state e, p, ne_eqb r.next.0 all_ones k, le-leb r.remaining 1 last, out, ne_eqb o.delivered 4294967295 d, le-leb o.count (o.delivered + 1) full, nil-of s.gaps.overflow_received runs, only_one s.gaps.missing g first one, ne_eqb o.count 0 z, le-ltb (g.from.0 + o.count) g.end.0 (omega (arith, w)), none-of s.peer_finished f)

-- ---- serving
pub asked_rule : (t : Bool) (m : RetransmitRequest) (s : Sess) (b : Binding) → is_established b.state ≡ true → is_recoverable s.local_flow ≡ true → same_id m.session_id s.id ≡ true → is_some s.provider ≡ false → (m.count ≡ 0 → ⊥) → m.count ≤ s.config.max_retransmit_count → t ≡ is_sent m s → Asked t m s b
unfolding on_peer on_retransmit_request is_sent serve
asked_rule true m s b e f i v z l t =
    λ now stamp reason text. rw (established-is b.state e, f, i, none-of s.provider v, ne_eqb m.count 0 z, le-ltb s.config.max_retransmit_count m.count l, sym t)
asked_rule false m s b e f i v z l t = tt

pub is-sent : (m : RetransmitRequest) (s : Sess) → 1 ≤ m.from_seq_no.0 → m.from_seq_no.0 + m.count ≤ s.outbound_next.0 → is_sent m s ≡ true
unfolding is_sent
is-sent m s a b = rw (le-leb 1 m.from_seq_no.0 a, le-leb (m.from_seq_no.0 + m.count) s.outbound_next.0 b)

-- ---- a batch: nothing refuses it, and it is the rule's
pub batch_passes : (count : ℕ) (v : Provider) (s : Sess) (b : Binding) → is_established b.state ≡ true → s.provider ≡ Some v → v.sent + count ≤ v.count → v.sent ≤ all_ones - v.from.0 → v.from.0 ≤ all_ones → retransmit_refused count s b ≡ passes
unfolding retransmit_refused
batch_passes count v s b e p x y fits = rw (e, p, le-leb v.sent v.count (omega (arith, x)), le-leb count (v.count - v.sent) (omega (arith, x)), le-leb (v.from.0 + v.sent) all_ones (omega (arith, y, fits)))

pub batch_does : (now : Instant) (count : ℕ) (v : Provider) (s : Sess) (b : Binding) → s.provider ≡ Some v → retransmit now count s b ≡ batch now count v s b
unfolding retransmit
batch_does now count v s b p = rw p
