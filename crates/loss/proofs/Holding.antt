-- The invariant of a history, and that everything that happens keeps it: a live message finds its own number expected, and a message of
-- a batch finds that batch replayed.
use Rattle.std.specs.Prelude.{◌≡◌, Bool, not, ◌&&◌, length, drop, eqb, if◌then◌else◌, Option, Some, None, Ok, Err}
use Rattle.std.proofs.Math.Path.{refl, ap, subst}
use Rattle.std.proofs.Common.{sym, ◌∙◌, arith}
use mathlib.Core.List.{List, [], ◌∷◌, ◌++◌, append-nil}
use Rattle.std.proofs.Math.Bool.{true, false}
use Prim.Native.Nat.{ℕ, zero, suc, ◌+◌}
use Rattle.std.proofs.lemmas.Bool.{lt-leb}
use Rattle.types.specs.Base.{all_ones, same_id}
use Rattle.types.specs.Flows.{is_idempotent}
use Rattle.types.specs.States.{is_closing, with_received}
use Rattle.types.specs.Messages.{name_of}
use Rattle.types.specs.Reasons.{no_text}
use Rattle.rules.specs.Names.{SeqNum, Nanotime, Instant, Reason, Context, Retransmission, Event, Output, PeerMessage, Answer, Bound, Binding, Gap, Replay}
use Rattle.rules.specs.Names.name
use Rattle.rules.specs.Names.event as ev
use Rattle.rules.specs.Names.peer
use Rattle.rules.specs.Names.bound
use Rattle.rules.specs.Names.verdict
use Rattle.rules.specs.State.{Sess, Queue, queued, Did, did, stays, with_replay}
use Rattle.rules.specs.Outputs.{event, event_with}
use Rattle.rules.specs.Ending.{release_binding_state, violation}
use Rattle.rules.specs.Numbering.{discard, replay_after, is_peer_finished, on_next_seq, arrived_in, on_application}
use Rattle.rules.specs.Binding.{established, bind}
use Rattle.rules.specs.Peer.{on_context, is_accept, reporting, on_applied, on_not_applied, on_message, is_delivery, on_peer}
use Rattle.rules.specs.Local as local
use Rattle.rules.specs.Local.{Refused, passes, refuses, unless}
use Rattle.rules.specs.Deadlines.{on_timeout}
use Rattle.rules.specs.Calls as rules
use Rattle.rules.specs.Calls.{world, Call, bind_call, release_call, peer_call, application_call, send_call, terminate_call, retransmit_call, reject_call, end_call, timeout_call, wrong, link_after, ran_as, does, ran_if, call, reading, is_bound}
use Rattle.loss.specs.Seen.{ignores, heard, arrives, is_open, rejected_in, reported, added, number, noted, first_after}
use Rattle.loss.specs.History.{Truth, History, Happening, calls, polls, closes, drops_live, drops_tail, Kind, message, announces, heads, other, opens, ours, kind_of_message, kind_of, given_as, sent_as, after, within, ran, with_queue, step, run, MayArrive, Truthful, Allowed, Obeys}
use Rattle.loss.proofs.Count.{by-test, no}
use Rattle.loss.specs.Good.{NoReplay, Good, OnStay, Keeps}
use Rattle.loss.proofs.Good.{reported-app}
use Rattle.loss.specs.Asks.{Leaves}
use Rattle.loss.proofs.Asks.{keeps-leaves, did-keeps, stays-keeps, violation-keeps, release-good, header-keeps, reject-leaves}
use Rattle.loss.proofs.Numbers.{first_by, good-first, next-keeps}
use Rattle.loss.specs.Arrivals.{Runs}
use Rattle.loss.proofs.Arrivals.{leaves-runs, discarded, live-runs, replayed-runs}
use Rattle.loss.proofs.Steps.{served-keeps, heartbeat-keeps, terminated-keeps, send-keeps, terminate-keeps, retransmit-keeps, reject_request-keeps, end-keeps, timeout-keeps, finished-keeps, bind-keeps}
use Rattle.loss.specs.Holding.{If, Synced, Flies, Knows, Invariant, Carries}

-- ---- what the session knows
if-map : {A B : Type 0} (b : Bool) → (A → B) → If b A → If b B
if-map true f a = f a
if-map false f a = tt

if-true : {A : Type 0} (b : Bool) → b ≡ true → If b A → A
if-true true e a = a
if-true false e a = no (sym e)

sync-still : (t : ℕ) (x : Option SeqNum) (r : Option Replay) (z : Bool) → Synced t x r z → Synced t x None z
sync-still t x r z k = (tt, k.1)

-- nothing arrived
quiet : (kind : Kind) (p : Truth) (x : Option SeqNum) (r : Option Replay) (z : Bool) → Knows p x r z → Knows (after kind false p) x r z
quiet message p x r z k = at p.batch.left
  where
    at : (n : ℕ) → Knows (sent_as n false p) x r z
    at zero = (tt, tt)
    at (suc n) = (k.0, tt)
quiet (announces n) p x r z k = (k.0, tt)
quiet (heads n c) p x r z k = (k.0, tt)
quiet other p x r z k = (k.0, tt)
quiet (opens n) p x r z k = k
quiet ours p x r z k = k

-- not open: what was told and the batch are gone
within-knows : (o : Bool) (p : Truth) (x : Option SeqNum) (r : Option Replay) (z : Bool) → If o (Knows p x r z) → Knows (within o p) x r z
within-knows true p x r z k = k
within-knows false p x r z k = (tt, tt)

-- ---- what a call adds to the queue
drop_app : (l m : List Output) → drop (length l) (l ++ m) ≡ m
drop_app [] m = refl
drop_app (o ∷ l) m = drop_app l m

added-queued : (q : Queue) (l : List Output) → added q (queued q l) ≡ l
unfolding added queued
added-queued q l = drop_app q.outs l

added_none : (q : Queue) → added q q ≡ []
unfolding added
added_none q = ap (drop (length q.outs)) (sym (append-nil q.outs)) ∙ drop_app q.outs []

-- ---- a call
ran-holds : (h : History) (kind : Kind) (arrived : Bool) (reason : Reason) (d : Did) → Carries h kind arrived d → Invariant (ran kind arrived (ran_as h.world.queue reason d) h)
unfolding ran
ran-holds h kind arrived reason d r =
    record {
      sound = subst (λ (l : List Output). Good d.session (first_after (is_accept d.answer) h.world.session.start_pending (number d.session.inbound_next) h.first) (noted d.answer (given_as h.peer.batch.left h.peer) h.accepted) (reported l ++ h.rejected)) (sym (added-queued h.world.queue d.outs)) r.good;
      knows = at d.bound r.holds;
      given = r.given;
    }
  where
    p : Truth
    p = after kind arrived h.peer

    any : {A : Type 0} (o : Bool) → A → If o A
    any true a = a
    any false a = tt

    at : (u : Bound) → OnStay u (Knows p d.session.inbound_next d.session.replay (is_peer_finished d.session.peer_finished)) → Knows (within (is_open (link_after u d.binding reason).binding) p) d.session.inbound_next d.session.replay (is_peer_finished d.session.peer_finished)
    at bound.Stay k = within-knows (not (is_closing d.binding.state)) p d.session.inbound_next d.session.replay (is_peer_finished d.session.peer_finished) (any (not (is_closing d.binding.state)) k)
    at bound.Unbind k = (tt, tt)

-- a call that changes nothing
same-holds : (h : History) (kind : Kind) (arrived : Bool) (a : Answer) → is_accept a ≡ false → Invariant h →
    If (is_open h.world.link.binding) (Knows (after kind arrived h.peer) h.world.session.inbound_next h.world.session.replay (is_peer_finished h.world.session.peer_finished)) →
    Invariant (ran kind arrived (record { world = h.world; answer = a }) h)
unfolding ran
same-holds h kind arrived a e i k =
    let l = leaves-runs h.world.session.start_pending h.first (given_as h.peer.batch.left h.peer) h.accepted h.rejected (λ x r z. Unit {0}) i.given d
    (record { good = good-first h.accepted h.rejected h.first (λ x r z. Unit {0}) h.world.session i.sound; plain = e; holds = tt }) in
    record {
      sound = subst (λ (x : List Output). Good h.world.session (first_after (is_accept a) h.world.session.start_pending (number h.world.session.inbound_next) h.first) (noted a (given_as h.peer.batch.left h.peer) h.accepted) (reported x ++ h.rejected)) (sym (added_none h.world.queue)) l.good;
      knows = within-knows (is_open h.world.link.binding) _ h.world.session.inbound_next h.world.session.replay (is_peer_finished h.world.session.peer_finished) k;
      given = l.given;
    }
  where
    d : Did
    d = did h.world.session (established (record { 0 = 0 }) 0 0) [] bound.Unbind a

-- ---- messages of the peer, in a binding that is not closing
module _ (h : History) (i : Invariant h) where
  abbrev s : Sess
  s = h.world.session

  abbrev p : Truth
  p = h.peer

  abbrev gave : ℕ
  gave = given_as h.peer.batch.left h.peer

  -- what is to hold after a call of this kind
  abbrev Q : Kind → Bool → Option SeqNum → Option Replay → Bool → Type 0
  Q kind arrived x r z = Knows (after kind arrived h.peer) x r z

  abbrev F : Option SeqNum → ℕ
  F = first_by h.accepted h.rejected h.first (λ x r z. Unit {0}) h.world.session.start_pending

  first_good : Good s (F s.inbound_next) h.accepted h.rejected
  first_good = good-first h.accepted h.rejected h.first (λ x r z. Unit {0}) s i.sound

  leaves-ok : (kind : Kind) (arrived : Bool) (d : Did) → Leaves h.accepted h.rejected F (Q kind arrived) d → Carries h kind arrived d
  leaves-ok kind arrived d l = leaves-runs s.start_pending h.first gave h.accepted h.rejected (Q kind arrived) i.given d l

  keeps-ok : (kind : Kind) (arrived : Bool) (d : Did) → Keeps h.accepted h.rejected F (Q kind arrived) d → Carries h kind arrived d
  keeps-ok kind arrived d k = leaves-ok kind arrived d (keeps-leaves h.accepted h.rejected F (Q kind arrived) d k)

  bad : (kind : Kind) (n : ℕ) (b : Binding) → Keeps h.accepted h.rejected F (Q kind true) (violation n s b)
  bad kind n b = violation-keeps h.accepted h.rejected F (Q kind true) n s b first_good

  -- what the peer says beside its numbers
  other-now : Q other true s.inbound_next s.replay (is_peer_finished s.peer_finished)
  other-now = (i.knows.0, tt)

  other-still : Q other true s.inbound_next None (is_peer_finished s.peer_finished)
  other-still = (if-map p.told (sync-still p.next s.inbound_next s.replay (is_peer_finished s.peer_finished)) i.knows.0, tt)

  other-finished : (x : Option SeqNum) (r : Option Replay) → NoReplay r → Q other true x r true
  other-finished x r n = (any p.told, tt)
    where
      any : (t : Bool) → If t (NoReplay r × Unit {0})
      any true = (n, tt)
      any false = tt

  -- a true number
  told-now : (n : ℕ) (z : Bool) → n ≡ p.next → (y : SeqNum) → y.0 ≡ n → Q (announces n) true (Some y) None z
  told-now n true e y u = ((tt, tt), tt)
  told-now n false e y u = ((tt, u ∙ e), tt)

  sequence-ok : (now : Instant) (stamp : Nanotime) (n : SeqNum) (b : Binding) → n.0 ≡ p.next → Carries h (announces n.0) true (on_next_seq now stamp n s b)
  sequence-ok now stamp n b e =
      keeps-ok (announces n.0) true (on_next_seq now stamp n s b)
      (next-keeps h.accepted h.rejected h.first (Q (announces n.0) true) now stamp n s b (told-now n.0 (is_peer_finished s.peer_finished) e) i.sound)

  -- a Context announces if it is of this session and below 2^64-1
  context-ok : (now : Instant) (stamp : Nanotime) (m : Context) (b : Binding) (a e : Bool) → Truthful (if a && not e then announces m.next_seq_no.0 else other) p →
      Carries h (if a && not e then announces m.next_seq_no.0 else other) true (if not a then violation 2 s b else (if e then stays s b [] else on_next_seq now stamp m.next_seq_no s b))
  context-ok now stamp m b false e t = keeps-ok other true (violation 2 s b) (bad other 2 b)
  context-ok now stamp m b true true t = keeps-ok other true (stays s b []) (stays-keeps h.accepted h.rejected F (Q other true) s b [] first_good other-now refl)
  context-ok now stamp m b true false t = sequence-ok now stamp m.next_seq_no b t

  -- ---- application messages
  flies-left : (n k : ℕ) (r : Replay) → r.next.0 ≡ n → r.remaining ≡ suc k → Flies k (n + 1) (replay_after r)
  unfolding replay_after
  flies-left n zero r e u = tt
  flies-left n (suc k) r e u = rw (lt-leb r.remaining 1 (omega arith)) (ap (λ (j : ℕ). j + 1) e, omega arith)

  -- while a batch is replayed no number is told
  untold : (A : Type 0) (t : Bool) (r : Replay) (x : Option SeqNum) (z : Bool) → If t (Synced p.next x (Some r) z) → If t A
  untold A true r x z k = absurd k.0
  untold A false r x z k = tt

  expecting : (z : Bool) → z ≡ false → If (not z) (number s.inbound_next ≡ p.next) → number s.inbound_next ≡ p.next
  expecting true e k = no e
  expecting false e k = k

  -- k: what is left of the batch under way; r: what the session replays
  arrived-ok : (now : Instant) (stamp : Nanotime) (b : Binding) (k : ℕ) (r : Option Replay) → MayArrive k p.told → If p.told (Synced p.next s.inbound_next r (is_peer_finished s.peer_finished)) → Flies k p.batch.next r → Good (with_replay r s) h.first h.accepted h.rejected →
      Runs s.start_pending h.first (given_as k p) h.accepted h.rejected (λ x r z. Knows (sent_as k true p) x r z) (arrived_in r now stamp (with_replay r s) b)
  arrived-ok now stamp b zero None t y f g =
      let w = if-true p.told t y in
      live-runs s.start_pending h.first p.next h.accepted h.rejected (λ x r z. Knows (sent_as zero true p) x r z) i.given
      (λ y u. ((tt, u), tt)) s b g (λ e. expecting (is_peer_finished s.peer_finished) e w.1)
  arrived-ok now stamp b zero (Some r) t y f g = absurd (if-true p.told t y).0
  arrived-ok now stamp b (suc k) None t y f g = absurd f
  arrived-ok now stamp b (suc k) (Some r) t y f g =
      replayed-runs now stamp s.start_pending h.first p.batch.next h.accepted h.rejected (λ x r z. Knows (sent_as (suc k) true p) x r z) i.given s.outstanding r s b g f.0
      (untold _ p.told r s.inbound_next (is_peer_finished s.peer_finished) y, flies-left p.batch.next k r f.0 f.1)

  application-ok : (now : Instant) (stamp : Nanotime) (b : Binding) → is_closing b.state ≡ false → Truthful message p → Carries h message true (on_application now stamp s b)
  unfolding on_application
  application-ok now stamp b e t =
      by-test (Carries h message true) (is_closing b.state) (λ u. no (sym u ∙ e))
      (λ u. arrived-ok now stamp (with_received now b) p.batch.left s.replay t i.knows.0 i.knows.1 i.sound)

  -- the event of an accepted Applied or NotApplied names no rejection
  reporting-ok : (e : Event) (d : Did) → rejected_in e ≡ [] → Carries h message true d → Carries h message true (reporting e d)
  unfolding reporting
  reporting-ok e d n r =
      by-test (Carries h message true) (is_accept d.answer)
      (λ t. record {
        good = subst (λ (l : List Gap). Good d.session (first_after (is_accept d.answer) s.start_pending (number d.session.inbound_next) h.first) (noted d.answer gave h.accepted) (l ++ h.rejected)) (sym same) r.good;
        given = r.given;
        holds = r.holds;
      })
      (λ t. r)
    where
      same : reported (d.outs ++ (event e ∷ [])) ≡ reported d.outs
      same = reported-app d.outs (event e ∷ []) ∙ ap (λ (l : List Gap). reported d.outs ++ (l ++ [])) n ∙ append-nil (reported d.outs)

  applied-ok : (now : Instant) (stamp : Nanotime) (e : Event) (b : Binding) → rejected_in e ≡ [] → is_closing b.state ≡ false → Truthful message p → Carries h message true (on_applied now stamp e s b)
  unfolding on_applied
  applied-ok now stamp e b n u t = reporting-ok e (on_application now stamp s b) n (application-ok now stamp b u t)

  not_applied-ok : (now : Instant) (stamp : Nanotime) (e : Event) (b : Binding) → rejected_in e ≡ [] → is_closing b.state ≡ false → Truthful message p → Carries h message true (on_not_applied now stamp e s b)
  unfolding on_not_applied
  not_applied-ok now stamp e b n u t =
      by-test (Carries h message true) (not (is_idempotent s.local_flow))
      (λ v. discarded s.start_pending h.first gave h.accepted h.rejected (Q message true) i.given (violation 4 s b) (bad message 4 b))
      (λ v. applied-ok now stamp e b n u t)

  -- ---- every message of the peer
  flies-whole : (m : Retransmission) (k : ℕ) → k ≡ m.count → Flies k m.next_seq_no.0 (Some (record { next = m.next_seq_no; remaining = m.count }))
  flies-whole m zero e = tt
  flies-whole m (suc k) e = (refl, sym e)

  message-ok : (m : PeerMessage) (now : Instant) (stamp : Nanotime) (reason text : Reason) (b : Binding) → is_closing b.state ≡ false → Truthful (kind_of_message s.id m) p → Carries h (kind_of_message s.id m) true (on_message m now stamp reason text s b)
  unfolding on_context
  message-ok peer.Topic now stamp reason text b u t = keeps-ok other true (violation 5 s b) (bad other 5 b)
  message-ok (peer.Sequence m) now stamp reason text b u t = sequence-ok now stamp m.next_seq_no b t
  message-ok (peer.Context m) now stamp reason text b u t = context-ok now stamp m b (same_id m.session_id s.id) (eqb m.next_seq_no.0 all_ones) t
  message-ok peer.UnsequencedHeartbeat now stamp reason text b u t = keeps-ok other true _ (heartbeat-keeps h.accepted h.rejected F (Q other true) s b first_good other-now)
  message-ok (peer.RetransmitRequest m) now stamp reason text b u t = keeps-ok other true _ (served-keeps h.accepted h.rejected F (Q other true) m s b first_good other-now)
  message-ok (peer.Retransmission m) now stamp reason text b u t =
      keeps-ok (heads m.next_seq_no.0 m.count) true _ (header-keeps h.accepted h.rejected F (Q (heads m.next_seq_no.0 m.count) true) now m s b first_good (tt, flies-whole m m.count refl))
  message-ok (peer.RetransmitReject m) now stamp reason text b u t = leaves-ok other true _ (reject-leaves h.accepted h.rejected F (Q other true) now stamp m text s b first_good other-now other-still)
  message-ok (peer.Terminate m) now stamp reason text b u t = keeps-ok other true _ (terminated-keeps h.accepted h.rejected F (Q other true) now reason m text s b first_good other-now other-still)
  message-ok (peer.FinishedSending m) now stamp reason text b u t = keeps-ok other true _ (finished-keeps h.accepted h.rejected h.first (Q other true) now stamp m s b i.sound other-now other-finished)
  message-ok peer.FinishedReceiving now stamp reason text b u t = keeps-ok other true (violation 6 s b) (bad other 6 b)
  message-ok (peer.Applied m) now stamp reason text b u t = applied-ok now stamp (ev.Applied m.from_seq_no m.count) b refl u t
  message-ok (peer.NotApplied m) now stamp reason text b u t = not_applied-ok now stamp (ev.NotApplied m.from_seq_no m.count) b refl u t
  message-ok peer.MessageTemplate now stamp reason text b u t = keeps-ok other true (stays s b []) (stays-keeps h.accepted h.rejected F (Q other true) s b [] first_good other-now refl)

  -- a message that is ignored did not arrive
  ignored-ok : (kind : Kind) (b : Binding) (o : Output) (a : Answer) → reported (o ∷ []) ≡ [] → is_accept a ≡ false → Carries h kind false (did s b (o ∷ []) bound.Stay a)
  ignored-ok kind b o a e t =
      keeps-ok kind false (did s b (o ∷ []) bound.Stay a)
      (did-keeps h.accepted h.rejected F (Q kind false) s b (o ∷ []) bound.Stay a first_good (quiet kind p s.inbound_next s.replay (is_peer_finished s.peer_finished) i.knows) e t)

  peer-ok : (m : PeerMessage) (now : Instant) (stamp : Nanotime) (reason text : Reason) (b : Binding) → (not (is_closing b.state) ≡ true → Truthful (kind_of_message s.id m) p) →
      Carries h (kind_of_message s.id m) (not (is_closing b.state)) (on_peer m now stamp reason text s b)
  unfolding on_peer
  peer-ok m now stamp reason text b t = go (is_closing b.state) refl t
    where
      quietly : (x : Bool) → is_accept (if x then discard else (Ok verdict.Done)) ≡ false
      quietly true = refl
      quietly false = refl

      go : (z : Bool) → is_closing b.state ≡ z → (not z ≡ true → Truthful (kind_of_message s.id m) p) →
          Carries h (kind_of_message s.id m) (not z) (if z then did s b (event_with (ev.Ignored (name_of m)) 1 ∷ []) bound.Stay (if is_delivery m then discard else (Ok verdict.Done)) else on_message m now stamp reason text s (with_received now b))
      go true u t = ignored-ok (kind_of_message s.id m) b _ _ refl (quietly (is_delivery m))
      go false u t = message-ok m now stamp reason text (with_received now b) u (t refl)

  live-ok : (now : Instant) (stamp : Nanotime) (b : Binding) → (not (is_closing b.state) ≡ true → Truthful message p) → Carries h message (not (is_closing b.state)) (on_application now stamp s b)
  unfolding on_application
  live-ok now stamp b t = go (is_closing b.state) refl t
    where
      go : (z : Bool) → is_closing b.state ≡ z → (not z ≡ true → Truthful message p) → Carries h message (not z) (if z then did s b (event_with (ev.Ignored name.ApplicationMessage) 1 ∷ []) bound.Stay discard else arrived_in s.replay now stamp s (with_received now b))
      go true u t = ignored-ok message b _ _ refl refl
      go false u t = arrived-ok now stamp (with_received now b) p.batch.left s.replay (t refl) i.knows.0 i.knows.1 i.sound

  -- ---- a binding opens
  bind_ok : (now : Instant) (stamp : Nanotime) (l r : ℕ) (x : Option SeqNum) (arrived : Bool) → (arrived ≡ true → Truthful (opens x) p) → arrived ≡ true → Carries h (opens x) arrived (bind now stamp l r x s)
  bind_ok now stamp l r x false t e = no (sym e)
  bind_ok now stamp l r None true t e = keeps-ok (opens None) true _ (bind-keeps h.accepted h.rejected h.first (Q (opens None) true) now stamp l r None s i.sound (tt, tt))
  bind_ok now stamp l r (Some n) true t e = keeps-ok (opens (Some n)) true _ (bind-keeps h.accepted h.rejected h.first (Q (opens (Some n)) true) now stamp l r (Some n) s i.sound (told-now n.0 (is_peer_finished s.peer_finished) (t refl)))

  -- ---- every call
  If-any : {A : Type 0} (o : Bool) → A → If o A
  If-any true a = a
  If-any false a = tt

  -- a call in a binding
  in-link : (kind : Kind) (k : Binding → Did) (reason : Reason) → ((b : Binding) → (not (is_closing b.state) ≡ true → Truthful kind p) → Carries h kind (not (is_closing b.state)) (k b)) →
      (m : Option Binding) → m ≡ h.world.link.binding → (not (ignores m) ≡ true → Truthful kind p) → Invariant (ran kind (not (ignores m)) (rules.within h.world m k reason) h)
  in-link kind k reason f None q t =
      same-holds h kind true (Ok verdict.Done) refl i
      (subst (λ (m : Option Binding). If (is_open m) (Knows (after kind true p) s.inbound_next s.replay (is_peer_finished s.peer_finished))) q tt)
  in-link kind k reason f (Some b) q t = ran-holds h kind (not (is_closing b.state)) reason (k b) (f b t)

  -- a bind that is not refused finds no binding
  abbrev Passed : Refused → Type 0
  Passed passes = Unit {0}
  Passed (refuses r) = ⊥

  unignored : (a c : Bool) (x y z : _) (m : Option Binding) → Passed (unless a x (unless (not (is_bound m)) y (unless c z passes))) → not (ignores m) ≡ true
  unignored true c x y z None w = refl
  unignored true c x y z (Some b) w = absurd w
  unignored false c x y z m w = absurd w

  release-call : (arrived : Bool) → Invariant (ran ours arrived (does release_call h.world) h)
  unfolding ran
  release-call arrived =
      record {
        sound = subst (λ (l : List Output). Good (release_binding_state s) (F (release_binding_state s).inbound_next) h.accepted (reported l ++ h.rejected)) (sym (added_none h.world.queue)) (release-good h.accepted h.rejected F (λ x r z. Unit {0}) s first_good);
        knows = (tt, tt);
        given = i.given;
      }

  passed-holds : (c : Call) → Passed (wrong c h.world) → (not (ignores h.world.link.binding) ≡ true → Truthful (kind_of s.id c) p) → Invariant (ran (kind_of s.id c) (not (ignores h.world.link.binding)) (does c h.world) h)
  passed-holds (bind_call now stamp l r x) e t =
      ran-holds h (opens x) (not (ignores h.world.link.binding)) no_text (bind now stamp l r x s)
      (bind_ok now stamp l r x (not (ignores h.world.link.binding)) t (unignored (rules.sound h.world) (rules.has_room h.world.queue) _ _ _ h.world.link.binding e))
  passed-holds release_call e t = release-call (not (ignores h.world.link.binding))
  passed-holds (peer_call now stamp m text) e t = in-link (kind_of_message s.id m) (on_peer m now stamp h.world.link.reason text s) h.world.link.reason (λ b u. peer-ok m now stamp h.world.link.reason text b u) h.world.link.binding refl t
  passed-holds (application_call now stamp) e t = in-link message (on_application now stamp s) h.world.link.reason (λ b u. live-ok now stamp b u) h.world.link.binding refl t
  passed-holds (send_call now) e t = in-link ours (local.send_application now s) h.world.link.reason (λ b u. keeps-ok ours true _ (send-keeps h.accepted h.rejected F (Q ours true) now s b first_good i.knows)) h.world.link.binding refl t
  passed-holds (terminate_call now c text) e t = in-link ours (local.terminate now c text s) text (λ b u. keeps-ok ours true _ (terminate-keeps h.accepted h.rejected F (Q ours true) now c text s b first_good i.knows)) h.world.link.binding refl t
  passed-holds (retransmit_call now count) e t = in-link ours (local.retransmit now count s) h.world.link.reason (λ b u. keeps-ok ours true _ (retransmit-keeps h.accepted h.rejected F (Q ours true) now count s b first_good i.knows)) h.world.link.binding refl t
  passed-holds (reject_call c text) e t = in-link ours (local.reject_retransmit_request c text s) h.world.link.reason (λ b u. keeps-ok ours true _ (reject_request-keeps h.accepted h.rejected F (Q ours true) c text s b first_good i.knows)) h.world.link.binding refl t
  passed-holds end_call e t = in-link ours (local.end_retransmission s) h.world.link.reason (λ b u. keeps-ok ours true _ (end-keeps h.accepted h.rejected F (Q ours true) s b first_good i.knows)) h.world.link.binding refl t
  passed-holds (timeout_call now stamp) e t =
      in-link ours (on_timeout now stamp h.world.link.reason s) h.world.link.reason
      (λ b u. keeps-ok ours true _ (timeout-keeps h.accepted h.rejected F (Q ours true) now stamp h.world.link.reason s b first_good i.knows)) h.world.link.binding refl t

  call-holds : (c : Call) → Allowed h (calls c) → Invariant (step h (calls c))
  unfolding Allowed step arrives call
  call-holds c t = go (wrong c h.world) (λ w. w) t
    where
      go : (r : Refused) → (Passed r → Passed (wrong c h.world)) → (heard r h.world.link.binding ≡ true → Truthful (kind_of s.id c) p) → Invariant (ran (kind_of s.id c) (heard r h.world.link.binding) (ran_if r (does c h.world) h.world) h)
      go (refuses x) e t = same-holds h (kind_of s.id c) false (Err x) refl i (If-any (is_open h.world.link.binding) (quiet (kind_of s.id c) p s.inbound_next s.replay (is_peer_finished s.peer_finished) i.knows))
      go passes e t = passed-holds c (e tt) t

  queue-holds : (r : Refused) (q : Queue) → Invariant (with_queue r q h)
  queue-holds passes q = record { sound = i.sound; knows = i.knows; given = i.given }
  queue-holds (refuses x) q = i

  pub step-holds : (x : Happening) → Allowed h x → Invariant (step h x)
  unfolding step
  step-holds (calls c) t = call-holds c t
  step-holds polls t = queue-holds (reading h.world) (rules.polled h.world.queue)
  step-holds closes t = queue-holds (reading h.world) (rules.transport_closed h.world.queue)
  step-holds drops_live t = record { sound = i.sound; knows = (tt, i.knows.1); given = i.given }
  step-holds drops_tail t = record { sound = i.sound; knows = (i.knows.0, tt); given = i.given }

pub run_holds : (xs : List Happening) (h : History) → Invariant h → Obeys h xs → Invariant (run h xs)
unfolding run Obeys
run_holds [] h i o = i
run_holds (x ∷ xs) h i o = run_holds xs (step h x) (step-holds h i x o.0) o.1
