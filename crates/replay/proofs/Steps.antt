-- An ordinary record: the few fields that are stored are what the rule book's call leaves.
use Rattle.std.specs.Prelude.{ℕ, Option, Some, Ok}
use mathlib.Core.Path.{◌≡◌, refl, ap, sym, subst, ◌∙◌}
use mathlib.Core.Bool.{Bool, true, false, ◌&&◌, ◌||◌}
use mathlib.Core.List.{List, []}
use native.Mathlib.Omega.{arith}
use borrow.Author.Tests.{le-leb, eqb-true}
use lib.ListN.{length}
use lib.Dec.{leb, ltb, eqb}
use Rattle.types.specs.States.{with_received, with_keepalive}
use Rattle.types.specs.Reasons.{reason_fits}
use Rattle.rules.specs.Names.{SeqNum, Nanotime, Instant, Reason, Link, Answer, Binding, Output, PeerMessage}
use Rattle.rules.specs.Names.peer
use Rattle.rules.specs.Names.bound
use Rattle.rules.specs.Names.verdict
use Rattle.rules.specs.State.{queued, closes, did, with_outbound}
use Rattle.rules.specs.Numbering.{next, accept_live, on_application}
use Rattle.rules.specs.Peer.{on_peer}
use Rattle.rules.specs.Local.{passes, send_refused, send_application}
use Rattle.rules.specs.Calls.{World, Call, peer_call, application_call, send_call, wrong, does, Ran, ran_as, ran_if, call, sound, has_room, config_fits, max_outs}
use Rattle.rings.specs.View.{sound_gaps}
use Rattle.queue.specs.View.{queue_of, outs_of, OutsWf}
use Rattle.queue.specs.declared.Outputs.{Outputs}
use Rattle.queue.proofs.Laws.{and_left, and_right}
use Rattle.session.specs.View.{view, SessWf}
use Rattle.session.specs.declared.Session.{Session}
use Rattle.calls.specs.View.{world_of, good_record}
use Rattle.calls.proofs.Laws.{good-session, good-queue, good-sound, within-bound}
use Rattle.fast.specs.Quick.{ready_record}
use Rattle.trace.specs.declared.records.Record.{Record}
use Rattle.trace.specs.declared.records.Entry.{Entry}
use Rattle.trace.specs.declared.records.Entry.TheVariants as entry
use Rattle.dispatch.specs.Entries.{call_of}
use Rattle.replay.specs.Run.{asks, emptied}
use Rattle.replay.specs.Ordinary.{QuickAs, link_heard, link_kept_alive}
use Rattle.replay.specs.declared.ordinary.Quick.TheVariants as quick
use Rattle.replay.proofs.Links.{then-bound}
use Rattle.replay.specs.Stepped.{Stepped}
use Rattle.replay.proofs.Runs.{no-outs}

-- ---- a record that is ready: refusals 1 and 7 do not come
or-false : (t : Bool) → t || false ≡ t
or-false true = refl
or-false false = refl

module _ (s : Session) (l : Link) (q : Outputs) (e : ready_record s l.reason q ≡ true) where
  before_head : config_fits s.config && sound_gaps s.gaps && reason_fits l.reason && eqb q.count 0 ≡ true
  unfolding ready_record
  before_head = and_left (config_fits s.config && sound_gaps s.gaps && reason_fits l.reason && eqb q.count 0) (ltb q.head max_outs) e

  ready-head : ltb q.head max_outs ≡ true
  unfolding ready_record
  ready-head = and_right (config_fits s.config && sound_gaps s.gaps && reason_fits l.reason && eqb q.count 0) (ltb q.head max_outs) e

  before-count : config_fits s.config && sound_gaps s.gaps && reason_fits l.reason ≡ true
  before-count = and_left (config_fits s.config && sound_gaps s.gaps && reason_fits l.reason) (eqb q.count 0) before_head

  ready-count : q.count ≡ 0
  ready-count = eqb-true q.count 0 (and_right (config_fits s.config && sound_gaps s.gaps && reason_fits l.reason) (eqb q.count 0) before_head)

  ready-outs : outs_of q ≡ []
  ready-outs = no-outs q ready-count

  ready-good : good_record s l q ≡ true
  unfolding good_record
  ready-good =
      let few : leb q.count max_outs ≡ true = le-leb q.count max_outs (omega (arith, ready-count)) in
      rw (before-count, ready-head, few, ready-outs)

  ready-room : has_room (queue_of q) ≡ true
  ready-room = rw (ready-outs)

  -- what the calls ask before their own tests
  pub ready-session : SessWf s
  ready-session = good-session s l q ready-good

  pub ready-queue : OutsWf q
  ready-queue = good-queue s l q ready-good

  ready-sound : sound (world_of s l q) ≡ true
  ready-sound = good-sound s l q ready-good

  -- a call that nothing refuses, whose rule keeps the binding and asks for no closing of the transport
  module _ (s' : Session) (b' : Binding) (o : List Output) (a : Answer) where
    abbrev after : Ran
    after = ran_as (queue_of q) l.reason (did (view s') b' o bound.Stay a)

    called : (r : Record) (c : Call) → asks r ≡ c → wrong c (world_of s l q) ≡ passes → does c (world_of s l q) ≡ after → call (asks r) (world_of s l q) ≡ after
    unfolding call
    called r c asked passed done = ap (λ (x : Call). call x (world_of s l q)) asked ∙ (λ i. ran_if (passed i) (done i) (world_of s l q))

    kept : closes o ≡ false → world_of s' (record { binding = Some b'; reason = l.reason }) q ≡ emptied after.world
    unfolding queued
    kept quiet = rw (ready-outs, quiet, or-false q.closing)

    added : length o ≡ length after.world.queue.outs
    unfolding queued
    added = rw (ready-outs)

    pub ordinary-steps : (r : Record) (c : Call) → asks r ≡ c → SessWf s' → closes o ≡ false → wrong c (world_of s l q) ≡ passes → does c (world_of s l q) ≡ after → Stepped r (world_of s l q) s' (record { binding = Some b'; reason = l.reason }) q a (length o)
    ordinary-steps r c asked wf quiet passed done =
        let ran = called r c asked passed done in
        record {
          session = wf;
          queue = ready-queue;
          world = kept quiet ∙ ap (λ (x : Ran). emptied x.world) (sym ran);
          answer = ap (λ (x : Ran). x.answer) (sym ran);
          outputs = added ∙ ap (λ (x : Ran). length x.world.queue.outs) (sym ran);
        }

  -- the three calls, bound
  module _ (b : Binding) (bound : l.binding ≡ Some b) where
    pub application-passes : (now : Instant) (stamp : Nanotime) → wrong (application_call now stamp) (world_of s l q) ≡ passes
    application-passes now stamp = rw (ready-sound, bound, ready-room)

    pub peer-passes : (now : Instant) (stamp : Nanotime) (m : PeerMessage) (text : Reason) → reason_fits text ≡ true → wrong (peer_call now stamp m text) (world_of s l q) ≡ passes
    peer-passes now stamp m text fits = rw (ready-sound, bound, fits, ready-room)

    pub send-passes : (now : Instant) → send_refused (view s) b ≡ passes → wrong (send_call now) (world_of s l q) ≡ passes
    send-passes now h = rw (ready-sound, bound, ready-room) h

-- ---- each ordinary record
-- the fields that an ordinary record may store
abbrev pub stored : SeqNum → Option SeqNum → Bool → Bool → Session → Session
stored outbound inbound start awaiting s =
    record {
      id = s.id;
      local_flow = s.local_flow;
      remote_flow = s.remote_flow;
      config = s.config;
      outbound_next = outbound;
      inbound_next = inbound;
      start_pending = start;
      gaps = s.gaps;
      outstanding = s.outstanding;
      replay = s.replay;
      awaiting_resume = awaiting;
      provider = s.provider;
      peer_finished = s.peer_finished;
      finalized = s.finalized;
    }

module _ (r : Record) (s : Session) (l : Link) (q : Outputs) where
  pub live-steps : (n : SeqNum) → QuickAs (quick.Live n) r s l q → Stepped r (world_of s l q) (stored s.outbound_next (Some (next n)) false s.awaiting_resume s) (link_heard r.now l) q (accept_live (Some n)) 0
  live-steps n h =
      let t = h.1 in
      let wf = ready-session s l q t.ready in
      let s' = stored s.outbound_next (Some (next n)) false s.awaiting_resume s in
      subst (λ (x : Link). Stepped r (world_of s l q) s' x q (accept_live (Some n)) 0) (then-bound (with_received r.now) l t.binding t.bound)
      (ordinary-steps s l q t.ready s' (with_received r.now t.binding) [] (accept_live (Some n)) r (application_call r.now r.stamp)
      (ap (λ (x : Entry). call_of x r.now r.stamp r.reason) h.0)
      (record { gaps = wf.gaps; pending = wf.pending })
      refl
      (application-passes s l q t.ready t.binding t.bound r.now r.stamp)
      (within-bound (world_of s l q) l.binding t.binding (on_application r.now r.stamp (view s)) l.reason t.bound
      ∙ ap (ran_as (queue_of q) l.reason) (t.does.does r.now r.stamp)))

  pub same-steps : QuickAs quick.Same r s l q → Stepped r (world_of s l q) (stored s.outbound_next s.inbound_next s.start_pending false s) (link_heard r.now l) q (Ok verdict.Done) 0
  same-steps t =
      let wf = ready-session s l q t.ready in
      let s' = stored s.outbound_next s.inbound_next s.start_pending false s in
      let m = peer.Sequence (record { next_seq_no = t.does.same.next }) in
      subst (λ (x : Link). Stepped r (world_of s l q) s' x q (Ok verdict.Done) 0) (then-bound (with_received r.now) l t.binding t.bound)
      (ordinary-steps s l q t.ready s' (with_received r.now t.binding) [] (Ok verdict.Done) r (peer_call r.now r.stamp m r.reason)
      (ap (λ (x : Entry). call_of x r.now r.stamp r.reason) (t.does.entered ∙ ap entry.Peer t.does.same.is))
      (record { gaps = wf.gaps; pending = wf.pending })
      refl
      (peer-passes s l q t.ready t.binding t.bound r.now r.stamp m r.reason t.fits)
      (within-bound (world_of s l q) l.binding t.binding (on_peer m r.now r.stamp l.reason r.reason (view s)) l.reason t.bound
      ∙ ap (ran_as (queue_of q) l.reason) (t.does.same.does r.now r.stamp l.reason r.reason)))

  pub sent-steps : (n : SeqNum) → QuickAs (quick.Sent n) r s l q → Stepped r (world_of s l q) (stored (next n) s.inbound_next s.start_pending s.awaiting_resume s) (link_kept_alive r.now l) q (Ok (verdict.Sent (Some n))) 0
  sent-steps n h =
      let t = h.1 in
      let wf = ready-session s l q t.ready in
      let s' = stored (next n) s.inbound_next s.start_pending s.awaiting_resume s in
      let d = t.does.does in
      subst (λ (x : Link). Stepped r (world_of s l q) s' x q (Ok (verdict.Sent (Some n))) 0) (then-bound (with_keepalive r.now) l t.binding t.bound)
      (ordinary-steps s l q t.ready s' (with_keepalive r.now t.binding) [] (Ok (verdict.Sent (Some n))) r (send_call r.now)
      (ap (λ (x : Entry). call_of x r.now r.stamp r.reason) h.0)
      (record { gaps = wf.gaps; pending = wf.pending })
      refl
      (send-passes s l q t.ready t.binding t.bound r.now d.passed)
      (within-bound (world_of s l q) l.binding t.binding (send_application r.now (view s)) l.reason t.bound
      ∙ ap (ran_as (queue_of q) l.reason) (d.does r.now
      ∙ ap (λ (x : SeqNum). did (with_outbound (next x) (view s)) (with_keepalive r.now t.binding) [] bound.Stay (Ok (verdict.Sent (Some x)))) (sym t.does.number))))

-- with a link that is the same
pub linked : {r : Record} {w : World} {s : Session} {l l' : Link} {q : Outputs} {a : Answer} {n : ℕ} → l ≡ l' → Stepped r w s l' q a n → Stepped r w s l q a n
linked {r = r} {w = w} {s = s} {q = q} {a = a} {n = n} e h = subst (λ (x : Link). Stepped r w s x q a n) (sym e) h
