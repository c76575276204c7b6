-- How a call's answer follows from its tests: a bad record, no binding, no room, and else the step.
use Rattle.std.specs.Prelude.{if◌then◌else◌, Option, None, Some, Ok, Err}
use Prim.Native.Nat.{ℕ, ◌≤◌}
use mathlib.Core.Path.{◌≡◌, refl, ap, sym, ◌∙◌}
use mathlib.Core.Bool.{Bool, true, false, ◌&&◌, true≢false, false≢true}
use mathlib.Core.List.{[]}
use native.Mathlib.Omega.{arith}
use lib.ListN.{length}
use lib.Dec.{leb, ltb}
use borrow.Author.Tests.{leb-true, le-leb}
use Rattle.types.specs.Flows.{is_sequenced}
use Rattle.types.specs.Reasons.{reason_fits}
use Rattle.types.specs.States.{with_keepalive}
use Rattle.rules.specs.Names.{Link, Reason, Refusal, Verdict, Binding, FixpConfig}
use Rattle.rules.specs.Names.{Instant, TerminationCode, RetransmitRejectCode, Provider}
use Rattle.rules.specs.Names.bound
use Rattle.rules.specs.Names.code
use Rattle.rules.specs.Names.refusal
use Rattle.rules.specs.Names.verdict
use Rattle.rules.specs.State.{Sess, Did, did, answering}
use Rattle.rules.specs.Gaps.{max_gaps, max_runs}
use Rattle.rules.specs.Local.{Refused, passes, refuses, unless, kept_alive, send_application, terminate, retransmit, batch, batch_at, reject_retransmit_request, reject_at, end_retransmission}
use Rattle.rules.specs.Numbering.{allocate_outbound}
use Rattle.rules.specs.Calls.{World, Ran, ran_as, link_after, within, config_fits, sound, texts_fit, max_outs}
use Rattle.rings.specs.View.{sound_gaps, list_of}
use Rattle.rings.proofs.GapLaws.{sound-wf}
use Rattle.rings.proofs.GapLaws as gaps
use Rattle.queue.specs.View.{queue_of, outs_of, OutsWf, sound_outs}
use Rattle.queue.specs.declared.Outputs.{Outputs}
use Rattle.queue.proofs.Laws.{and_left, and_right, sound-outs, outs-length}
use Rattle.session.specs.View.{SessWf, StepIs, After, LocalIs, refused_step}
use Rattle.session.specs.declared.Session.{Session}
use Rattle.session.specs.declared.Step.{Step}
use Rattle.calls.specs.View.{world_of, good_record, Ready, Done, Unchanged, AnsweredBy, of_good, called_of}
use Rattle.types.specs.Answers.{is_refused}
use Rattle.calls.specs.declared.Called.{Called}

-- ---- the record
-- a configuration in its range allows few enough gaps that one more has a place
pub config-pending : (g : FixpConfig) → config_fits g ≡ true → g.max_pending_gaps ≤ 64
unfolding config_fits
config-pending g e = leb-true _ _ (and_right _ _ e)

module _ (s : Session) (l : Link) (q : Outputs) (e : good_record s l q ≡ true) where
  outs-ok : sound_outs q ≡ true
  unfolding good_record
  outs-ok = and_right _ _ e

  reason-ok : reason_fits l.reason ≡ true
  unfolding good_record
  reason-ok = and_right _ _ (and_left _ _ e)

  gaps-ok : sound_gaps s.gaps ≡ true
  unfolding good_record
  gaps-ok = and_right _ _ (and_left _ _ (and_left _ _ e))

  config-ok : config_fits s.config ≡ true
  unfolding good_record
  config-ok = and_left _ _ (and_left _ _ (and_left _ _ e))

  -- what the steps ask of a session and of a queue
  pub good-queue : OutsWf q
  good-queue = sound-outs q outs-ok

  pub good-session : SessWf s
  good-session = record { gaps = sound-wf s.gaps gaps-ok; pending = config-pending s.config config-ok }

  pub good-ready : Ready s l q l.binding 0
  good-ready = record { session = good-session; queue = good-queue; binding = refl; room = omega (arith, outs-length q, good-queue.count_in) }

  -- what the rules ask of a world
  pub good-sound : sound (world_of s l q) ≡ true
  unfolding sound
  good-sound =
      let g = sound-wf s.gaps gaps-ok in
      let m : leb (length (list_of s.gaps.missing)) max_gaps ≡ true = le-leb (length (list_of s.gaps.missing)) max_gaps (omega (arith, gaps.ring_length s.gaps.missing, g.missing.count_in)) in
      let r : leb (length (list_of s.gaps.overflow_received)) max_runs ≡ true = le-leb (length (list_of s.gaps.overflow_received)) max_runs (omega (arith, gaps.ring_length s.gaps.overflow_received, g.overflow_received.count_in)) in
      let o : leb (length (outs_of q)) max_outs ≡ true = le-leb (length (outs_of q)) max_outs (omega (arith, outs-length q, good-queue.count_in)) in
      let t : texts_fit (outs_of q) ≡ true = and_right (ltb q.head max_outs && leb q.count max_outs) (texts_fit (outs_of q)) outs-ok in
      rw (config-ok, m, r, reason-ok, o, t)

  -- with the record good, the other refusals are next
  pub of-good : (x : Refusal) (rest : Refused) → of_good (good_record s l q) (unless (sound (world_of s l q)) x rest) ≡ rest
  of-good x rest = rw (e, good-sound)

pub of-bad : (s : Session) (l : Link) (q : Outputs) (x : Refused) → good_record s l q ≡ false → of_good (good_record s l q) x ≡ refuses refusal.BadRecord
of-bad s l q x e = rw e

-- ---- the binding
pub within-bound : (w : World) (b : Option Binding) (x : Binding) (k : Binding → Did) (reason : Reason) → b ≡ Some x → within w b k reason ≡ ran_as w.queue reason (k x)
within-bound w b x k reason e = rw e

-- ---- the answer
pub answer-refused : {r : Called} {x : Refusal} {s : Session} {l : Link} {q : Outputs} (f : Refused) (m : Ran) → f ≡ refuses x → Unchanged r x s l q → AnsweredBy f r m s l q
answer-refused f m e u = rw e u

-- a step that nothing refused
pub answer-done : {r : Called} {t : Step} {d : Did} (f : Refused) (reason : Reason) (s : Session) (l : Link) (q : Outputs) → f ≡ passes → r ≡ called_of t reason → StepIs t (queue_of q) d → AnsweredBy f r (ran_as (queue_of q) reason d) s l q
answer-done f reason s l q e c h =
    rw (e, c)
    (record {
      session = h.session;
      queue = h.queue;
      is = ap (λ (a : After). record { world = record { session = a.session; link = link_after a.bound a.binding reason; queue = a.queue }; answer = a.answer }) h.is;
    })

module _ {r : Called} {s : Session} {l : Link} {q : Outputs} {b : Binding} {n : ℕ} (f : Refused) (k : Binding → Did) (y : Ready s l q (Some b) n) where
  -- a step of a binding
  pub answer-step : {t : Step} (reason : Reason) → f ≡ passes → r ≡ called_of t reason → StepIs t (queue_of q) (k b) → AnsweredBy f r (within (world_of s l q) l.binding k reason) s l q
  answer-step reason e c h = rw (within-bound (world_of s l q) l.binding b k reason y.binding) (answer-done f reason s l q e c h)

  -- a local step that was refused has left all as it was, with the reason that stood
  answer-still : (t : Step) (x : Refusal) (m : Ran) → f ≡ refuses x → r ≡ called_of t l.reason → t ≡ refused_step s b q x → AnsweredBy f r m s l q
  answer-still t x m e c h =
      let u : r ≡ record { session = s; link = record { binding = Some b; reason = l.reason }; queue = q; answer = Err x } = c ∙ ap (λ (v : Step). called_of v l.reason) h in
      answer-refused f m e
      (record {
        session = ap (λ (v : Called). v.session) u;
        link = ap (λ (v : Called). v.link) u ∙ ap (λ (v : Option Binding). record { binding = v; reason = l.reason }) (sym y.binding);
        queue = ap (λ (v : Called). v.queue) u;
        answer = ap (λ (v : Called). v.answer) u;
      })

  -- a local call: its own rule refuses it, or it passes
  pub answer-local : (t : Step) (w : Refused) → f ≡ w → r ≡ called_of t l.reason → LocalIs t s b q w (k b) → AnsweredBy f r (within (world_of s l q) l.binding k l.reason) s l q
  answer-local t passes e c h = answer-step l.reason e c h
  answer-local t (refuses x) e c h = answer-still t x _ e c h

  -- a terminate sets the reason where it passes
  pub answer-set : (t : Step) (w : Refused) (v : Verdict) (reason : Reason) → f ≡ w → t.answer ≡ Ok v → r ≡ called_of t reason → LocalIs t s b q w (k b) → AnsweredBy f r (within (world_of s l q) l.binding k reason) s l q
  answer-set t passes v reason e a c h = answer-step reason e c h
  answer-set t (refuses x) v reason e a c h = absurd (false≢true (ap is_refused (sym a) ∙ ap (λ (u : Step). is_refused u.answer) h))

  pub answer-kept : (t : Step) (w : Refused) (x : Refusal) (reason : Reason) → f ≡ w → is_refused (k b).answer ≡ false → t.answer ≡ Err x → r ≡ called_of t l.reason → LocalIs t s b q w (k b) → AnsweredBy f r (within (world_of s l q) l.binding k reason) s l q
  answer-kept t passes x reason e z a c h = absurd (true≢false (ap is_refused (sym a) ∙ ap (λ (u : After). is_refused u.answer) h.is ∙ z))
  answer-kept t (refuses x) y reason e z a c h = answer-still t x _ e c h

-- a refused call as what it stands for
pub refused-done : (r : Called) (x : Refusal) (s : Session) (l : Link) (q : Outputs) (w : World) → Unchanged r x s l q → SessWf s → OutsWf q → world_of s l q ≡ w → Done r (record { world = w; answer = Err x })
refused-done r x s l q w u hs hq e =
    record {
      session = rw u.session hs;
      queue = rw u.queue hq;
      is = (λ i. record { world = world_of (u.session i) (u.link i) (u.queue i); answer = u.answer i }) ∙ ap (λ (v : World). record { world = v; answer = Err x }) e;
    }

-- ---- a local call that its rule does not refuse answers no refusal
pub sent-answers : (now : Instant) (s : Sess) (b : Binding) → is_refused (send_application now s b).answer ≡ false
unfolding send_application answering
sent-answers now s b = go (is_sequenced s.local_flow) (answering _ (kept_alive now (allocate_outbound s b))) (did s (with_keepalive now b) [] bound.Stay (Ok (verdict.Sent None))) refl refl
  where
    go : (t : Bool) (x y : Did) → is_refused x.answer ≡ false → is_refused y.answer ≡ false → is_refused (if t then x else y).answer ≡ false
    go true x y p r = p
    go false x y p r = r

pub terminated-answers : (now : Instant) (code : TerminationCode) (text : Reason) (s : Sess) (b : Binding) → is_refused (terminate now code text s b).answer ≡ false
unfolding terminate
terminated-answers now code.Finished text s b = refl
terminated-answers now code.UnspecifiedError text s b = refl
terminated-answers now code.ReRequestOutOfBounds text s b = refl
terminated-answers now code.ReRequestInProgress text s b = refl

pub batch-answers : (now : Instant) (count : ℕ) (s : Sess) (b : Binding) → is_refused (retransmit now count s b).answer ≡ false
unfolding retransmit batch
batch-answers now count s b = go s.provider
  where
    go : (v : Option Provider) → is_refused (batch_at v now count s b).answer ≡ false
    go None = refl
    go (Some v) = refl

pub reject-answers : (code : RetransmitRejectCode) (text : Reason) (s : Sess) (b : Binding) → is_refused (reject_retransmit_request code text s b).answer ≡ false
unfolding reject_retransmit_request
reject-answers code text s b = go s.provider
  where
    go : (v : Option Provider) → is_refused (reject_at v code text s b).answer ≡ false
    go None = refl
    go (Some v) = refl

pub end-answers : (s : Sess) (b : Binding) → is_refused (end_retransmission s b).answer ≡ false
unfolding end_retransmission
end-answers s b = refl
