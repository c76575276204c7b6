-- Laws of a run: the records one behind another, what a record leaves, and how the lines go on.
use Rattle.std.specs.Prelude.{if◌then◌else◌, Option}
use Rattle.std.specs.Borrow.{Bor}
use Prim.Native.Nat.{ℕ, zero, suc, ◌+◌, ◌-◌, ◌*◌, ◌<◌, ◌≤◌}
use mathlib.Core.Path.{◌≡◌, refl, ap, sym, subst, ◌∙◌}
use mathlib.Core.Bool.{Bool, true, false, false≢true}
use mathlib.Core.List.{List, [], ◌∷◌, ◌++◌, append_assoc}
use native.Mathlib.Omega.{arith}
use borrow.Author.Tests.{lt-ltb, le-ltb, le-leb, leb-true}
use lib.ListN.{length, take, drop}
use lib.Dec.{leb}
use Rattle.types.specs.States.{link_status}
use Rattle.rules.specs.Names.{SessionId, FlowType, FixpConfig, Link, Answer, Output}
use Rattle.rules.specs.Queries.{next_inbound_seq}
use Rattle.rules.specs.Calls.{World, Ran, call}
use Rattle.rings.specs.Ring.{ring_list}
use Rattle.rings.specs.View.{list_of, sound_gaps, GapsWf}
use Rattle.rings.specs.declared.gaps.Gaps.{Gaps}
use Rattle.queue.specs.View.{queue_of, outs_of, OutsWf}
use Rattle.queue.specs.declared.Outputs.{Outputs}
use Rattle.session.specs.View.{view, SessWf}
use Rattle.session.specs.declared.Session.{Session}
use Rattle.calls.specs.View.{world_of, Answered}
use Rattle.calls.specs.declared.Called.{Called}
use Rattle.promises.proofs.InOrder.{in-order-is-the-rule, in-order-after}
use Rattle.trace.specs.Format.{decode, framed, header}
use Rattle.trace.specs.Places.{size_at, Next}
use Rattle.trace.specs.Text.{line_text, stop_text, end_text, Adds}
use Rattle.trace.specs.declared.records.Record.{Record}
use Rattle.trace.specs.declared.records.Entry.{Entry}
use Rattle.trace.specs.declared.records.Entry.TheVariants as entry
use Rattle.replay.specs.Missing.{missing_figure}
use Rattle.replay.specs.Stepped.{Stepped}
use Rattle.replay.specs.Run.{records_from, goes_on, asks, emptied, line_after, lines_from}

-- ---- the records
pub records-next : (k : ℕ) (s : List ℕ) (at : ℕ) → at < length s → length s ≤ at + k → records_from k s at ≡ decode (take (size_at s at) (drop at s)) ∷ records_from (k - 1) s (at + size_at s at)
unfolding records_from
records-next zero s at h e = absurd (omega arith)
records-next (suc k) s at h e = let p : suc k - 1 ≡ k = omega arith in rw (lt-ltb at (length s) h, p)

pub records-none : (k : ℕ) (s : List ℕ) (at : ℕ) → length s ≤ at → records_from k s at ≡ []
unfolding records_from
records-none zero s at h = refl
records-none (suc k) s at h = rw (le-ltb at (length s) h)

-- a record that is not malformed has a header
pub framed-long : (s : List ℕ) → ((decode s).entry ≡ entry.Malformed → ⊥) → header ≤ length s
unfolding decode framed
framed-long s g = go (leb header (length s)) refl
  where
    go : (t : Bool) → leb header (length s) ≡ t → header ≤ length s
    go true e = leb-true header (length s) e
    go false e = absurd (g (rw e))

pub goes-on-framed : (s : List ℕ) → goes_on (decode s).entry ≡ true → header ≤ length s
goes-on-framed s g = framed-long s (λ e. false≢true (ap goes_on (sym e) ∙ g))

pub open-framed : (s : List ℕ) (i : SessionId) (l r : FlowType) (k : FixpConfig) → (decode s).entry ≡ entry.Open i l r k → header ≤ length s
open-framed s i l r k o = framed-long s (λ e. false≢true (ap is_open (sym e) ∙ ap is_open o))
  where
    is_open : Entry → Bool
    is_open (entry.Open i l r g) = true
    is_open (entry.Bind l r n) = false
    is_open entry.Release = false
    is_open entry.Application = false
    is_open (entry.Peer m) = false
    is_open entry.Send = false
    is_open (entry.Terminate k) = false
    is_open (entry.Retransmit n) = false
    is_open (entry.Reject k) = false
    is_open entry.End = false
    is_open entry.Timeout = false
    is_open entry.Malformed = false

-- the record read next, of a trace whose bytes are the input's
pub next-of : (a b : Bor (List ℕ)) (at : ℕ) (r : Option (Bor (List ℕ))) (after : ℕ) → b ≡ a → Next b at r after → Next a at r after
next-of a b at r after e n = subst (λ (x : Bor (List ℕ)). Next x at r after) e n

-- and of a trace at its start
pub at-start : (b : Bor (List ℕ)) (at : ℕ) (s : Bor (List ℕ)) (r : Option (Bor (List ℕ))) (after : ℕ) → b ≡ s → at ≡ 0 → Next b at r after → Next s 0 r after
at-start b at s r after e z n = subst (λ (x : ℕ). Next s x r after) z (next-of s b at r after e n)

-- ---- what a record leaves
pub stepped_line : (r : Record) (w : World) (s : Session) (l : Link) (q : Outputs) (a : Answer) (n index : ℕ) → Stepped r w s l q a n → line_text index a (link_status l.binding) (next_inbound_seq (view s)) (length (view s).gaps.missing) n ≡ line_after index (call (asks r) w)
stepped_line r w s l q a n index h =
    λ i. line_text index (h.answer i) (link_status (h.world i).link.binding) (next_inbound_seq (h.world i).session) (length (h.world i).session.gaps.missing) (h.outputs i)

-- an empty ring is an empty list
pub no-outs : (q : Outputs) → q.count ≡ 0 → outs_of q ≡ []
unfolding outs_of ring_list
no-outs q e = rw e

-- a queue that is emptied
abbrev pub drained : Outputs → Outputs
drained q = record { slots = q.slots; head = q.head; count = 0; closing = q.closing }

pub plain-steps : (r : Record) (s : Session) (l : Link) (q : Outputs) (d : Called) → SessWf s → OutsWf q → Answered (asks r) d s l q → Stepped r (world_of s l q) d.session d.link (drained d.queue) d.answer (length (queue_of d.queue).outs)
plain-steps r s l q d sw qw a =
    let is = in-order-is-the-rule s l q sw qw (asks r) d a in
    let wf = in-order-after s l q sw qw (asks r) d a in
    record {
      session = wf.0;
      queue = record { head_in = wf.1.head_in; count_in = omega arith };
      world = drains ∙ ap (λ (x : Ran). emptied x.world) is;
      answer = ap (λ (x : Ran). x.answer) is;
      outputs = ap (λ (x : Ran). length x.world.queue.outs) is;
    }
  where
    drains : world_of d.session d.link (drained d.queue) ≡ emptied (world_of d.session d.link d.queue)
    drains = ap (λ (o : List Output). record { session = view d.session; link = d.link; queue = record { outs = o; closing = d.queue.closing } }) (no-outs (drained d.queue) refl)

-- rings in order pass their test
sound-in-order : (g : Gaps) → GapsWf g → sound_gaps g ≡ true
unfolding sound_gaps
sound-in-order g wf = rw (lt-ltb _ _ wf.missing.head_in, le-leb _ _ wf.missing.count_in, lt-ltb _ _ wf.overflow_received.head_in, le-leb _ _ wf.overflow_received.count_in)

-- of a session in order, its gaps' own figure
pub sound-missing : (s : Session) → SessWf s → (if sound_gaps s.gaps then missing_figure (list_of s.gaps.missing) else 0) ≡ missing_figure (view s).gaps.missing
sound-missing s wf = rw (sound-in-order s.gaps wf.gaps)

-- ---- how the lines go on
line_first : (index : ℕ) (w : World) (r : Record) (rest : List Record) → goes_on r.entry ≡ true → lines_from index w (r ∷ rest) ≡ line_after index (call (asks r) w) ++ lines_from (index + 1) (emptied (call (asks r) w).world) rest
unfolding lines_from
line_first index w r rest g = rw g

pub line-then : (t t' line goal : List ℕ) (index : ℕ) (w w' : World) (r : Record) (rest : List Record) → goes_on r.entry ≡ true → t ++ lines_from index w (r ∷ rest) ≡ goal → t' ≡ t ++ line → line ≡ line_after index (call (asks r) w) → w' ≡ emptied (call (asks r) w).world → t' ++ lines_from (index + 1) w' rest ≡ goal
line-then t t' line goal index w w' r rest g said e l p =
    ap (λ (x : List ℕ). x ++ lines_from (index + 1) w' rest) e
    ∙ append_assoc t line (lines_from (index + 1) w' rest)
    ∙ (λ i. t ++ (l i ++ lines_from (index + 1) (p i) rest))
    ∙ sym (ap (λ (x : List ℕ). t ++ x) (line_first index w r rest g))
    ∙ said

pub stops : (index : ℕ) (w : World) (r : Record) (rest : List Record) → goes_on r.entry ≡ false → lines_from index w (r ∷ rest) ≡ stop_text index
unfolding lines_from
stops index w r rest g = rw g

pub ends : (index : ℕ) (w : World) → lines_from index w [] ≡ end_text (missing_figure w.session.gaps.missing)
unfolding lines_from
ends index w = refl

pub stepped-as : (r : Record) (w : World) (s s' : Session) (l l' : Link) (q q' : Outputs) (a a' : Answer) (n n' : ℕ) → s ≡ s' → l ≡ l' → q ≡ q' → a ≡ a' → n ≡ n' → Stepped r w s' l' q' a' n' → Stepped r w s l q a n
stepped-as r w s s' l l' q q' a a' n n' es el eq ea en h = subst (λ (x : Session × Link × Outputs × Answer × ℕ). Stepped r w x.0 x.1 x.2 x.3 x.4) (λ i. (sym es i, sym el i, sym eq i, sym ea i, sym en i)) h

-- ---- the run between two records
-- what was printed so far, and what the records from here on print, are the goal; there is room for the lines to come
pub record Running (s goal : List ℕ) (room : ℕ) (out : List ℕ) (session : Session) (link : Link) (queue : Outputs) (wrote at index : ℕ) : Type 0 where
  pub inside : at ≤ length s
  pub steps : 20 * index ≤ at
  pub wrote_in : wrote ≤ 144 + 144 * index
  pub same : length out ≡ room
  pub session_wf : SessWf session
  pub queue_wf : OutsWf queue
  pub left : ℕ
  pub enough : length s ≤ at + left
  pub said : take wrote out ++ lines_from index (world_of session link queue) (records_from left s at) ≡ goal

module _ (s goal : List ℕ) (room : ℕ) (out : List ℕ) (session : Session) (link : Link) (queue : Outputs) (wrote at index : ℕ) (run : Running s goal room out session link queue wrote at index) where
  -- with a record in front
  in-front : at < length s → (r : Record) → r ≡ decode (take (size_at s at) (drop at s)) → take wrote out ++ lines_from index (world_of session link queue) (r ∷ records_from (run.left - 1) s (at + size_at s at)) ≡ goal
  in-front h r e =
      (λ i. take wrote out ++ lines_from index (world_of session link queue) (e i ∷ records_from (run.left - 1) s (at + size_at s at)))
      ∙ ap (λ (x : List Record). take wrote out ++ lines_from index (world_of session link queue) x) (sym (records-next run.left s at h run.enough))
      ∙ run.said

  pub runs_on : at < length s → (r : Record) → r ≡ decode (take (size_at s at) (drop at s)) → goes_on r.entry ≡ true → (s' : Session) (l' : Link) (q' : Outputs) (a : Answer) (n : ℕ) → Stepped r (world_of session link queue) s' l' q' a n → (out' : List ℕ) (wrote' : ℕ) → Adds out wrote (line_text index a (link_status l'.binding) (next_inbound_seq (view s')) (length (view s').gaps.missing) n) 144 out' wrote' → length out' ≡ length out → (len : ℕ) → len ≡ size_at s at → 20 ≤ len → at + len ≤ length s → Running s goal room out' s' l' q' wrote' (at + len) (index + 1)
  runs_on h r e g s' l' q' a n t out' wrote' add same len l long inside =
      record {
        inside = inside;
        steps = omega (arith, run.steps);
        wrote_in = omega (arith, run.wrote_in, add.room);
        same = same ∙ run.same;
        session_wf = t.session;
        queue_wf = t.queue;
        left = run.left - 1;
        enough = omega (arith, run.enough);
        said =
            ap (λ (x : ℕ). take wrote' out' ++ lines_from (index + 1) (world_of s' l' q') (records_from (run.left - 1) s (at + x))) l
            ∙ line-then (take wrote out) (take wrote' out') _ goal index (world_of session link queue) (world_of s' l' q') r (records_from (run.left - 1) s (at + size_at s at)) g (in-front h r e) add.is (stepped_line r (world_of session link queue) s' l' q' a n index t) t.world;
      }

  pub runs-stop : at < length s → (r : Record) → r ≡ decode (take (size_at s at) (drop at s)) → goes_on r.entry ≡ false → (out' : List ℕ) (wrote' : ℕ) → take wrote' out' ≡ take wrote out ++ stop_text index → take wrote' out' ≡ goal
  runs-stop h r e g out' wrote' p =
      p
      ∙ ap (λ (x : List ℕ). take wrote out ++ x) (sym (stops index (world_of session link queue) r (records_from (run.left - 1) s (at + size_at s at)) g))
      ∙ in-front h r e

  pub runs-end : length s ≤ at → (out' : List ℕ) (wrote' m : ℕ) → m ≡ missing_figure (view session).gaps.missing → take wrote' out' ≡ take wrote out ++ end_text m → take wrote' out' ≡ goal
  runs-end h out' wrote' m k p =
      p
      ∙ ap (λ (x : ℕ). take wrote out ++ end_text x) k
      ∙ ap (λ (x : List ℕ). take wrote out ++ x) (sym (ends index (world_of session link queue)))
      ∙ ap (λ (x : List Record). take wrote out ++ lines_from index (world_of session link queue) x) (sym (records-none run.left s at h))
      ∙ run.said
