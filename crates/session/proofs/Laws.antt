-- How steps are put together: outputs before a step, a step after a step, another answer, and the room that outputs leave.
use Rattle.std.specs.Prelude.{if◌then◌else◌, None}
use Prim.Native.Nat.{ℕ, ◌+◌, ◌-◌, ◌<◌, ◌≤◌}
use mathlib.Core.Path.{◌≡◌, refl, ap, sym, ◌∙◌}
use mathlib.Core.Bool.{Bool, true, false, not}
use mathlib.Core.Logic.{◌⊎◌, inl, inr}
use mathlib.Core.List.{List, [], ◌∷◌, ◌++◌}
use lib.ListN.{length, length-append}
use borrow.Author.Tests.{eq-eqb, ne_eqb, eqb-true, eqb-false}
use native.Mathlib.Omega.{arith}
use lib.Dec.{eqb}
use Rattle.types.specs.States.{is_stay}
use Rattle.rules.specs.Names.message
use Rattle.rules.specs.Outputs.{send}
use Rattle.rules.specs.Numbering.{allocate_outbound}
use Rattle.rules.specs.Names.{Output, Binding, Answer}
use Rattle.rules.specs.Names.bound
use Rattle.rules.specs.State.{Sess, Queue, queued, Did, did, saying, answering, and_then}
use Rattle.queue.specs.View.{queue_of}
use Rattle.queue.proofs.Laws.{queued-append, queued-none}
use Rattle.session.specs.View.{view, StepIs, After, after, with_answer}
use Rattle.session.specs.declared.Step.{Step}
use borrow.Author.Tests.{le-leb, lt-leb, leb-true, leb-false}
use lib.Dec.{leb}
use Rattle.types.specs.Base.{all_ones, deadline_at}
use Rattle.types.specs.States.{with_keepalive}
use Rattle.rules.specs.Names.{Instant}
use Rattle.rules.specs.Local.{kept_alive}

-- ---- tests: what a method answered, and the branch that was taken
pub is_true : {t u : Bool} → t ≡ u → t ≡ true → u ≡ true
is_true e t = sym e ∙ t

pub is_false : {t u : Bool} → t ≡ u → t ≡ false → u ≡ false
is_false e t = sym e ∙ t

pub differs : {t u : Bool} → t ≡ not u → t ≡ true → u ≡ false
differs {u = true} e t = sym t ∙ e
differs {u = false} e t = refl

pub agrees : {t u : Bool} → t ≡ not u → t ≡ false → u ≡ true
agrees {u = true} e t = refl
agrees {u = false} e t = sym t ∙ e

-- one way of a match for two values, at which a function is the same
pub by_either : {A B : Type 0} (f : A → B) (x a b : A) → f a ≡ f b → (x ≡ a) ⊎ (x ≡ b) → f x ≡ f a
by_either f x a b e (inl p) = ap f p
by_either f x a b e (inr p) = ap f p ∙ sym e

-- a sum compared by the difference
pub eqb-moved : (a b d : ℕ) → b ≤ a → eqb (a - b) d ≡ eqb a (b + d)
eqb-moved a b d h = go (eqb a (b + d)) refl
  where
    go : (t : Bool) → eqb a (b + d) ≡ t → eqb (a - b) d ≡ eqb a (b + d)
    go true e = eq-eqb (a - b) d (omega (arith, eqb-true a (b + d) e)) ∙ sym e
    go false e = ne_eqb (a - b) d (λ z. eqb-false a (b + d) e (omega (arith, z, h))) ∙ sym e

-- ---- the queue
-- outputs queued after outputs queued
pub then-queued : (q a b : Queue) (l m : List Output) → a ≡ queued q l → b ≡ queued a m → b ≡ queued q (l ++ m)
then-queued q a b l m e f = f ∙ ap (λ (u : Queue). queued u m) e ∙ queued-append q l m

-- what outputs leave of the room
pub queued-length : (q a : Queue) (l : List Output) → a ≡ queued q l → length a.outs ≡ length q.outs + length l
unfolding queued
queued-length q a l e = ap (λ (u : Queue). length u.outs) e ∙ length-append q.outs l

-- ---- steps
-- a step behind outputs that are queued already
pub said : (r : Step) (q a : Queue) (l : List Output) (d : Did) → a ≡ queued q l → StepIs r a d → StepIs r q (saying l d)
unfolding saying
said r q a l d e h =
    record {
      session = h.session;
      queue = h.queue;
      is = h.is ∙ (λ i. record { session = d.session; binding = d.binding; queue = (ap (λ (u : Queue). queued u d.outs) e ∙ queued-append q l d.outs) i; bound = d.bound; answer = d.answer });
    }

-- the same step with another answer
pub answered-is : (r t : Step) (q : Queue) (d : Did) (a : Answer) → r ≡ with_answer a t → StepIs t q d → StepIs r q (answering a d)
unfolding answering
answered-is r t q d a e h =
    rw e
    (record {
      session = h.session;
      queue = h.queue;
      is = λ i. record { session = (h.is i).session; binding = (h.is i).binding; queue = (h.is i).queue; bound = (h.is i).bound; answer = a };
    })

-- a step from where another left off
pub onward : (r t : Step) (q : Queue) (d : Did) (k : Sess → Binding → Did) → StepIs r q d → StepIs t (queue_of r.queue) (k (view r.session) r.binding) → StepIs t q (saying d.outs (k d.session d.binding))
onward r t q d k h u =
    let v = said t q (queue_of r.queue) d.outs (k (view r.session) r.binding) (ap (λ (a : After). a.queue) h.is) u in
    record { session = v.session; queue = v.queue; is = v.is ∙ ap (λ (a : After). after q (saying d.outs (k a.session a.binding))) h.is }

pub and-then-stay : (r t : Step) (q : Queue) (d : Did) (k : Sess → Binding → Did) → StepIs r q d → is_stay r.bound ≡ true → StepIs t (queue_of r.queue) (k (view r.session) r.binding) → StepIs t q (and_then d k)
unfolding and_then
and-then-stay r t q d k h e u =
    let f : is_stay d.bound ≡ true = ap (λ (a : After). is_stay a.bound) (sym h.is) ∙ e in
    rw f (onward r t q d k h u)

pub and-then-end : (r : Step) (q : Queue) (d : Did) (k : Sess → Binding → Did) → StepIs r q d → is_stay r.bound ≡ false → StepIs r q (and_then d k)
unfolding and_then
and-then-end r q d k h e =
    let f : is_stay d.bound ≡ false = ap (λ (a : After). is_stay a.bound) (sym h.is) ∙ e in
    rw f h

-- what a step queued, and what that leaves of the room
pub step-length : (r : Step) (q : Queue) (d : Did) → StepIs r q d → length (queue_of r.queue).outs ≡ length q.outs + length d.outs
step-length r q d h = queued-length q (queue_of r.queue) d.outs (ap (λ (a : After). a.queue) h.is)

-- ---- how many outputs a step adds, where another step follows it
pub allocate-few : (s : Sess) (b : Binding) → length (allocate_outbound s b).outs ≤ 1
unfolding allocate_outbound
allocate-few s b = go b.in_sequence
  where
    go : (t : Bool) → length (if t then [] else (send (message.Sequence (record { next_seq_no = s.outbound_next })) ∷ [])) ≤ 1
    go true = omega arith
    go false = omega arith

-- an answered step whose keepalive starts anew
pub kept-alive : (r t : Step) (q : Queue) (d : Did) (now : Instant) (a : Answer) → StepIs r q d → d.bound ≡ bound.Stay → StepIs t (queue_of r.queue) (did (view r.session) (with_keepalive now r.binding) [] bound.Stay a) → StepIs t q (answering a (kept_alive now d))
unfolding answering
kept-alive r t q d now a h u g =
    record {
      session = g.session;
      queue = g.queue;
      is =
          g.is
          ∙ (λ i. record { session = (h.is i).session; binding = with_keepalive now (h.is i).binding; queue = (queued-none (queue_of r.queue) ∙ ap (λ (x : After). x.queue) h.is) i; bound = sym u i; answer = a });
    }

-- ---- numbers
-- an end compared by the difference
pub leb-moved : (a b d : ℕ) → a ≤ b → leb d (b - a) ≡ leb (a + d) b
leb-moved a b d h = go (leb (a + d) b) refl
  where
    go : (t : Bool) → leb (a + d) b ≡ t → leb d (b - a) ≡ leb (a + d) b
    go true e = le-leb d (b - a) (omega (arith, leb-true (a + d) b e)) ∙ sym e
    go false e = lt-leb d (b - a) (omega (arith, leb-false (a + d) b e, h)) ∙ sym e

-- an instant past the largest is no deadline
pub deadline-over : (n : ℕ) → all_ones < n → None ≡ deadline_at n
unfolding deadline_at
deadline-over n h = rw (lt-leb n all_ones h)
