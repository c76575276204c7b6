-- Outcomes that a contract admits together are equal (01, "How much a contract has to say"): two records that stand for the same
-- lists are answered alike, wherever in their rings the lists stand.
use Rattle.std.specs.Prelude.{Option, Some, None, Result, Ok, Err}
use mathlib.Core.Path.{◌≡◌, refl, ap, sym, ◌∙◌}
use mathlib.Core.Bool.{Bool, true, false}
use mathlib.Core.List.{List, [], ◌∷◌}
use Rattle.rules.specs.Names.{Link, Refusal, Output}
use Rattle.rules.specs.Names.refusal
use Rattle.rules.specs.State.{Queue}
use Rattle.rules.specs.Local.{Refused, passes, refuses}
use Rattle.rules.specs.Calls.{World, Call, wrong, does, Ran, ran_if, call, reading, polled, transport_closed}
use Rattle.queue.specs.View.{queue_of}
use Rattle.queue.specs.declared.Outputs.{Outputs}
use Rattle.session.specs.declared.Session.{Session}
use Rattle.calls.specs.View.{world_of, good_record, view_called, Done, AnsweredBy, Answered, of_good, if_good}
use Rattle.reading.specs.Reading.{PolledOf, PolledBy, ClosedBy}
use Rattle.calls.specs.declared.Called.{Called}
use Rattle.reading.specs.declared.Polled.{Polled}
use Rattle.reading.specs.declared.Closed.{Closed}
use Rattle.calls.proofs.Laws.{good-sound}

-- ---- what a contract says is one outcome
-- of a record that is good or not, the world and the answer
abbrev pub outcome : Bool → Call → World → Ran
outcome good c w = ran_if (of_good good (wrong c w)) (does c w) w

ran-as : (f : Refused) (r : Called) (m : Ran) (s : Session) (l : Link) (q : Outputs) → AnsweredBy f r m s l q → view_called r ≡ ran_if f m (world_of s l q)
ran-as passes r m s l q a = a.is
ran-as (refuses x) r m s l q a = λ i. record { world = world_of (a.session i) (a.link i) (a.queue i); answer = a.answer i }

pub answered-is : (c : Call) (r : Called) (s : Session) (l : Link) (q : Outputs) → Answered c r s l q → view_called r ≡ outcome (good_record s l q) c (world_of s l q)
answered-is c r s l q a = ran-as (of_good (good_record s l q) (wrong c (world_of s l q))) r (does c (world_of s l q)) s l q a

-- of a good record it is what the rule book's call does
pub good-is-the-rule : (c : Call) (r : Called) (s : Session) (l : Link) (q : Outputs) → good_record s l q ≡ true → Answered c r s l q → view_called r ≡ call c (world_of s l q)
unfolding call
good-is-the-rule c r s l q g a = answered-is c r s l q a ∙ ap (λ (t : Bool). outcome t c (world_of s l q)) g

-- ---- the calls
-- "two concrete sessions that stand for the same lists give the same answers, queues and lists"; both good, or both bad
pub same-lists-answer-alike : (c : Call) (r r' : Called) (s s' : Session) (l l' : Link) (q q' : Outputs) → good_record s l q ≡ good_record s' l' q' → world_of s l q ≡ world_of s' l' q' → Answered c r s l q → Answered c r' s' l' q' → view_called r ≡ view_called r'
same-lists-answer-alike c r r' s s' l l' q q' g w a b =
    answered-is c r s l q a ∙ (λ i. outcome (g i) c (w i)) ∙ sym (answered-is c r' s' l' q' b)

-- one record has one outcome
pub contract-fixes-the-outcome : (c : Call) (r r' : Called) (s : Session) (l : Link) (q : Outputs) → Answered c r s l q → Answered c r' s l q → view_called r ≡ view_called r'
contract-fixes-the-outcome c r r' s l q a b = same-lists-answer-alike c r r' s s l l q q refl refl a b

-- an open, refused or not
pub open-fixes-the-outcome : (m : Ran) (r r' : Called) → Done r m → Done r' m → view_called r ≡ view_called r'
open-fixes-the-outcome m r r' a b = a.is ∙ sym b.is

-- where a call is refused, the records that may come back are the same, ring for ring
pub refused-is-one-record : (c : Call) (x : Refusal) (r r' : Called) (s : Session) (l : Link) (q : Outputs) → of_good (good_record s l q) (wrong c (world_of s l q)) ≡ refuses x → Answered c r s l q → Answered c r' s l q → r ≡ r'
refused-is-one-record c x r r' s l q e a b = go _ e a b
  where
    go : (f : Refused) → f ≡ refuses x → AnsweredBy f r (does c (world_of s l q)) s l q → AnsweredBy f r' (does c (world_of s l q)) s l q → r ≡ r'
    go passes e a b = cc
    go (refuses y) e a b =
        λ i.
        record {
          session = (a.session ∙ sym b.session) i;
          link = (a.link ∙ sym b.link) i;
          queue = (a.queue ∙ sym b.queue) i;
          answer = (a.answer ∙ sym b.answer) i;
        }

-- ---- the reading calls
-- nothing but a bad record refuses them, as the rule book says
pub good-is-read : (s : Session) (l : Link) (q : Outputs) → good_record s l q ≡ true → reading (world_of s l q) ≡ passes
good-is-read s l q g = rw (good-sound s l q g)

-- a query's answer is made of whether the record is good and of what it stands for
pub same-lists-queried-alike : {A B : Type 0} (f : Bool → A → B) (v : World → A) (r r' : B) (s s' : Session) (l l' : Link) (q q' : Outputs) → good_record s l q ≡ good_record s' l' q' → world_of s l q ≡ world_of s' l' q' → r ≡ f (good_record s l q) (v (world_of s l q)) → r' ≡ f (good_record s' l' q') (v (world_of s' l' q')) → r ≡ r'
same-lists-queried-alike f v r r' s s' l l' q q' g w a b = a ∙ (λ i. f (g i) (v (w i))) ∙ sym b

-- what a poll leaves and gives, with the queue as a list
pub record Poll : Type 0 where
  pub queue : Queue
  pub output : Result (Option Output) Refusal

abbrev pub view_polled : Polled → Poll
view_polled r = record { queue = queue_of r.queue; output = r.output }

abbrev poll_of : List Output → Queue → Poll
poll_of [] q = record { queue = q; output = Ok None }
poll_of (o ∷ l) q = record { queue = polled q; output = Ok (Some o) }

abbrev poll_by : Bool → Queue → Poll
poll_by true q = poll_of q.outs q
poll_by false q = record { queue = q; output = Err refusal.BadRecord }

polled-is : (good : Bool) (r : Polled) (q : Outputs) → PolledBy good r q → view_polled r ≡ poll_by good (queue_of q)
polled-is false r q a = ap view_polled a
polled-is true r q a = go (queue_of q).outs a
  where
    go : (l : List Output) → PolledOf l r q → view_polled r ≡ poll_of l (queue_of q)
    go [] a = ap view_polled a
    go (o ∷ l) a = λ i. record { queue = a.queue.is i; output = a.output i }

pub same-lists-polled-alike : (r r' : Polled) (s s' : Session) (l l' : Link) (q q' : Outputs) → good_record s l q ≡ good_record s' l' q' → queue_of q ≡ queue_of q' → PolledBy (good_record s l q) r q → PolledBy (good_record s' l' q') r' q' → view_polled r ≡ view_polled r'
same-lists-polled-alike r r' s s' l l' q q' g w a b =
    polled-is (good_record s l q) r q a ∙ (λ i. poll_by (g i) (w i)) ∙ sym (polled-is (good_record s' l' q') r' q' b)

-- a report of a closed transport
abbrev closed_by : Bool → Queue → Queue
closed_by true q = transport_closed q
closed_by false q = q

closed_is : (good : Bool) (r : Closed) (q : Outputs) → ClosedBy good r q → (queue_of r.queue ≡ closed_by good (queue_of q)) × (r.answer ≡ if_good good tt)
closed_is true r q a = (a.queue.is, a.answer)
closed_is false r q a = (ap (λ (x : Closed). queue_of x.queue) a, ap (λ (x : Closed). x.answer) a)

pub same-lists-closed-alike : (r r' : Closed) (s s' : Session) (l l' : Link) (q q' : Outputs) → good_record s l q ≡ good_record s' l' q' → queue_of q ≡ queue_of q' → ClosedBy (good_record s l q) r q → ClosedBy (good_record s' l' q') r' q' → (queue_of r.queue ≡ queue_of r'.queue) × (r.answer ≡ r'.answer)
same-lists-closed-alike r r' s s' l l' q q' g w a b =
    let x = closed_is (good_record s l q) r q a in
    let y = closed_is (good_record s' l' q') r' q' b in
    (x.0 ∙ (λ i. closed_by (g i) (w i)) ∙ sym y.0, x.1 ∙ (λ i. if_good (g i) tt) ∙ sym y.1)
