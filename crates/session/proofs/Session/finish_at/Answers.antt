-- The checks in the order of the rule, then the announcement, then finished.
use Rattle.std.specs.Prelude.{Option}
use borrow.Author.Tests.{eq-eqb, ne_eqb}
use native.Mathlib.Omega.{arith}
use mathlib.Core.Path.{◌≡◌, ap, sym, ◌∙◌}
use mathlib.Core.Bool.{true}
use Rattle.types.specs.States.{is_stay}
use Rattle.rules.specs.Names.{SeqNum}
use Rattle.rules.specs.Numbering.{next, on_next_seq}
use Rattle.rules.specs.Finishing.{last_at}
use Rattle.session.specs.View.{view, After}
use Rattle.session.proofs.Laws.{is_false, is_true, and-then-stay, and-then-end, step-length}
use Rattle.session.proofs.Few.{next-few}
use Rattle.session.proofs.Session.finish_at.Goals as goal

pub returns-in_default : goal.returns-in_default
returns-in_default c = rw (ap (λ (n : Option SeqNum). last_at n c.args.now c.args.stamp (view c.args.self) c.args.binding) c.in_default.is) c.violation.ensures

pub returns-then-number : goal.returns-then-number
returns-then-number c = rw (ap (λ (n : Option SeqNum). last_at n c.args.now c.args.stamp (view c.args.self) c.args.binding) c.in-Some.is, eq-eqb _ _ c.if-number.true) c.violation-then-number.ensures

pub returns-then-is_below : goal.returns-then-is_below
returns-then-is_below c = rw (ap (λ (n : Option SeqNum). last_at n c.args.now c.args.stamp (view c.args.self) c.args.binding) c.in-Some.is, ne_eqb _ _ c.if-number.false, is_true c.is_below.ensures c.if-is_below.true) c.violation-then-is_below.ensures

pub returns-then-not-is_stay : goal.returns-then-not-is_stay
returns-then-not-is_stay c = rw (ap (λ (n : Option SeqNum). last_at n c.args.now c.args.stamp (view c.args.self) c.args.binding) c.in-Some.is, ne_eqb _ _ c.if-number.false, is_false c.is_below.ensures c.if-is_below.false) (and-then-end _ _ _ _ c.on_next_seq-step.ensures (is_false c.is_stay.ensures c.if-not-is_stay.true))

pub finished_with-requires : goal.finished_with-requires
finished_with-requires c = record {
  session = (let n = next c.in-Some.number in
      let e : is_stay (on_next_seq c.args.now c.args.stamp n (view c.args.self) c.args.binding).bound ≡ true = ap (λ (x : After). is_stay x.bound) (sym c.on_next_seq-step.ensures.is) ∙ is_true c.is_stay.ensures c.if-not-is_stay.false in
      c.on_next_seq-step.ensures.session);
  queue = (let n = next c.in-Some.number in
      let e : is_stay (on_next_seq c.args.now c.args.stamp n (view c.args.self) c.args.binding).bound ≡ true = ap (λ (x : After). is_stay x.bound) (sym c.on_next_seq-step.ensures.is) ∙ is_true c.is_stay.ensures c.if-not-is_stay.false in
      c.on_next_seq-step.ensures.queue);
  room = (let n = next c.in-Some.number in
      let e : is_stay (on_next_seq c.args.now c.args.stamp n (view c.args.self) c.args.binding).bound ≡ true = ap (λ (x : After). is_stay x.bound) (sym c.on_next_seq-step.ensures.is) ∙ is_true c.is_stay.ensures c.if-not-is_stay.false in
      omega (arith, step-length _ _ _ c.on_next_seq-step.ensures, (next-few c.args.now c.args.stamp n (view c.args.self) c.args.binding).few e, c.requires.room));
}

pub returns : goal.returns
returns c = rw (ap (λ (n : Option SeqNum). last_at n c.args.now c.args.stamp (view c.args.self) c.args.binding) c.in-Some.is, ne_eqb _ _ c.if-number.false, is_false c.is_below.ensures c.if-is_below.false) (and-then-stay _ _ _ _ _ c.on_next_seq-step.ensures (is_true c.is_stay.ensures c.if-not-is_stay.false) c.finished_with.ensures)
