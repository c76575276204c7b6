-- The number is announced, then recovery is resumed; an unsequenced peer has none.
use Rattle.std.specs.Prelude.{Option}
use native.Mathlib.Omega.{arith}
use mathlib.Core.Path.{◌≡◌, ap, sym, ◌∙◌}
use mathlib.Core.Bool.{true}
use Rattle.types.specs.States.{is_stay}
use Rattle.rules.specs.Names.{SeqNum}
use Rattle.rules.specs.Numbering.{on_next_seq}
use Rattle.rules.specs.Binding.{established_at, on_established}
use Rattle.session.specs.View.{view, After}
use Rattle.session.proofs.Laws.{is_false, is_true, and-then-stay, and-then-end, step-length}
use Rattle.session.proofs.Few.{next-few}
use Rattle.session.proofs.Session.on_established.Goals as goal

pub returns-then-not-is_sequenced : goal.returns-then-not-is_sequenced
unfolding on_established
returns-then-not-is_sequenced c = rw (is_false c.is_sequenced.ensures c.if-not-is_sequenced.true) c.resume.ensures

pub returns-in_default : goal.returns-in_default
unfolding on_established
returns-in_default c = rw (is_true c.is_sequenced.ensures c.if-not-is_sequenced.false, ap (λ (n : Option SeqNum). established_at n c.args.now c.args.stamp (view c.args.self) c.args.binding) c.in_default.is) c.resume-in_default.ensures

pub returns-then-not-is_stay : goal.returns-then-not-is_stay
unfolding on_established
returns-then-not-is_stay c = rw (is_true c.is_sequenced.ensures c.if-not-is_sequenced.false, ap (λ (n : Option SeqNum). established_at n c.args.now c.args.stamp (view c.args.self) c.args.binding) c.in-Some.is) (and-then-end _ _ _ _ c.on_next_seq-step.ensures (is_false c.is_stay.ensures c.if-not-is_stay.true))

pub resume-requires-2 : goal.resume-requires-2
resume-requires-2 c = record {
  session = (let e : is_stay (on_next_seq c.args.now c.args.stamp c.in-Some.number (view c.args.self) c.args.binding).bound ≡ true = ap (λ (x : After). is_stay x.bound) (sym c.on_next_seq-step.ensures.is) ∙ is_true c.is_stay.ensures c.if-not-is_stay.false in
      c.on_next_seq-step.ensures.session);
  queue = (let e : is_stay (on_next_seq c.args.now c.args.stamp c.in-Some.number (view c.args.self) c.args.binding).bound ≡ true = ap (λ (x : After). is_stay x.bound) (sym c.on_next_seq-step.ensures.is) ∙ is_true c.is_stay.ensures c.if-not-is_stay.false in
      c.on_next_seq-step.ensures.queue);
  room = (let e : is_stay (on_next_seq c.args.now c.args.stamp c.in-Some.number (view c.args.self) c.args.binding).bound ≡ true = ap (λ (x : After). is_stay x.bound) (sym c.on_next_seq-step.ensures.is) ∙ is_true c.is_stay.ensures c.if-not-is_stay.false in
      omega (arith, step-length _ _ _ c.on_next_seq-step.ensures, (next-few c.args.now c.args.stamp c.in-Some.number (view c.args.self) c.args.binding).few e, c.requires.room));
}

pub returns : goal.returns
unfolding on_established
returns c = rw (is_true c.is_sequenced.ensures c.if-not-is_sequenced.false, ap (λ (n : Option SeqNum). established_at n c.args.now c.args.stamp (view c.args.self) c.args.binding) c.in-Some.is) (and-then-stay _ _ _ _ _ c.on_next_seq-step.ensures (is_true c.is_stay.ensures c.if-not-is_stay.false) c.resume-2.ensures)
